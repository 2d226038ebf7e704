-- The writer (01, "The writer"): what opening, adding and closing answer, and the state that each hands back.
use Rattle.std.specs.Prelude.{ℕ, ◌+◌, Bool, true, false, not, ◌&&◌, List, leb, ltb, eqb, ℤ, length, Option, None, Some, Result, Ok, Err}
use Rattle.sim0mq.specs.Answer.{Answer, fine, refused, ◌>>=◌, ◌>>◌, guard}
use Rattle.sim0mq.specs.Payload.{payload}
use Rattle.sim0mq.specs.Message.{limit}
use Rattle.sim0mq.specs.declared.Refusal.{Refusal}
use Rattle.sim0mq.specs.Views.{number_of, judged}
use Rattle.sim0mq_kinds.specs.declared.Scalar.{Scalar}
use Rattle.writing_encoding.specs.Scalars.{scalar_given}
use Rattle.writing_opening.specs.Opening.{header_with, header_given, fitting}
use Rattle.writing.specs.declared.Writer.{Writer}
use Rattle.writing.specs.declared.Wrote.{Wrote}

-- What opening is asked for: the four ids as encoded frames, the message number, the status, the declared number of
-- fields, the type of that count.
pub record Opening : Type 0 where
  pub ids : List ℕ
  pub number : ℤ
  pub status : ℕ
  pub fields : ℕ
  pub kind : Option ℕ

abbrev pub asks_for : List ℕ → ℤ → ℕ → ℕ → Option ℕ → Opening
asks_for ids number status fields kind = record { ids = ids; number = number; status = status; fields = fields; kind = kind }

-- The type code of the count: the one that is stated, or 2, the manual's standard coding (000, 2.3; 02, Ticket 8).
unfoldable pub count_code : Option ℕ → ℕ
count_code None = 2
count_code (Some c) = c

-- The header that is asked for.
abbrev pub header_text : Opening → List ℕ
header_text o = header_with o.ids o.number o.status (count_code o.kind) o.fields

-- Opening, in a buffer of `room` bytes: the header that is asked for, or the refusal.
abbrev pub opening : Opening → ℕ → Answer (List ℕ)
opening o room = header_given o.ids o.number o.status (count_code o.kind) o.fields room

-- What adding is given: one encoded field, or a scalar.
pub data Given : Type 0 where
  encoded : List ℕ → Given
  scalar : Scalar → Given

-- The field's bytes, or its own refusals: those of a payload of one field, or 17.
unfoldable pub field_given : Given → Answer (List ℕ)
field_given (encoded l) = do
  fs ← payload l 1
  fine l
field_given (scalar v) = scalar_given v

-- Does this state take a field, in a buffer of `room` bytes (15)?
unfoldable pub takes : Writer → ℕ → Bool
takes w room = ltb w.added w.declared && (not w.closed && (leb w.written limit && leb w.written room))

-- Adding: the state (15), the field's own refusals, then length (8) and room (14); the answer is the field's bytes.
unfoldable pub adding : Writer → ℕ → Given → Answer (List ℕ)
adding w room g = do
  guard (takes w room) 15 0
  l ← field_given g
  fitting w.written room l

-- Closing: 15 where the state is closed, has written too much, or not exactly the declared number was added; the answer
-- is the message's length.
unfoldable pub closing : Writer → Answer ℕ
closing w = do
  guard (not w.closed && (leb w.written limit && eqb w.added w.declared)) 15 0
  fine w.written

-- What a call hands back: what it says, which where it is granted is the number of bytes written so far, and the state.
pub record Handed : Type 0 where
  pub said : Answer ℕ
  pub writer : Writer

-- A refused opening hands back a closed state with every number 0; a refused adding or closing the state it took.
abbrev pub after_opening : Opening → Answer (List ℕ) → Handed
after_opening o (fine text) =
    record { said = fine (length text); writer = record { written = length text; declared = o.fields; added = 0; closed = false } }
after_opening o (refused k p) =
    record { said = refused k p; writer = record { written = 0; declared = 0; added = 0; closed = true } }

abbrev pub after_adding : Writer → Answer (List ℕ) → Handed
after_adding w (fine text) =
    record {
      said = fine (w.written + length text);
      writer = record { written = w.written + length text; declared = w.declared; added = w.added + 1; closed = false };
    }
after_adding w (refused k p) = record { said = refused k p; writer = w }

abbrev pub after_closing : Writer → Answer ℕ → Handed
after_closing w (fine n) =
    record { said = fine n; writer = record { written = w.written; declared = w.declared; added = w.added; closed = true } }
after_closing w (refused k p) = record { said = refused k p; writer = w }

-- What the code hands back, in these words; and what it hands back on a state, by what the call led to.
abbrev pub wrote_as : Wrote → Handed
wrote_as r = record { said = judged r.said; writer = r.writer }

abbrev pub handed : Writer → Result Writer Refusal → Handed
handed w (Ok v) = record { said = fine v.written; writer = v }
handed w (Err r) = record { said = refused (number_of r.reason) r.place; writer = w }
