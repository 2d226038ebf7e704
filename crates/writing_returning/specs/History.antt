-- What opening, adding and closing can lead to (01, "The writer"): a history begins with a granted opening, and each
-- further call takes the state last handed back and one same buffer, granted or refused.
use Rattle.std.specs.Prelude.{ℕ, ◌+◌, ◌≡◌, true, List, [], ◌∷◌, ◌++◌, length, take}
use Rattle.sim0mq.specs.Answer.{Answer, fine, refused}
use Rattle.writing_encoding.specs.Scalars.{scalar_text}
use Rattle.writing_opening.specs.Opening.{buffer_after}
use Rattle.writing.specs.Writing.{Opening, opening, after_opening, Given, encoded, scalar, adding, after_adding, closing, after_closing}
use Rattle.writing.specs.declared.Writer.{Writer}

-- A point of a history: the state last handed back and the buffer then; and what has been granted: the fields that were
-- added, in order, and how many closings.
pub record Point : Type 0 where
  pub writer : Writer
  pub buffer : List ℕ
  pub given : List Given
  pub closings : ℕ

-- After the opening.
abbrev pub start : Opening → List ℕ → Point
start o out =
    record {
      writer = (after_opening o (opening o (length out))).writer;
      buffer = buffer_after out 0 (opening o (length out));
      given = [];
      closings = 0;
    }

-- A further call: adding a field, or closing.
pub data Call : Type 0 where
  adds : Given → Call
  closes : Call

-- What has been granted after an adding, and after a closing.
abbrev pub given_after : List Given → Given → Answer (List ℕ) → List Given
given_after gs g (fine text) = gs ++ (g ∷ [])
given_after gs g (refused k p) = gs

abbrev pub closings_after : ℕ → Answer ℕ → ℕ
closings_after n (fine length) = n + 1
closings_after n (refused k p) = n

-- The point after a call.
unfoldable pub next : Point → Call → Point
next p (adds g) =
    let answer = adding p.writer (length p.buffer) g in
    record {
      writer = (after_adding p.writer answer).writer;
      buffer = buffer_after p.buffer p.writer.written answer;
      given = given_after p.given g answer;
      closings = p.closings;
    }
next p closes =
    let answer = closing p.writer in
    record {
      writer = (after_closing p.writer answer).writer;
      buffer = p.buffer;
      given = p.given;
      closings = closings_after p.closings answer;
    }

-- The points that a granted opening in the buffer `out` can lead to.
pub data History (o : Opening) (out : List ℕ) : Point → Type 0 where
  opened : {text : List ℕ} → opening o (length out) ≡ fine text → History o out (start o out)
  called : {p : Point} → History o out p → (c : Call) → History o out (next p c)

-- The point after some calls, one after the other.
unfoldable pub after_calls : Point → List Call → Point
after_calls p [] = p
after_calls p (c ∷ cs) = after_calls (next p c) cs

-- A point has a finished message where its state is closed: the bytes written.
pub record Finished (p : Point) (message : List ℕ) : Type 0 where
  pub closed : p.writer.closed ≡ true
  pub bytes : message ≡ take p.writer.written p.buffer

-- The bytes of what adding was given.
abbrev pub bytes_of : Given → List ℕ
bytes_of (encoded l) = l
bytes_of (scalar v) = scalar_text v
