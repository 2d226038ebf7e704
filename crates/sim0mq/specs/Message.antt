-- The whole message, and reading it (01, "What reading returns" and the order in reading).
use Rattle.std.specs.Prelude.{ℕ, ◌+◌, ◌*◌, Bool, true, List, map, length, drop, leb}
use Rattle.sim0mq.specs.Answer.{Answer, fine, refused, ◌>>=◌, ◌>>◌, guard, part_at}
use Rattle.sim0mq.specs.Field.{Field}
use Rattle.sim0mq.specs.Payload.{payload, moved, steps}
use Rattle.sim0mq.specs.Table.{rows, row_size, stored}
use Rattle.sim0mq.specs.Header.{Frame, Header, header}

-- A message has at most so many bytes (01, refusal 8; 02, Ticket 9).
unfoldable pub limit : ℕ
limit = 65536

-- What is lent beside the message: no table, or a table of r numbers.
pub data Lent : Type 0 where
  no_table : Lent
  table : (r : ℕ) → Lent

-- Is there room for n fields (01, refusal 14)?
unfoldable pub enough : Lent → ℕ → Bool
enough no_table n = true
enough (table r) n = leb (row_size * n) r

-- What reading finds: the message's length, the eight frames, and the fields, whose number is the field count.
pub record Reading : Type 0 where
  pub bytes : ℕ
  pub frames : List Frame
  pub fields : List Field

-- Its steps: one for each frame, each field and each mark.
unfoldable pub steps_of : Reading → ℕ
steps_of m = length m.frames + steps m.fields

abbrev pub reading_of : List ℕ → Header → List Field → Reading
reading_of s h fs = record { bytes = length s; frames = h.frames; fields = map (moved h.next) fs }

-- The payload is the part after the header.
unfoldable pub message_rest : List ℕ → Header → Answer Reading
message_rest s h = do
  fs ← part_at h.next (payload (drop h.next s) h.fields)
  fine (reading_of s h fs)

-- A message of at most `most` bytes: its length (8), the frames, the table's room (14), the fields and what follows
-- them.
unfoldable pub message : ℕ → Lent → List ℕ → Answer Reading
message most lent s = do
  guard (leb (length s) most) 8 0
  h ← header s
  guard (enough lent h.fields) 14 0
  message_rest s h

-- Reading, with a table or with none.
unfoldable pub reading : Lent → List ℕ → Answer Reading
reading lent s = message limit lent s

-- The lent table after reading: the rows stored in it, or, on a refusal, as it was.
unfoldable pub table_after : List ℕ → Answer Reading → List ℕ
table_after t (fine m) = stored t (rows m.fields)
table_after t (refused k p) = t
