-- What the judges of an opening answer, over its definitions.
use Rattle.std.specs.Prelude.{ℕ, ◌+◌, cond, ◌&&◌, List, eqb, leb, length}
use Rattle.sim0mq.specs.Answer.{Answer, fine, ◌>>=◌, ◌>>◌, guard}
use Rattle.sim0mq.specs.Codes.{width_of}
use Rattle.sim0mq.specs.Header.{count_codes, among, status_taken, most_fields, fields_taken}
use Rattle.sim0mq.specs.Message.{limit}
use Rattle.writing_opening.specs.Opening.{ids_from, holds}

-- The most fields that a count of type c says: a message's, or what a signed byte holds.
abbrev pub most_of : ℕ → ℕ
most_of c = cond (eqb c 0) 127 most_fields

-- The length of a header whose ids have n bytes, judged after them: status (6), count type (4), count (7), length (8),
-- room (14).
unfoldable pub numbers_judged : ℕ → ℕ → ℕ → ℕ → ℕ → Answer ℕ
numbers_judged n status c fields room = do
  guard (status_taken status) 6 0
  guard (among c count_codes) 4 0
  guard (fields_taken fields && holds c fields) 7 0
  guard (leb (22 + width_of c + n) limit) 8 0
  guard (leb (22 + width_of c + n) room) 14 0
  fine (22 + width_of c + n)

-- The length of the header, judged whole.
unfoldable pub opening_judged : List ℕ → ℕ → ℕ → ℕ → ℕ → Answer ℕ
opening_judged ids status c fields room = do
  end ← ids_from ids 4 0
  numbers_judged (length ids) status c fields room
