-- The blanked copy of a recording: of an accepted recording each message blanked, index and trailer as they are.
use Rattle.std.specs.Prelude.{ℕ, List, [], ◌++◌, map, length, drop, leb}
use Rattle.sim0mq.specs.Answer.{Answer, fine, refused, ◌>>=◌, ◌>>◌, guard}
use Rattle.sim0mq.specs.Field.{Field}
use Rattle.sim0mq.specs.Message.{no_table, Reading, reading}
use Rattle.sim0mq.specs.Blank.{blanked}
use Rattle.sim0mq.specs.Allowed.{joined}
use Rattle.dividing.specs.Run.{stretches, total}
use Rattle.recordings_format.specs.Judge.{opening}

-- The fields of a message, by what reading it answered; none where it is refused.
abbrev pub fields_of : Answer Reading → List Field
fields_of (fine m) = m.fields
fields_of (refused k p) = []

-- The blanked copy of a message.
unfoldable pub copy_of : List ℕ → List ℕ
copy_of m = blanked m (fields_of (reading no_table m))

-- The blanked copies, end to end, of the messages of these lengths at the front of s.
unfoldable pub copies_in : List ℕ → List ℕ → List ℕ
copies_in s ns = joined (map copy_of (stretches s 0 ns))

-- The blanked copy of a recording of messages of these lengths: their copies, and then what follows the messages.
unfoldable pub blanked_recording : List ℕ → List ℕ → List ℕ
blanked_recording s ns = copies_in s ns ++ drop (total ns) s

-- Blanking a recording, with room for so many bytes: the refusals of opening it, then the room (14); the answer is the
-- copy.
unfoldable pub blanking_recording : ℕ → List ℕ → Answer (List ℕ)
blanking_recording room s = do
  i ← opening no_table s
  guard (leb (length s) room) 14 0
  fine (blanked_recording s i.lengths)
