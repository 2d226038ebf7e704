-- The tail of a recording, its index and its trailer, written after the messages (02, Tickets 1 and 7).
use Rattle.std.specs.Prelude.{ℕ, ◌+◌, ◌*◌, ◌≤◌, ◌≡◌, Bool, true, ◌&&◌, List, [], ◌∷◌, leb, eqb, length}
use Rattle.sim0mq.specs.Answer.{Answer, fine, refused, ◌>>◌, guard}
use Rattle.dividing.specs.Run.{total}
use Rattle.recordings_format.specs.Edition.{Edition, newest, most_messages, entry_size}
use Rattle.recordings_format.specs.Text.{tail_text}

-- This text, written after `written` bytes in a buffer of `room` bytes: there is room for it (14).
unfoldable pub room_for : ℕ → ℕ → List ℕ → Answer (List ℕ)
room_for written room text = do
  guard (leb (written + length text) room) 14 0
  fine text

-- No message of these lengths is longer than the edition allows.
unfoldable pub short : Edition → List ℕ → Bool
short e [] = true
short e (n ∷ ns) = leb n e.most && short e ns

-- Messages of these lengths are none too long, and end at `at`.
abbrev pub come : Edition → List ℕ → ℕ → Bool
come e ns at = short e ns && eqb (total ns) at

-- The index and the trailer of messages of these lengths, written after `at` bytes in a buffer of `room` bytes: the
-- messages are not too many, none is too long, and they end at `at` (15); then room (14).
unfoldable pub tailing : Edition → List ℕ → ℕ → ℕ → Answer (List ℕ)
tailing e ns at room = do
  guard (leb (length ns) most_messages && come e ns at) 15 0
  room_for at room (tail_text e ns)

-- The whole length, once this is written after `at` bytes; or the refusal.
abbrev pub length_after : ℕ → Answer (List ℕ) → Answer ℕ
length_after at (fine text) = fine (at + length text)
length_after at (refused k p) = refused k p

-- Where an index may be put: the messages end at `at`, and there is room for their entries from there on.
pub record Indexable (ns : List ℕ) (at room : ℕ) : Type 0 where
  pub ends : total ns ≡ at
  pub fits : at + entry_size newest * length ns ≤ room
