-- The message at the front of some bytes (02, Ticket 5): its own first bytes say where it ends.
use Rattle.std.specs.Prelude.{ℕ, ◌≡◌, cond, List, take, eqb}
use Rattle.sim0mq.specs.Answer.{Answer, fine, refused}
use Rattle.sim0mq.specs.Message.{no_table, Reading, message}

-- Reading accepts s as a message of at most `most` bytes.
abbrev pub Taken : ℕ → List ℕ → Type 0
Taken most s = (m : Reading) × (message most no_table s ≡ fine m)

-- What reading some bytes says of the message at their front: it is all of them; it ends before the first byte that is
-- too many (01, refusal 13); or there is none, by this refusal.
abbrev pub front_of : Answer Reading → Answer ℕ
front_of (fine m) = fine m.bytes
front_of (refused k p) = cond (eqb k 13) (fine p) (refused k p)

-- The length of the message at the front of s: the bytes are read, cut at the message limit (02, Ticket 7).
unfoldable pub front_length : ℕ → List ℕ → Answer ℕ
front_length most s = front_of (message most no_table (take most s))
