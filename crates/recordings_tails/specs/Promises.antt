-- Request 1, of the definitions: what putting a tail promises. The statement here is proved in proofs/Promises.antt.
use Rattle.std.specs.Prelude.{ℕ, ◌≡◌, List, ◌++◌, length}
use Rattle.sim0mq.specs.Answer.{fine}
use Rattle.recordings_format.specs.Edition.{Edition, editions, Listed}
use Rattle.recordings_format.specs.Text.{HasTail}
use Rattle.recordings_tails.specs.Tails.{tailing}

-- Whatever lengths are handed in: a tail that is granted is that of messages of these lengths, after any bytes that are
-- as many as they come to, so that trailer and index are right (`IndexIsTheTail` of recordings_format).
abbrev pub GrantedTailIsRight : Type 0
GrantedTailIsRight =
    (e : Edition) (ns : List ℕ) (at room : ℕ) (front text : List ℕ) → Listed e editions
    → tailing e ns at room ≡ fine text → length front ≡ at → HasTail e ns (front ++ text)
