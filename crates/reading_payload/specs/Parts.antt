-- What the payload's reader answers, over the definitions of the format.
use Rattle.std.specs.Prelude.{ℕ, List, drop}
use Rattle.sim0mq.specs.Answer.{Answer, fine, ◌>>=◌, need, part_at}
use Rattle.sim0mq.specs.Payload.{payload, steps}

-- The steps of the payload of n fields that begins at `next` of the message s, with places in the message: the bytes
-- reach up to it (1), and what follows is judged as a part by itself.
unfoldable pub payload_steps : List ℕ → ℕ → ℕ → Answer ℕ
payload_steps s next n = do
  there ← need s next 0
  fs ← part_at next (payload (drop next s) n)
  fine (steps fs)
