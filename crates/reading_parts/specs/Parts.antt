-- What a part's reader answers, over the definitions of the format.
use Rattle.std.specs.Prelude.{ℕ, ◌+◌, List}
use Rattle.sim0mq.specs.Answer.{Answer, fine, ◌>>=◌, ◌>>◌, need}
use Rattle.sim0mq.specs.Payload.{payload_from, steps}

-- The steps of n fields from `at` on, after k steps.
unfoldable pub steps_from : List ℕ → ℕ → ℕ → ℕ → Answer ℕ
steps_from s n at k = do
  fs ← payload_from s n at
  fine (k + steps fs)

-- Those of the n fields of a part from place `from` on: the bytes reach up to it (1).
unfoldable pub rest_steps : List ℕ → ℕ → ℕ → Answer ℕ
rest_steps s from n = do
  need s from 0
  steps_from s n from 0

-- Those of a part.
unfoldable pub part_steps : List ℕ → ℕ → Answer ℕ
part_steps s n = steps_from s n 0 0
