-- What the functions of numbers answer, over the definitions of the format.
use Rattle.std.specs.Prelude.{ℕ, ◌+◌, ◌<◌, cond, ◌&&◌, List, length, leb, Result, Ok, Err}
use Rattle.sim0mq.specs.declared.Refusal.{Refusal}
use Rattle.sim0mq.specs.Answer.{big}

-- An accepted number is below m.
abbrev pub Below : ℕ → Result ℕ Refusal → Type 0
Below m (Ok n) = n < m
Below m (Err r) = Unit {0}

-- The number in the n bytes from `at` on, where they are there and no more than eight; else 0.
unfoldable pub number_at : List ℕ → ℕ → ℕ → ℕ
number_at s at n = cond (leb (at + n) (length s) && leb n 8) (big s at n) 0
