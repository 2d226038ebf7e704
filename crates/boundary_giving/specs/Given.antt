-- What a call leaves in what it was lent, by whether the lent answer has room for the call's numbers.
use Rattle.std.specs.Prelude.{ℕ, cond, List, leb, length, get_or}
use Rattle.sim0mq.specs.Table.{stored}

-- What is left in a place after a call of n numbers: `after` where the lent answer has room for them; else `before`,
-- for nothing at all is written.
unfoldable pub given : {A : Type 0} → ℕ → List ℕ → A → A → A
given n answer after before = cond (leb n (length answer)) after before

-- The returned number: the first of the call's n numbers, or 255 where the lent answer is too short for them.
unfoldable pub returned : ℕ → List ℕ → List ℕ → ℕ
returned n answer numbers = given n answer (get_or numbers 0 0) 255

-- The lent answer after the call: its numbers, and after them what it held; all as it was where it is too short.
unfoldable pub answer_after : ℕ → List ℕ → List ℕ → List ℕ
answer_after n answer numbers = given n answer (stored answer numbers) answer
