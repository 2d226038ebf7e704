-- The bytes that a number is written in (000, 2.1): the other way round from `big`.
use Rattle.std.specs.Prelude.{ℕ, zero, suc, ◌/◌, ◌%◌, List, [], ◌∷◌, ◌++◌}

-- The n bytes that the number x is written in, the first weighing most.
unfoldable pub big_bytes : ℕ → ℕ → List ℕ
big_bytes zero x = []
big_bytes (suc n) x = big_bytes n (x / 256) ++ (x % 256 ∷ [])
