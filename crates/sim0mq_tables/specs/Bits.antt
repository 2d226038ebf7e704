-- Numbers that stand for sets of codes.
use Rattle.std.specs.Prelude.{ℕ, ◌/◌, ◌%◌, ◌^◌, Bool, eqb}

-- Is bit k of this number set?
unfoldable pub bit : ℕ → ℕ → Bool
bit codes k = eqb (codes / 2 ^ k % 2) 1
