-- The signed number that some bits write, and the bits that it is written in (01, "What reading returns"; 000, 2.1 and
-- 2.2).
use Rattle.std.specs.Prelude.{ℕ, suc, ◌-◌, ◌^◌, cond, ltb, ℤ, pos, negsuc}

-- The signed number that n writes in w bits: below half of 2 ^ w it is n itself, else n less 2 ^ w.
unfoldable pub twos : ℕ → ℕ → ℤ
twos w n = cond (ltb n (2 ^ (w - 1))) (pos n) (negsuc (2 ^ w - suc n))

-- The bits of a signed number in w bits of two's complement: a number below zero is written as it plus 2 ^ w.
unfoldable pub bits_of : ℕ → ℤ → ℕ
bits_of w (pos n) = n
bits_of w (negsuc n) = 2 ^ w - suc n
