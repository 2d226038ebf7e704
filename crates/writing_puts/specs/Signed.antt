-- Signed numbers as bits.
use Rattle.std.specs.Prelude.{ℕ, ◌-◌, ℤ, pos, negsuc}

-- The bits of a signed number in a width whose largest number is `most`: the number itself where it is not negative,
-- and else two's complement, 0 where it is below all that the width has.
unfoldable pub bits_up_to : ℕ → ℤ → ℕ
bits_up_to most (pos n) = n
bits_up_to most (negsuc n) = most - n
