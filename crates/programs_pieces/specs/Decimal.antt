-- A number in decimal. Assumes nothing.
use Rattle.std.specs.Prelude.{ℕ, zero, suc, ◌^◌, cond, List, leb}
use Rattle.io.specs.Digits.{last_digits}

-- how many decimal digits n has, of at most k + 1
unfoldable pub places : ℕ → ℕ → ℕ
places zero n = 1
places (suc k) n = cond (leb (10 ^ suc k) n) (suc (suc k)) (places k n)

-- n in decimal, with no zeros in front; a number of 64 bits has at most 20 digits
unfoldable pub decimal : ℕ → List ℕ
decimal n = last_digits 10 (places 19 n) n
