-- The digits that io counts are those that the text has: the fewest, and one at least. Assumes nothing.
use Prim.Native.Nat.{ℕ, zero, suc, ◌-◌, ◌^◌, ◌<◌, ◌≤◌}
use native.Mathlib.Omega.{arith}
use native.Mathlib.Nat.{pow-le-pow_right}
use mathlib.Core.Path.{◌≡◌, refl, sym, ◌∙◌, ap, subst}
use mathlib.Core.List.{List}
use mathlib.Core.Bool.{Bool, true, false}
use lib.Dec.{leb}
use borrow.Author.Tests.{le-leb, lt-leb, leb-true, leb-false}
use Rattle.io.specs.Digits.{last_digits, IsDigitCount}
use Rattle.programs_pieces.specs.Decimal.{places, decimal}

-- one digit more than k + 1, or no more
places_over : (k n : ℕ) → 10 ^ suc k ≤ n → places (suc k) n ≡ suc (suc k)
unfolding places
places_over k n h = rw (le-leb (10 ^ suc k) n h)

places_under : (k n : ℕ) → n < 10 ^ suc k → places (suc k) n ≡ places k n
unfolding places
places_under k n h = rw (lt-leb (10 ^ suc k) n h)

-- as many as io counts, of at most m + 1
places_fewest : (m n k : ℕ) → IsDigitCount 10 1 n k → k ≤ suc m → places m n ≡ k
unfolding places
places_fewest zero n k f h = omega (arith, f.0)
places_fewest (suc m) n k f h = go (leb k (suc m)) refl (λ l. places_fewest m n k f l)
  where
    go : (b : Bool) → leb k (suc m) ≡ b → (k ≤ suc m → places m n ≡ k) → places (suc m) n ≡ k
    go true e less =
        let l : k ≤ suc m = leb-true _ _ e in
        let p : 10 ^ k ≤ 10 ^ suc m = pow-le-pow_right (omega arith) l in
        places_under m n (omega (arith, p, f.1)) ∙ less l
    go false e less =
        let l : suc m < k = leb-false _ _ e in
        let i : k - 1 ≡ suc m = omega arith in
        places_over m n (subst (λ (j : ℕ). 10 ^ j ≤ n) i (f.2 (omega arith))) ∙ omega arith

-- the digits that io writes of a number below 10^20 are that number in decimal
pub decimal_eq : (n k : ℕ) (text : List ℕ) → n < 10 ^ 20 → IsDigitCount 10 1 n k → text ≡ last_digits 10 k n → text ≡ decimal n
unfolding decimal
decimal_eq n k text h f e = e ∙ ap (λ (j : ℕ). last_digits 10 j n) (sym (places_fewest 19 n k f (go (leb k 20) refl)))
  where
    go : (b : Bool) → leb k 20 ≡ b → k ≤ 20
    go true l = leb-true _ _ l
    go false l =
        let g : 20 < k = leb-false _ _ l in
        let i : 20 ≤ k - 1 = omega arith in
        let p : 10 ^ 20 ≤ 10 ^ (k - 1) = pow-le-pow_right (omega arith) i in
        omega (arith, p, h, f.2 (omega arith))
