-- An entry that is computed is the table's, since a test computed over all codes passes.
use Prim.Native.Nat.{ℕ, zero, suc, ◌≤◌, ◌<◌}
use mathlib.Core.Path.{◌≡◌, sym, ap}
use mathlib.Core.Bool.{Bool, true, false, not, ◌||◌}
use mathlib.Core.List.{List}
use native.Mathlib.Omega.{arith}
use lib.Dec.{ltb, eqb}
use lib.ListN.{length, get_or, get_or-eq_default}
use borrow.Author.Tests.{le-ltb, eqb-true}
use Rattle.sim0mq.specs.Codes.{width_of}
use Rattle.sim0mq.proofs.Rows.{all_below, below_at}
use Rattle.sim0mq_tables.specs.Bits.{bit}

-- two functions agree at each number that is not skipped
unfoldable pub agreeing : (ℕ → Bool) → (ℕ → ℕ) → (ℕ → ℕ) → ℕ → Bool
agreeing skipped f g k = skipped k || eqb (f k) (g k)

agrees_at : (skipped : ℕ → Bool) (f g : ℕ → ℕ) (n : ℕ) → all_below n (agreeing skipped f g) ≡ true → (k : ℕ) → k < n → skipped k ≡ false → f k ≡ g k
unfolding agreeing
agrees_at skipped f g n a k l e = eqb-true (f k) (g k) (simp e at (below_at (agreeing skipped f g) n k a l))

-- they agree from lo on and below n
pub agrees : (f g : ℕ → ℕ) (lo n : ℕ) → all_below n (agreeing (λ k. ltb k lo) f g) ≡ true → (k : ℕ) → lo ≤ k → k < n → f k ≡ g k
agrees f g lo n a k h l = agrees_at (λ (k : ℕ). ltb k lo) f g n a k l (le-ltb k lo h)

-- the codes whose bit is set in this number have width w
pub width_told : (codes w : ℕ) → all_below 33 (agreeing (λ k. not (bit codes k)) (λ k. w) width_of) ≡ true → (c : ℕ) → c ≤ 32 → bit codes c ≡ true → w ≡ width_of c
width_told codes w a c l e = agrees_at (λ (k : ℕ). not (bit codes k)) (λ (k : ℕ). w) width_of 33 a c (omega arith) (ap not e)

-- the codes whose bit is set in none of these numbers have width w
pub width_left : (one two three w : ℕ) → all_below 33 (agreeing (λ k. bit one k || (bit two k || bit three k)) (λ k. w) width_of) ≡ true
    → (c : ℕ) → c ≤ 32 → bit one c ≡ false → bit two c ≡ false → bit three c ≡ false → w ≡ width_of c
width_left one two three w a c l e1 e2 e3 =
    agrees_at (λ (k : ℕ). bit one k || (bit two k || bit three k)) (λ (k : ℕ). w) width_of 33 a c (omega arith) (simp (e1, e2, e3))

-- past a row's end there is 0
pub past : (row : List ℕ) (n : ℕ) → length row ≤ n → 0 ≡ get_or row n 0
past row n h = sym (get_or-eq_default row 0 {n = n} h)

-- a number that is none of the first n, as the last arm of a match knows it, is not below n
abbrev NoneBelow : ℕ → ℕ → Type 0
NoneBelow zero t = Unit {0}
NoneBelow (suc n) t = NoneBelow n t × (t ≡ n → ⊥)

pub none_below : (n t : ℕ) → NoneBelow n t → n ≤ t
none_below zero t h = omega arith
none_below (suc n) t h = let l = none_below n t h.0 in let d = h.1 in omega arith
