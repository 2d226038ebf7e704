-- How runs of fields are told, case by case, in the words of the code's tests.
use Prim.Native.Nat.{ℕ, zero, suc, ◌+◌, ◌*◌, ◌≤◌, ◌<◌}
use mathlib.Core.Path.{◌≡◌, refl, sym, ap, ◌∙◌}
use mathlib.Core.Bool.{Bool, true, false, cond, ◌||◌, or-false, false≢true}
use mathlib.Core.List.{List}
use native.Mathlib.Omega.{arith}
use native.Mathlib.Numerals.{add-one}
use native.Mathlib.Nat.{add-zero, zero-mul, one-mul, suc-mul, not-suc-le-zero}
use lib.ListN.{length}
use lib.Dec.{leb, ltb, eqb}
use borrow.Author.Tests.{le-leb, lt-leb, leb-false, ltb-true, ltb-false, eqb-true, ne_eqb}
use Rattle.sim0mq.specs.Answer.{byte}
use Rattle.sim0mq.specs.Codes.{width_of, boolean}
use Rattle.sim0mq.proofs.Rows.{all_below, below_at}
use Rattle.reading_runs.specs.Runs.{plain_size, stands_at, alike, run_of, sized, run_at}
use Rattle.reading_runs.specs.declared.Run.{Run}

-- a code past the last has no size
size_past : (c : ℕ) → 9 ≤ c → 0 ≡ plain_size c
unfolding plain_size
size_past c h = simp (lt-leb c 8 (omega arith))

-- whether a field stands at a place
module _ (s : List ℕ) (c w at : ℕ) where
  pub stands_is : stands_at s c w at ≡ true → (at + w < length s) × (byte s at ≡ c)
  unfolding stands_at
  stands_is e = go (leb (length s) (at + w)) refl e
    where
      go : (b : Bool) → leb (length s) (at + w) ≡ b → cond b false (eqb (byte s at) c) ≡ true → (at + w < length s) × (byte s at ≡ c)
      go true q e = absurd (false≢true e)
      go false q e = (leb-false (length s) (at + w) q, eqb-true (byte s at) c e)

-- the run of no field
pub run_none : (at : ℕ) → ◌≡◌ {A = Run} (record { code = 0; size = 0; fields = 0; end = at }) (run_of 0 0 0 at)
run_none at = λ i. record { code = 0; size = 0; fields = 0; end = sym (add-zero at) i }

-- how many are alike
module _ (s : List ℕ) (c w at : ℕ) where
  pub alike_none : (n : ℕ) → n ≡ 0 → alike s c w n at ≡ 0
  unfolding alike
  alike_none n e = simp e

  pub alike_stop : (n : ℕ) → stands_at s c w at ≡ false → alike s c w n at ≡ 0
  unfolding alike
  alike_stop zero e = refl
  alike_stop (suc n) e = simp e

  pub alike_more : (n m : ℕ) → n ≡ m + 1 → stands_at s c w at ≡ true → alike s c w n at ≡ 1 + alike s c w m (at + (w + 1))
  unfolding alike
  alike_more n m e q = simp (e, add-one m, q) (omega arith)

-- the place after one field more
pub grown : (at m w end : ℕ) → end ≡ at + m * (w + 1) → end + (w + 1) ≡ at + (m + 1) * (w + 1)
grown at m w end e = next (m * (w + 1)) ((m + 1) * (w + 1)) e (ap (λ (k : ℕ). k * (w + 1)) (add-one m) ∙ suc-mul m (w + 1))
  where
    next : (p q : ℕ) → end ≡ at + p → q ≡ p + (w + 1) → end + (w + 1) ≡ at + q
    next p q e d = omega arith

-- the run that these numbers are, where k fields are alike: m of them, and l from there on, of which there are none
module _ (c w at : ℕ) where
  pub far_none : at ≡ at + 0 * (w + 1)
  far_none = sym (add-zero at) ∙ ap (λ (j : ℕ). at + j) (sym (zero-mul (w + 1)))

  pub far_one : at + (w + 1) ≡ at + 1 * (w + 1)
  far_one = ap (λ (j : ℕ). at + j) (sym (one-mul (w + 1)))

  pub told_run : (m k l end : ℕ) → k ≡ m + l → l ≡ 0 → end ≡ at + m * (w + 1)
      → ◌≡◌ {A = Run} (record { code = c; size = w; fields = m; end = end }) (run_of c w k at)
  told_run m k l end e z q =
      let same : m ≡ k = omega arith in
      λ i. record { code = c; size = w; fields = same i; end = (q ∙ ap (λ (j : ℕ). at + j * (w + 1)) same) i }

-- every size is none, 1, 2, 4 or 8
is_size : ℕ → Bool
is_size w = eqb w 0 || (eqb w 1 || (eqb w 2 || (eqb w 4 || eqb w 8)))

size_any : (c : ℕ) → is_size (plain_size c) ≡ true
unfolding all_below is_size plain_size boolean width_of
size_any c = go (ltb c 9) refl
  where
    go : (b : Bool) → ltb c 9 ≡ b → is_size (plain_size c) ≡ true
    go true e = below_at (λ (k : ℕ). is_size (plain_size k)) 9 c refl (ltb-true c 9 e)
    go false e = ap is_size (sym (size_past c (ltb-false c 9 e)))

pub size_none : (c w : ℕ) → w ≡ plain_size c → (w ≡ 1 → ⊥) → (w ≡ 2 → ⊥) → (w ≡ 4 → ⊥) → (w ≡ 8 → ⊥) → plain_size c ≡ 0
unfolding is_size
size_none c w q n1 n2 n4 n8 =
    let e : is_size w ≡ true = ap is_size q ∙ size_any c in
    sym q ∙ eqb-true w 0 (simp (ne_eqb w 1 n1, ne_eqb w 2 n2, ne_eqb w 4 n4, ne_eqb w 8 n8, or-false (eqb w 0)) at e)

-- the run at a place: none asked for, none there, of no size, or of fields of the size of their code
module _ (s : List ℕ) (at n : ℕ) where
  pub run_unasked : n ≡ 0 → run_at s at n ≡ run_of 0 0 0 at
  unfolding run_at
  run_unasked e = simp e

  module _ (asked : n ≡ 0 → ⊥) where
    pub run_past : length s ≤ at → run_at s at n ≡ run_of 0 0 0 at
    unfolding run_at
    run_past h = go n asked
      where
        go : (n : ℕ) → (n ≡ 0 → ⊥) → run_at s at n ≡ run_of 0 0 0 at
        go zero a = absurd (a refl)
        go (suc n) a = simp (le-leb (length s) at h)

    sized-here : at < length s → run_at s at n ≡ sized s (byte s at) (plain_size (byte s at)) n at
    unfolding run_at
    sized-here h = go n asked
      where
        go : (n : ℕ) → (n ≡ 0 → ⊥) → run_at s at n ≡ sized s (byte s at) (plain_size (byte s at)) n at
        go zero a = absurd (a refl)
        go (suc n) a = simp (lt-leb (length s) at h)

    pub run-unsized : (c : ℕ) → at < length s → c ≡ byte s at → plain_size c ≡ 0 → run_at s at n ≡ run_of 0 0 0 at
    unfolding sized
    run-unsized c h e z = sized-here h ∙ rw (← e, z) refl

    pub run-sized : (c w : ℕ) → 0 < w → at < length s → c ≡ byte s at → w ≡ plain_size c → run_of c w (alike s c w n at) at ≡ run_at s at n
    unfolding sized
    run-sized c w p h e z = some w p ∙ sym (sized-here h ∙ rw (← e, ← z) refl)
      where
        some : (w : ℕ) → 0 < w → run_of c w (alike s c w n at) at ≡ sized s c w n at
        some zero p = absurd (not-suc-le-zero p)
        some (suc v) p = refl
