-- How the judges of a field's values answer, case by case, in the words of the code's tests.
use Prim.Native.Nat.{ℕ, zero, suc, ◌+◌, ◌-◌, ◌*◌, ◌/◌, ◌≤◌, ◌<◌}
use mathlib.Core.Path.{◌≡◌, refl, ap, sym, ◌∙◌, subst}
use mathlib.Core.Bool.{Bool, true, false, ◌||◌}
use mathlib.Core.List.{List}
use native.Mathlib.Omega.{arith}
use native.Mathlib.Numerals.{add-one}
use native.Mathlib.Nat.{add-zero, mul-zero, not-suc-le-zero, le-div_iff_mul-le}
use lib.ListN.{length, get_or, get_or-eq_default}
use lib.Dec.{leb, eqb}
use borrow.Author.Tests.{eqb-true, eqb-false, leb-true, leb-false, le-leb, lt-leb, ne_eqb}
use Rattle.sim0mq.specs.Answer.{Answer, fine, refused, ◌>>=◌, byte}
use Rattle.sim0mq.specs.Codes.{width_row, width_of, boolean}
use Rattle.sim0mq.specs.Field.{booleans, booleans_of}
use Rattle.reading_values.specs.Values.{size_of, size_at, NoneAbove, booleans_end, values_end}
use Rattle.sim0mq.proofs.Answers.{fine_eq, needed_bind}
use Rattle.sim0mq.proofs.Rows.{all_pass, pass_at}

-- n values of w bytes fit into the room exactly when n is at most the room divided by w
pub room_test : (n w room d : ℕ) → w ≡ d → 0 < d → leb n (room / d) ≡ leb (n * w) room
room_test n w room d e h = rw e (go (leb n (room / d)) refl)
  where
    over : (b : Bool) → leb (n * d) room ≡ b → leb n (room / d) ≡ false → room < n * d
    over true q e = absurd (let a = (le-div_iff_mul-le h).1 (leb-true _ _ q) in let b = leb-false n (room / d) e in omega arith)
    over false q e = leb-false _ _ q

    go : (b : Bool) → leb n (room / d) ≡ b → leb n (room / d) ≡ leb (n * d) room
    go true e = e ∙ sym (le-leb (n * d) room ((le-div_iff_mul-le h).0 (leb-true _ _ e)))
    go false e = e ∙ sym (lt-leb (n * d) room (over (leb (n * d) room) refl e))

-- Booleans from a place on: none left, one more, or a refusal
module _ (s : List ℕ) where
  pub booleans_done : (n at : ℕ) → n ≡ 0 → booleans_end s n at ≡ fine at
  unfolding booleans_end booleans
  booleans_done n at e = simp (e, add-zero)

  pub booleans_more : (n m at : ℕ) → n ≡ m + 1 → byte s at ≤ 1 → booleans_end s n at ≡ booleans_end s m (at + 1)
  unfolding booleans_end booleans
  booleans_more n m at e h =
      let ends : at + suc m ≡ at + 1 + m = omega arith in simp (e, add-one m, le-leb (byte s at) 1 h, ends)

  pub booleans_stop : (n at : ℕ) → 0 < n → 1 < byte s at → booleans_end s n at ≡ refused 10 at
  unfolding booleans_end booleans
  booleans_stop zero at h k = absurd (not-suc-le-zero h)
  booleans_stop (suc n) at h k = simp (lt-leb (byte s at) 1 k)

  -- bytes of which none is above 1
  all_pass_lem : (n at : ℕ) → NoneAbove s n at 1 → booleans s n at ≡ fine tt
  unfolding booleans
  all_pass_lem zero at h = refl
  all_pass_lem (suc n) at h =
      let here : byte s at ≤ 1 = subst (λ (x : ℕ). byte s x ≤ 1) (add-zero at) (h 0 (omega arith)) in
      simp (le-leb (byte s at) 1 here) (all_pass_lem n (at + 1) (λ i l. subst (λ (x : ℕ). byte s x ≤ 1) (next at i) (h (suc i) (omega arith))))
    where
      next : (at i : ℕ) → at + suc i ≡ at + 1 + i
      next at i = omega arith

  pub booleans_all : (n at : ℕ) → NoneAbove s n at 1 → fine (at + n) ≡ booleans_end s n at
  unfolding booleans_end
  booleans_all n at h = simp (all_pass_lem n at h)

  -- one byte more, which is not above what the others are not above, or is the most
  pub none_more : (n at m : ℕ) → NoneAbove s n at m → byte s (at + n) ≤ m → NoneAbove s (n + 1) at m
  none_more n at m h l i k = go (eqb i n) refl
    where
      go : (b : Bool) → eqb i n ≡ b → byte s (at + i) ≤ m
      go true e = rw (eqb-true i n e) l
      go false e = let d = eqb-false i n e in h i (omega arith)

  pub none_most : (n at m b : ℕ) → NoneAbove s n at m → m ≤ b → NoneAbove s n at b
  none_most n at m b h l i k = let z = h i k in omega arith

-- every width is at least one byte
pub width_positive : (c : ℕ) → c ≤ 32 → 1 ≤ width_of c
unfolding all_pass width_of
width_positive c h = leb-true 1 _ (pass_at (λ (w : ℕ). leb 1 w) width_row c refl (omega arith))

-- every width is 1, 2, 4 or 8
is_width : ℕ → Bool
is_width w = eqb w 1 || (eqb w 2 || (eqb w 4 || eqb w 8))

pub width_eight : (c w : ℕ) → c ≤ 32 → w ≡ width_of c → (w ≡ 1 → ⊥) → (w ≡ 2 → ⊥) → (w ≡ 4 → ⊥) → 8 ≡ width_of c
unfolding all_pass width_of is_width
width_eight c w h q n1 n2 n4 =
    let e : is_width w ≡ true = ap is_width q ∙ pass_at is_width width_row c refl (omega arith) in
    sym (eqb-true w 8 (simp (ne_eqb w 1 n1, ne_eqb w 2 n2, ne_eqb w 4 n4) at e)) ∙ q

-- sizes of values
module _ (s : List ℕ) (w n first : ℕ) where
  size_over : length s < first + n * w → size_of s w n first ≡ refused 1 (length s)
  unfolding size_of
  size_over h = simp (lt-leb (first + n * w) (length s) h)

  pub size_within : first + n * w ≤ length s → size_of s w n first ≡ fine (n * w)
  unfolding size_of
  size_within h = simp (le-leb (first + n * w) (length s) h)

  pub size_past : length s < first → size_of s w n first ≡ refused 1 (length s)
  size_past h = size_over (omega arith)

  -- the test of the room left
  pub size_fits : first ≤ length s → leb (n * w) (length s - first) ≡ true → size_of s w n first ≡ fine (n * w)
  size_fits k e = let h : n * w ≤ length s - first = leb-true _ _ e in size_within (omega arith)

  pub size_short : first ≤ length s → leb (n * w) (length s - first) ≡ false → size_of s w n first ≡ refused 1 (length s)
  size_short k e = let h : length s - first < n * w = leb-false _ _ e in size_over (omega arith)

-- the width of a code, told by a test
pub size_told : (s : List ℕ) (c n first : ℕ) {x : ℕ} → x ≡ width_of c → size_of s x n first ≡ size_at s c n first
size_told s c n first q = ap (λ (w : ℕ). size_of s w n first) q

-- a code that is none has no width
pub size_of_none : (s : List ℕ) (c n first : ℕ) → 32 < c → first ≤ length s → size_at s c n first ≡ fine 0
unfolding width_of
size_of_none s c n first h k =
    let w : get_or width_row c 0 ≡ 0 = get_or-eq_default width_row 0 {n = c} (omega arith) in
    let z : n * get_or width_row c 0 ≡ 0 = rw w (mul-zero n) in
    size_within s _ n first (omega arith) ∙ ap fine z

-- values
module _ (s : List ℕ) (c n first : ℕ) where
  pub values_stop : (k p : ℕ) → size_at s c n first ≡ refused k p → values_end s c n first ≡ refused k p
  unfolding values_end
  values_stop k p e = simp e

  pub values_boolean : (z : ℕ) → size_at s c n first ≡ fine z → boolean c ≡ true → booleans_end s z first ≡ values_end s c n first
  unfolding values_end booleans_of booleans_end
  values_boolean z e b = simp (e, b) (same (booleans s z first))
    where
      same : (a : Answer (Unit {0})) → (a >>= (λ pass. fine (first + z))) ≡ ((a >>= (λ pass. fine (first + z))) >>= (λ p. fine (first + z)))
      same (fine u) = refl
      same (refused k p) = refl

  pub values_other : (z : ℕ) → size_at s c n first ≡ fine z → boolean c ≡ false → fine (first + z) ≡ values_end s c n first
  unfolding values_end booleans_of booleans_end booleans
  values_other z e b = simp (e, b)

  -- the size is known to lie in s
  pub size_goes : (z : ℕ) → size_at s c n first ≡ fine z → (z ≡ n * width_of c) × (first + z ≤ length s)
  unfolding size_of
  size_goes z e =
      let a = needed_bind s first (n * width_of c) _ e in
      let q : n * width_of c ≡ z = fine_eq a.1 in
      (sym q, subst (λ (x : ℕ). first + x ≤ length s) q a.0)
