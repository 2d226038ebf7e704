-- The bridge between strings and places: the bytes l stand in s from place `at` on.
use Prim.Native.Nat.{ℕ, zero, suc, ◌+◌, ◌*◌, ◌≤◌, ◌<◌}
use mathlib.Core.Path.{◌≡◌, refl, ap, sym, ◌∙◌, subst}
use mathlib.Core.List.{List, [], ◌∷◌, ◌++◌}
use native.Mathlib.Omega.{arith}
use native.Mathlib.Nat.{add-zero, zero-add, le_of_suc-le-suc, not-suc-le-zero}
use lib.ListN.{length, get_or, take, drop, length-append, length-take, length-drop, get_or-append}
use lib.Seq.{get_or-append-add, get_or-take, get_or-drop, ext_get_or}
use Rattle.sim0mq.specs.Answer.{byte, big}
use Rattle.sim0mq.specs.Allowed.{number, number_after}

pub record Stands (s : List ℕ) (at : ℕ) (l : List ℕ) : Type 0 where
  pub fits : at + length l ≤ length s
  pub same : (i : ℕ) → i < length l → get_or s (at + i) 0 ≡ get_or l i 0

pub stands_to : {s l : List ℕ} {at : ℕ} (to : ℕ) → at ≡ to → Stands s at l → Stands s to l
stands_to {s} {l} to e st = subst (λ (p : ℕ). Stands s p l) e st

pub stands_head : {s l : List ℕ} {at x : ℕ} → Stands s at (x ∷ l) → byte s at ≡ x
stands_head {s} {l} {at} st = ap (λ (n : ℕ). get_or s n 0) (sym (add-zero at)) ∙ st.same 0 (omega arith)

pub stands_tail : {s l : List ℕ} {at x : ℕ} → Stands s at (x ∷ l) → Stands s (at + 1) l
stands_tail {s} {l} {at} {x} st =
    record {
      fits = let h = st.fits in omega arith;
      same = λ i h. ap (λ (n : ℕ). get_or s n 0) (omega arith) ∙ st.same (suc i) (omega arith);
    }

pub stands_left : {s : List ℕ} {at : ℕ} (l m : List ℕ) → Stands s at (l ++ m) → Stands s at l
stands_left {s} {at} l m st =
    record {
      fits = let h = st.fits in omega (arith, length-append l m);
      same = λ i h. st.same i (omega (arith, length-append l m)) ∙ get_or-append l m 0 i h;
    }

pub stands_right : {s : List ℕ} {at : ℕ} (l m : List ℕ) → Stands s at (l ++ m) → Stands s (at + length l) m
stands_right {s} {at} l m st =
    record {
      fits = let h = st.fits in omega (arith, length-append l m);
      same =
          λ i h.
          ap (λ (n : ℕ). get_or s n 0) (omega arith) ∙ st.same (length l + i) (omega (arith, length-append l m)) ∙ get_or-append-add l m i 0;
    }

pub stands_nil : {s : List ℕ} {at : ℕ} → at ≤ length s → Stands s at []
stands_nil h = record { fits = omega arith; same = λ i k. absurd (not-suc-le-zero k) }

pub stands_cons : {s l : List ℕ} {at x : ℕ} → byte s at ≡ x → Stands s (at + 1) l → Stands s at (x ∷ l)
stands_cons {s} {l} {at} {x} e st = record { fits = let h = st.fits in omega arith; same = at_each }
  where
    at_each : (i : ℕ) → i < suc (length l) → get_or s (at + i) 0 ≡ get_or (x ∷ l) i 0
    at_each zero h = ap (λ (n : ℕ). get_or s n 0) (add-zero at) ∙ e
    at_each (suc i) h = ap (λ (n : ℕ). get_or s n 0) (omega arith) ∙ st.same i (le_of_suc-le-suc h)

pub stands_join : {s : List ℕ} {at : ℕ} (l m : List ℕ) → Stands s at l → Stands s (at + length l) m → Stands s at (l ++ m)
stands_join {s} {at} [] m a b = stands_to at (add-zero at) b
stands_join {s} {at} (x ∷ l) m a b =
    stands_cons (stands_head a) (stands_join {at = at + 1} l m (stands_tail a) (stands_to (at + 1 + length l) (omega arith) b))

-- the n bytes from `at` on
pub part : List ℕ → ℕ → ℕ → List ℕ
part s at n = take n (drop at s)

pub stands_part : (s : List ℕ) (at n : ℕ) → at + n ≤ length s → (length (part s at n) ≡ n) × Stands s at (part s at n)
unfolding part
stands_part s at n h =
    let e : length (take n (drop at s)) ≡ n = simp (length-take, length-drop) (omega arith) in
    (e, record { fits = omega arith; same = λ i k. sym (get_or-take n (drop at s) i 0 (omega arith) ∙ get_or-drop at s i 0) })

-- the whole stands in itself, and what fills it is it
pub stands_self : (s : List ℕ) → Stands s 0 s
stands_self s = record { fits = omega arith; same = λ i h. ap (λ (n : ℕ). get_or s n 0) (zero-add i) }

pub stands_same : {s : List ℕ} {at : ℕ} (l m : List ℕ) → length l ≡ length m → Stands s at l → Stands s at m → l ≡ m
stands_same l m e a b = ext_get_or 0 l m e (λ i h. sym (a.same i h) ∙ b.same i (omega arith))

-- a string that stands somewhere is the part there
pub part_back : {s : List ℕ} {at : ℕ} (l : List ℕ) → Stands s at l → take (length l) (drop at s) ≡ l
part_back {s} {at} l st =
    let fits = st.fits in
    let e : length (take (length l) (drop at s)) ≡ length l = simp (length-take, length-drop) (omega arith) in
    ext_get_or 0 (take (length l) (drop at s)) l e
    (λ i h. get_or-take (length l) (drop at s) i 0 (omega arith) ∙ get_or-drop at s i 0 ∙ st.same i (omega arith))

-- what stands in the part from b on stands in the whole, and back
pub into_part : {s l : List ℕ} (b : ℕ) → Stands s b l → Stands (drop b s) 0 l
into_part {s} {l} b st =
    let f = st.fits in
    record {
      fits = omega (arith, length-drop b s);
      same = λ i h. get_or-drop b s (0 + i) 0 ∙ ap (λ (n : ℕ). get_or s n 0) (omega arith) ∙ st.same i h;
    }

pub out_of_part : {s l : List ℕ} (b : ℕ) → b ≤ length s → Stands (drop b s) 0 l → Stands s b l
out_of_part {s} {l} b k st =
    let f = st.fits in
    record {
      fits = omega (arith, length-drop b s);
      same = λ i h. ap (λ (n : ℕ). get_or s n 0) (omega arith) ∙ sym (get_or-drop b s (0 + i) 0) ∙ st.same i h;
    }

-- the number at a place is the number that the bytes there write
big_after : (s : List ℕ) (at : ℕ) (l : List ℕ) (n a : ℕ) → big s at n ≡ a → Stands s (at + n) l → big s at (n + length l) ≡ number_after a l
unfolding number_after big
big_after s at [] n a e st = ap (λ (m : ℕ). big s at m) (add-zero n) ∙ e
big_after s at (b ∷ bs) n a e st =
    let e1 : n + suc (length bs) ≡ suc n + length bs = omega arith in
    ap (λ (m : ℕ). big s at m) e1
    ∙ big_after s at bs (suc n) (a * 256 + b) (rw (e, stands_head st)) (stands_to (at + suc n) (omega arith) (stands_tail st))

pub big_number : {s : List ℕ} {at : ℕ} (l : List ℕ) → Stands s at l → big s at (length l) ≡ number l
unfolding big
big_number {s} {at} l st =
    ap (λ (m : ℕ). big s at m) (sym (zero-add (length l))) ∙ big_after s at l 0 0 refl (stands_to (at + 0) (sym (add-zero at)) st)
