-- What the answer is for two operands: refused by 24 where the page of pairs has no such sum, and else tested for 25.
-- The page is held against the rule by one test computed over all unit types up to 28; above it there is no pair.
use Prim.Native.Nat.{ℕ, ◌<◌, ◌≤◌}
use mathlib.Core.Path.{◌≡◌, refl, sym, ◌∙◌}
use mathlib.Core.Bool.{Bool, true, false, ◌&&◌, beq, and-false, false≢true}
use mathlib.Core.List.{List, [], ◌∷◌}
use native.Mathlib.Omega.{arith}
use lib.Dec.{eqb, ltb}
use lib.Ieee.{Float}
use borrow.Author.Tests.{ltb-true, ltb-false, ne_eqb}
use Rattle.sim0mq.specs.Answer.{Answer, fine, refused, ◌>>◌, guard}
use Rattle.sim0mq.proofs.Rows.{all_below, below_at}
use Rattle.sim0mq_kinds.specs.declared.Scalar.{Scalar}
use Rattle.sums_quantities.specs.declared.shown.Shown.{Shown}
use Rattle.sums_pairs.specs.Pairs.{Pair, pairs, Quantity, quantity_in, quantity_at, quantity_sum, quantity_difference}
use Rattle.sums_pairs.specs.Views.{combined}
use Rattle.sums.specs.Sums.{Measured, measured, is_finite, as_scalar, answer_of, answer}
use Rattle.sums.specs.Promises.{adds_in, subtracts_in}
use Rattle.sums.proofs.RuleLaws.{Ruled, refuses, IsRule}
use Rattle.sums.proofs.ReadLaws.{found, found_none}

-- the answer, as far as each scalar is an operand
module _ (rule : Quantity → Quantity → Answer Quantity) (a b : Scalar) where
  pub answer_at : (m n : Measured) → measured a ≡ fine m → measured b ≡ fine n → answer rule a b ≡ answer_of rule m n
  unfolding answer
  answer_at m n e f = rw (e, f)

  pub answer_first : measured a ≡ refused 17 0 → answer rule a b ≡ refused 17 0
  unfolding answer
  answer_first e = rw e

  pub answer_second : (m : Measured) → measured a ≡ fine m → measured b ≡ refused 17 0 → answer rule a b ≡ refused 17 0
  unfolding answer
  answer_second m e f = rw (e, f)

-- is there an answer?
abbrev is_fine : Answer Quantity → Bool
is_fine (fine q) = true
is_fine (refused k p) = false

-- the page agrees with the rule, for any two numbers
abbrev pub Agrees : (Quantity → Quantity → Answer Quantity) → (ℕ → ℕ → Bool) → Type 0
Agrees rule page = (u v : ℕ) (x y : Shown) → is_fine (combined rule (quantity_at u x) (quantity_at v y)) ≡ page u v

-- no pair has a unit type above 28
abbrev AreLow : List Pair → Type 0
AreLow [] = Unit {0}
AreLow (p ∷ ps) = (p.relative_unit ≤ 28) × ((p.absolute_unit ≤ 28) × AreLow ps)

pairs_low : AreLow pairs
pairs_low = (omega arith, (omega arith, (omega arith, (omega arith, (omega arith, (omega arith, (omega arith, (omega arith, tt))))))))

module _ (u : ℕ) (h : 28 < u) where
  missed : (k : ℕ) → k ≤ 28 → eqb u k ≡ false
  missed k l = ne_eqb u k (λ e. omega arith)

  none_above : (ps : List Pair) (x : Shown) → AreLow ps → quantity_in ps u x ≡ refused 24 0
  unfolding quantity_in
  none_above [] x l = refl
  none_above (p ∷ ps) x l = rw (missed p.relative_unit l.0, missed p.absolute_unit l.1.0) (none_above ps x l.1.1)

  pub adds_none_first : (ps : List Pair) (v : ℕ) → AreLow ps → adds_in ps u v ≡ false
  adds_none_first [] v l = refl
  adds_none_first (p ∷ ps) v l = rw (missed p.relative_unit l.0, missed p.absolute_unit l.1.0) (adds_none_first ps v l.1.1)

  pub adds_none_second : (ps : List Pair) (w : ℕ) → AreLow ps → adds_in ps w u ≡ false
  adds_none_second [] w l = refl
  adds_none_second (p ∷ ps) w l =
      simp (missed p.relative_unit l.0, missed p.absolute_unit l.1.0, and-false) (adds_none_second ps w l.1.1)

  pub subtracts_none_first : (ps : List Pair) (v : ℕ) → AreLow ps → subtracts_in ps u v ≡ false
  subtracts_none_first [] v l = refl
  subtracts_none_first (p ∷ ps) v l =
      rw (missed p.relative_unit l.0, missed p.absolute_unit l.1.0) (subtracts_none_first ps v l.1.1)

  pub subtracts_none_second : (ps : List Pair) (w : ℕ) → AreLow ps → subtracts_in ps w u ≡ false
  subtracts_none_second [] w l = refl
  subtracts_none_second (p ∷ ps) w l =
      simp (missed p.relative_unit l.0, missed p.absolute_unit l.1.0, and-false) (subtracts_none_second ps w l.1.1)

no_second : (rule : Quantity → Quantity → Answer Quantity) (a : Answer Quantity) → is_fine (combined rule a (refused 24 0)) ≡ false
no_second rule (fine q) = refl
no_second rule (refused k p) = refl

same_bool : (b c : Bool) → beq b c ≡ true → b ≡ c
same_bool true true e = refl
same_bool false false e = refl
same_bool true false e = absurd (false≢true e)
same_bool false true e = absurd (false≢true e)

module _ (rule : Quantity → Quantity → Answer Quantity) (page : ℕ → ℕ → Bool) where
  abbrev pub agrees_at : Shown → Shown → ℕ → ℕ → Bool
  agrees_at x y u v = beq (is_fine (combined rule (quantity_at u x) (quantity_at v y))) (page u v)

  pub agreed : ((x y : Shown) → all_below 29 (λ u. all_below 29 (agrees_at x y u)) ≡ true)
      → ((u v : ℕ) → 28 < u → page u v ≡ false) → ((u v : ℕ) → 28 < v → page u v ≡ false) → Agrees rule page
  agreed test first second u v x y = go (ltb 28 u) (ltb 28 v) refl refl
    where
      go : (b c : Bool) → ltb 28 u ≡ b → ltb 28 v ≡ c → is_fine (combined rule (quantity_at u x) (quantity_at v y)) ≡ page u v
      go true c h k = rw (none_above u (ltb-true 28 u h) pairs x pairs_low) (sym (first u v (ltb-true 28 u h)))
      go false true h k =
          rw (none_above v (ltb-true 28 v k) pairs y pairs_low) (no_second rule (quantity_at u x) ∙ sym (second u v (ltb-true 28 v k)))
      go false false h k =
          let l : u < 29 = omega (arith, ltb-false 28 u h) in
          let r : v < 29 = omega (arith, ltb-false 28 v k) in
          same_bool _ _ (below_at (agrees_at x y u) 29 v (below_at (λ w. all_below 29 (agrees_at x y w)) 29 u (test x y) l) r)

pub sums_agree : Agrees quantity_sum (adds_in pairs)
unfolding all_below quantity_in quantity_sum
sums_agree = agreed quantity_sum (adds_in pairs) (λ x y. refl) (λ u v h. adds_none_first u h pairs v pairs_low) (λ u v h. adds_none_second v h pairs u pairs_low)

pub differences_agree : Agrees quantity_difference (subtracts_in pairs)
unfolding all_below quantity_in quantity_difference
differences_agree =
    agreed quantity_difference (subtracts_in pairs) (λ x y. refl) (λ u v h. subtracts_none_first u h pairs v pairs_low)
    (λ u v h. subtracts_none_second v h pairs u pairs_low)

-- what the answer is
pub data Outcome (rule : Quantity → Quantity → Answer Quantity) (page : ℕ → ℕ → Bool) (m n : Measured) : Type 0 where
  apart : page m.unit n.unit ≡ false → answer_of rule m n ≡ refused 24 0 → Outcome rule page m n
  tested : (x y r : Quantity) → quantity_at m.unit m.number ≡ fine x → quantity_at n.unit n.number ≡ fine y → rule x y ≡ fine r
      → page m.unit n.unit ≡ true
      → answer_of rule m n ≡ (guard (is_finite x && is_finite y && is_finite r) 25 0 >> fine (as_scalar r)) → Outcome rule page m n

module _ (rule : Quantity → Quantity → Answer Quantity) (page : ℕ → ℕ → Bool) (agrees : Agrees rule page) (op : Float → Float → Float)
    (is : IsRule op rule) (m n : Measured) where
  said : page m.unit n.unit ≡ is_fine (combined rule (quantity_at m.unit m.number) (quantity_at n.unit n.number))
  said = sym (agrees m.unit n.unit m.number n.number)

  ruled : (x y : Quantity) → quantity_at m.unit m.number ≡ fine x → quantity_at n.unit n.number ≡ fine y → (o : Answer Quantity)
      → rule x y ≡ o → Ruled op x y o → Outcome rule page m n
  ruled x y e f (refused k p) g refuses = apart (said ∙ rw (e, f, g) refl) (rw (e, f, g) refl)
  ruled x y e f (fine r) g t = tested x y r e f g (said ∙ rw (e, f, g) refl) (rw (e, f, g) refl)

  both : (a b : Answer Quantity) → quantity_at m.unit m.number ≡ a → quantity_at n.unit n.number ≡ b → Outcome rule page m n
  both (refused k p) b e f =
      let s = found_none k p (found pairs m.unit m.number) e in apart (said ∙ rw s refl) (rw s refl)
  both (fine x) (refused k p) e f =
      let s = found_none k p (found pairs n.unit n.number) f in apart (said ∙ rw (e, s) refl) (rw (e, s) refl)
  both (fine x) (fine y) e f = ruled x y e f (rule x y) refl (is x y)

  pub outcome : Outcome rule page m n
  outcome = both (quantity_at m.unit m.number) (quantity_at n.unit n.number) refl refl
