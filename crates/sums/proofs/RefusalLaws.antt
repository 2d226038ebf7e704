-- The refusals in their order: each scalar is read or is no operand, and of two operands the answer is refused by 24,
-- or tested for 25.
use Prim.Native.Nat.{ℕ}
use mathlib.Core.Path.{◌≡◌, refl, sym, ap, ap₂, ◌∙◌}
use mathlib.Core.Bool.{Bool, true, false, ◌&&◌, false≢true}
use mathlib.Core.List.{[], ◌∷◌}
use mathlib.Core.Logic.{◌⊎◌, inl, inr}
use native.Mathlib.Omega.{arith}
use lib.Ieee.{Float}
use Rattle.sim0mq.specs.Answer.{Answer, fine, refused, ◌>>◌, guard}
use Rattle.sim0mq.specs.Codes.{among}
use Rattle.sim0mq.specs.Mark.{kind_of}
use Rattle.sim0mq.proofs.Answers.{not_fine, fine_eq}
use Rattle.sim0mq_kinds.specs.declared.Mark.{Mark}
use Rattle.sim0mq_kinds.specs.declared.Scalar.{Scalar}
use Rattle.sim0mq_kinds.specs.declared.Scalar.TheVariants.{DoubleUnit}
use Rattle.writing_encoding.specs.Scalars.{mark_taken}
use Rattle.sums_quantities.specs.declared.shown.Shown.{Shown}
use Rattle.sums_pairs.specs.Pairs.{pairs, Quantity, number_of, quantity_at}
use Rattle.sums.specs.Sums.{Measured, measured, finite, is_finite, as_scalar, answer_of, answer}
use Rattle.sums.specs.Promises.{NoOperand, Refuses}
use Rattle.sums.proofs.RuleLaws.{value_of, Ruled, refuses, combines, IsRule}
use Rattle.sums.proofs.ReadLaws.{shown_of, IsRead, operand, no_operand, is_read, found, found_is}
use Rattle.sums.proofs.AnswerLaws.{answer_at, answer_first, answer_second, Agrees, Outcome, apart, tested, outcome}

-- equal refusals have equal numbers and places
same_number : {A : Type 0} {k l p q : ℕ} → ◌≡◌ {A = Answer A} (refused k p) (refused l q) → (k ≡ l) × (p ≡ q)
same_number e = (cc, cc)

-- of a test that guards an answer: refused, it has failed; and failed, it is refused
module _ {A : Type 0} (b : Bool) (a : A) where
  guard_failed : (guard b 25 0 >> fine a) ≡ refused 25 0 → b ≡ false
  guard_failed e = go b e
    where
      go : (c : Bool) → (guard c 25 0 >> fine a) ≡ refused 25 0 → c ≡ false
      go true f = absurd (not_fine (sym f))
      go false f = refl

  guard_number : (k p : ℕ) → (guard b 25 0 >> fine a) ≡ refused k p → (25 ≡ k) × (0 ≡ p)
  guard_number k p e = go b e
    where
      go : (c : Bool) → (guard c 25 0 >> fine a) ≡ refused k p → (25 ≡ k) × (0 ≡ p)
      go true f = absurd (not_fine (sym f))
      go false f = same_number f

module _ (rule : Quantity → Quantity → Answer Quantity) (page : ℕ → ℕ → Bool) (agrees : Agrees rule page) (op : Float → Float → Float)
    (is : IsRule op rule) where
  -- the numbers that are tested are those of the scalars, and their sum
  same_tests : (m n : Measured) (x y r : Quantity) → quantity_at m.unit m.number ≡ fine x → quantity_at n.unit n.number ≡ fine y
      → rule x y ≡ fine r
      → is_finite x && is_finite y && is_finite r ≡ finite m.number.value && finite n.number.value && finite (op m.number.value n.number.value)
  same_tests m n x y r e f g =
      let a : number_of x ≡ m.number = (found_is x (found pairs m.unit m.number) e).1 in
      let b : number_of y ≡ n.number = (found_is y (found pairs n.unit n.number) f).1 in
      let c = go (rule x y) (is x y) g ∙ ap₂ (λ (i j : Shown). op i.value j.value) a b in
      rw (c, a, b) refl
    where
      go : (o : Answer Quantity) → Ruled op x y o → o ≡ fine r → value_of r ≡ op (value_of x) (value_of y)
      go o refuses h = absurd (not_fine h)
      go o (combines s v k) h = sym (ap value_of (fine_eq h)) ∙ v

  -- of two operands
  module _ (x y : Float) (m n : Mark) (s : mark_taken m (kind_of m.unit) ≡ true) (t : mark_taken n (kind_of n.unit) ≡ true) where
    abbrev left : Measured
    left = record { unit = m.unit; number = shown_of x m }

    abbrev right : Measured
    right = record { unit = n.unit; number = shown_of y n }

    pub is-answer : answer rule (DoubleUnit x m) (DoubleUnit y n) ≡ answer_of rule left right
    unfolding measured
    is-answer = answer_at rule _ _ left right (rw s) (rw t)

    -- 24 exactly where the page has no such sum
    refused-by-page : answer rule (DoubleUnit x m) (DoubleUnit y n) ≡ refused 24 0 → page m.unit n.unit ≡ false
    refused-by-page e = go (outcome rule page agrees op is left right)
      where
        go : Outcome rule page left right → page m.unit n.unit ≡ false
        go (apart h f) = h
        go (tested a b r i j k h f) =
            let z : ◌≡◌ {A = ℕ} 25 24 = (guard_number (is_finite a && is_finite b && is_finite r) (as_scalar r) 24 0 (sym f ∙ sym is-answer ∙ e)).0 in absurd (omega arith)

    page-refuses : page m.unit n.unit ≡ false → answer rule (DoubleUnit x m) (DoubleUnit y n) ≡ refused 24 0
    page-refuses e = go (outcome rule page agrees op is left right)
      where
        go : Outcome rule page left right → answer rule (DoubleUnit x m) (DoubleUnit y n) ≡ refused 24 0
        go (apart h f) = is-answer ∙ f
        go (tested a b r i j k h f) = absurd (false≢true (sym e ∙ h))

    -- 25 exactly where one of the numbers is not finite
    module _ (in-page : page m.unit n.unit ≡ true) where
      not-all-finite : answer rule (DoubleUnit x m) (DoubleUnit y n) ≡ refused 25 0 → finite x && finite y && finite (op x y) ≡ false
      not-all-finite e = go (outcome rule page agrees op is left right)
        where
          go : Outcome rule page left right → finite x && finite y && finite (op x y) ≡ false
          go (apart h f) = absurd (false≢true (sym h ∙ in-page))
          go (tested a b r i j k h f) = sym (same_tests left right a b r i j k) ∙ guard_failed (is_finite a && is_finite b && is_finite r) (as_scalar r) (sym f ∙ sym is-answer ∙ e)

      refused-as-infinite : finite x && finite y && finite (op x y) ≡ false → answer rule (DoubleUnit x m) (DoubleUnit y n) ≡ refused 25 0
      refused-as-infinite e = go (outcome rule page agrees op is left right)
        where
          go : Outcome rule page left right → answer rule (DoubleUnit x m) (DoubleUnit y n) ≡ refused 25 0
          go (apart h f) = absurd (false≢true (sym h ∙ in-page))
          go (tested a b r i j k h f) =
              is-answer ∙ f ∙ ap (λ (c : Bool). guard c 25 0 >> fine (as_scalar r)) (same_tests left right a b r i j k ∙ e)

  -- every refusal is one of the three, at 0
  listed : (a b : Scalar) (k p : ℕ) → answer rule a b ≡ refused k p → (among k (17 ∷ 24 ∷ 25 ∷ []) ≡ true) × (p ≡ 0)
  unfolding among
  listed a b k p e = go (is_read a) (is_read b)
    where
      is-listed : (l : ℕ) → (l ≡ k) × (0 ≡ p) → among l (17 ∷ 24 ∷ 25 ∷ []) ≡ true → (among k (17 ∷ 24 ∷ 25 ∷ []) ≡ true) × (p ≡ 0)
      is-listed l s h = (ap (λ (i : ℕ). among i (17 ∷ 24 ∷ 25 ∷ [])) (sym s.0) ∙ h, sym s.1)

      two : (m n : Measured) → answer rule a b ≡ answer_of rule m n → Outcome rule page m n → (among k (17 ∷ 24 ∷ 25 ∷ []) ≡ true) × (p ≡ 0)
      two m n i (apart h f) = is-listed 24 (same_number (sym f ∙ sym i ∙ e)) refl
      two m n i (tested x y r u v g h f) =
          is-listed 25 (guard_number (is_finite x && is_finite y && is_finite r) (as_scalar r) k p (sym f ∙ sym i ∙ e)) refl

      go : IsRead a → IsRead b → (among k (17 ∷ 24 ∷ 25 ∷ []) ≡ true) × (p ≡ 0)
      go (no_operand h f) j = is-listed 17 (same_number (sym (answer_first rule a b f) ∙ e)) refl
      go (operand x m i s f) (no_operand h g) = is-listed 17 (same_number (sym (answer_second rule a b _ f g) ∙ e)) refl
      go (operand x m i s f) (operand y n j s' g) = two _ _ (answer_at rule a b _ _ f g) (outcome rule page agrees op is _ _)

  -- 17 exactly where one of the two is no operand
  no_operand_lem : (a b : Scalar) → answer rule a b ≡ refused 17 0 → NoOperand a ⊎ NoOperand b
  no_operand_lem a b e = go (is_read a) (is_read b)
    where
      two : (m n : Measured) → answer rule a b ≡ answer_of rule m n → Outcome rule page m n → ⊥
      two m n i (apart h f) = let z : ◌≡◌ {A = ℕ} 24 17 = (same_number (sym f ∙ sym i ∙ e)).0 in omega arith
      two m n i (tested x y r u v g h f) =
          let z : ◌≡◌ {A = ℕ} 25 17 = (guard_number (is_finite x && is_finite y && is_finite r) (as_scalar r) 17 0 (sym f ∙ sym i ∙ e)).0 in omega arith

      go : IsRead a → IsRead b → NoOperand a ⊎ NoOperand b
      go (no_operand h f) j = inl h
      go (operand x m i s f) (no_operand h g) = inr h
      go (operand x m i s f) (operand y n j s' g) = absurd (two _ _ (answer_at rule a b _ _ f g) (outcome rule page agrees op is _ _))

  seventeen : (a b : Scalar) → NoOperand a ⊎ NoOperand b → answer rule a b ≡ refused 17 0
  seventeen a b e = go (is_read a) (is_read b) e
    where
      go : IsRead a → IsRead b → NoOperand a ⊎ NoOperand b → answer rule a b ≡ refused 17 0
      go (no_operand h f) j o = answer_first rule a b f
      go (operand x m i s f) (no_operand h g) o = answer_second rule a b _ f g
      go (operand x m i s f) (operand y n j s' g) (inl o) = absurd (o x m i s)
      go (operand x m i s f) (operand y n j s' g) (inr o) = absurd (o y n j s')

  pub refuses_in_order : Refuses (answer rule) page op
  refuses_in_order =
      record {
        first = λ a b. (no_operand_lem a b, seventeen a b);
        second = λ x y m n s t. (refused-by-page x y m n s t, page-refuses x y m n s t);
        third = λ x y m n s t h. (not-all-finite x y m n s t h, refused-as-infinite x y m n s t h);
        other = listed;
      }
