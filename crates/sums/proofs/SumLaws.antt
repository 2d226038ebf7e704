-- How scalars are read and answered, case by case. Only the result has to be tested for 25, since a sum or a difference
-- with an operand that is infinite or a NaN is itself so.
use Prim.Native.Nat.{ℕ}
use mathlib.Core.Path.{◌≡◌, refl, ap, ◌∙◌}
use mathlib.Core.Bool.{Bool, true, false, ◌&&◌}
use mathlib.Core.List.{[], ◌∷◌}
use lib.Ieee.{Float}
use types.Run.{miss}
use borrow.Enum.Refused.{Among, opened}
use denote.Enum.Declared.{tag_of}
use Rattle.sim0mq.specs.Answer.{Answer, fine, refused, ◌>>=◌, ◌>>◌, guard}
use Rattle.sim0mq.specs.Mark.{kind_of}
use Rattle.sim0mq_kinds.specs.declared.Mark.{Mark}
use Rattle.sim0mq_kinds.specs.declared.Scalar.{Scalar}
use Rattle.sim0mq_kinds.specs.declared.Scalar.TheVariants.{Byte, Short, Int, Long, Float as Single, Double, Boolean, Char8, Char16, FloatUnit, DoubleUnit, NotNumber}
use Rattle.sim0mq_kinds.specs.contracts.Scalar.{the_type}
use Rattle.writing_encoding.specs.Scalars.{mark_taken}
use Rattle.sums_quantities.specs.declared.shown.Shown.{Shown}
use Rattle.sums_pairs.specs.Pairs.{Quantity, quantity_at}
use Rattle.sums_pairs.specs.Views.{combined}
use Rattle.sums.specs.Sums.{Measured, measured, finite, is_finite, as_scalar, answer_of, answer}
use Rattle.sums.specs.Views.{read_of, combined_of, shown_as, resulting}
use Rattle.sums.proofs.RuleLaws.{IsRule, Strict, rule_strict}

-- a scalar of any case but a double with its mark is refused by 17
pub no_double : (a : Scalar) → Among (0 ∷ 1 ∷ 2 ∷ 3 ∷ 4 ∷ 5 ∷ 6 ∷ 7 ∷ 8 ∷ 9 ∷ 11 ∷ []) (tag_of the_type a) → read_of a ≡ refused 17 0
unfolding read_of measured
no_double (Byte z) h = refl
no_double (Short z) h = refl
no_double (Int z) h = refl
no_double (Long z) h = refl
no_double (Single x) h = refl
no_double (Double x) h = refl
no_double (Boolean b) h = refl
no_double (Char8 n) h = refl
no_double (Char16 n) h = refl
no_double (FloatUnit x m) h = refl
no_double (DoubleUnit x m) h = absurd (miss (0 ∷ 1 ∷ 2 ∷ 3 ∷ 4 ∷ 5 ∷ 6 ∷ 7 ∷ 8 ∷ 9 ∷ 11 ∷ []) 10 tt (opened h))
no_double (NotNumber c) h = refl

-- so is one whose mark is not taken; and with a mark that is, it is the quantity of its unit type
module _ (x : Float) (m : Mark) where
  pub mark_untaken : mark_taken m (kind_of m.unit) ≡ false → read_of (DoubleUnit x m) ≡ refused 17 0
  unfolding read_of measured
  mark_untaken e = rw e

  pub mark_taken_lem : mark_taken m (kind_of m.unit) ≡ true
      → read_of (DoubleUnit x m) ≡ fine (quantity_at m.unit (record { value = x; display = m.display }))
  unfolding read_of measured
  mark_taken_lem e = rw e

-- what is combined, as far as each scalar is a quantity
module _ (rule : Quantity → Quantity → Answer Quantity) (a b : Scalar) where
  pub first_refused : (k p : ℕ) → read_of a ≡ refused k p → combined_of rule a b ≡ refused k p
  unfolding combined_of
  first_refused k p e = rw e

  module _ (x : Answer Quantity) (is : read_of a ≡ fine x) where
    pub second-refused : (k p : ℕ) → read_of b ≡ refused k p → combined_of rule a b ≡ refused k p
    unfolding combined_of
    second-refused k p e = rw (is, e)

    pub both-known : (y : Answer Quantity) → read_of b ≡ fine y → combined_of rule a b ≡ combined rule x y
    unfolding combined_of
    both-known y e = rw (is, e)

-- a test that passes wherever another does adds nothing to it
implied : (b c : Bool) → (c ≡ true → b ≡ true) → b && c ≡ c
implied true c h = refl
implied false true h = h refl
implied false false h = refl

-- by a rule whose operation is strict the answer is what was combined, tested alone
module _ (rule : Quantity → Quantity → Answer Quantity) (op : Float → Float → Float) (is : IsRule op rule) (strict : Strict op) where
  tested_once : (x y : Quantity) (o : Answer Quantity) → rule x y ≡ o
      → resulting o ≡ (o >>= λ r. guard (is_finite x && is_finite y && is_finite r) 25 0 >> fine (as_scalar r))
  unfolding resulting
  tested_once x y (refused k p) e = refl
  tested_once x y (fine r) e = rw (implied (is_finite x && is_finite y) (is_finite r) (rule_strict op strict x y r (is x y) e))

  one_test : (m n : Answer Quantity) → resulting (combined rule m n)
      ≡ (m >>= λ x. n >>= λ y. rule x y >>= λ r. guard (is_finite x && is_finite y && is_finite r) 25 0 >> fine (as_scalar r))
  unfolding resulting
  one_test (refused k p) n = refl
  one_test (fine x) (refused k p) = refl
  one_test (fine x) (fine y) = tested_once x y (rule x y) refl

  both_read : (m n : Answer Measured)
      → resulting ((m >>= λ u. fine (quantity_at u.unit u.number)) >>= λ x.
      (n >>= λ v. fine (quantity_at v.unit v.number)) >>= λ y. combined rule x y)
      ≡ (m >>= λ u. n >>= λ v. answer_of rule u v)
  unfolding resulting
  both_read (refused k p) n = refl
  both_read (fine u) (refused k p) = refl
  both_read (fine u) (fine v) = one_test (quantity_at u.unit u.number) (quantity_at v.unit v.number)

  pub answered : (a b : Scalar) (o : Answer Quantity) → o ≡ combined_of rule a b → resulting o ≡ answer rule a b
  unfolding answer combined_of read_of
  answered a b o e = ap resulting e ∙ both_read (measured a) (measured b)

-- a number as a scalar, where it is finite and where it is not
module _ (u : ℕ) (x : Shown) where
  pub not_finite : finite x.value ≡ false → shown_as u x ≡ refused 25 0
  unfolding shown_as
  not_finite e = rw e

  pub is_finite_lem : finite x.value ≡ true
      → shown_as u x ≡ fine (DoubleUnit x.value (record { unit = u; currency = 0; display = x.display }))
  unfolding shown_as
  is_finite_lem e = rw e
