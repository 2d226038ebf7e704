-- The promises of specs/Promises.antt, proved.
use mathlib.Core.Path.{◌≡◌, refl, sym, ap, ◌∙◌, subst}
use mathlib.Core.Bool.{Bool, true, false, ◌&&◌, and_comm}
use mathlib.Core.Logic.{◌⊎◌, inl, inr}
use lib.IntN.{pos}
use lib.Ieee.{Float, fin, binary64, add, sub, fits, is_nan}
use lib.Ieee.Fits.{add-fits, sub-fits}
use Rattle.sim0mq.specs.Answer.{fine, refused, ◌>>=◌, ◌>>◌, guard}
use Rattle.sim0mq.specs.Mark.{kind_of}
use Rattle.sim0mq.proofs.Answers.{not_fine}
use Rattle.sim0mq_kinds.specs.declared.Mark.{Mark}
use Rattle.sim0mq_kinds.specs.declared.Scalar.TheVariants.{DoubleUnit}
use Rattle.writing_encoding.specs.Scalars.{scalar_text, mark_taken, writable}
use Rattle.writing_returning.proofs.ScalarLaws.{scalar_back}
use Rattle.sums_quantities.specs.declared.shown.Shown.{Shown}
use Rattle.sums_pairs.specs.Pairs.{Pair, pairs, relative, absolute, quantity_sum, quantity_difference}
use Rattle.sums.specs.Sums.{measured, finite, is_finite, as_scalar, answer_of, answer}
use Rattle.sums.specs.Promises.{IsTaken, TakenIsWhatReadingGives, AbsolutesAreNeverAdded, EitherOrder, DifferenceAddsBack, ResultComesBack, adds_in, subtracts_in, RefusalsInOrder}
use Rattle.sums.proofs.RuleLaws.{sum_rule, difference_rule}
use Rattle.sums.proofs.ReadLaws.{shown_of, IsRead, operand, no_operand, is_read}
use Rattle.sums.proofs.AnswerLaws.{answer_first, answer_second, sums_agree, differences_agree}
use Rattle.sums.proofs.AskLaws.{asked_taken}
use Rattle.sums.proofs.RefusalLaws.{is-answer, refuses_in_order}
use Rattle.sums.proofs.BackLaws.{comes_back, taken_back}
use Rattle.sums.proofs.UnitLaws.{absolute_at_lem, relative_at_lem, swapped}

pub taken_is_what_reading_gives : TakenIsWhatReadingGives
unfolding writable is_nan fits
taken_is_what_reading_gives = (
  λ s k x m e. asked_taken x m s k e,
  λ m t. let zero = DoubleUnit (fin false 0 (pos 0)) m in (scalar_text zero, fin false 0 (pos 0), scalar_back zero t tt),
)

pub absolutes_are_never_added : AbsolutesAreNeverAdded
unfolding quantity_sum
absolutes_are_never_added x y m n u v s t =
    let a = absolute_at_lem m.unit (shown_of x m) u in
    let b = absolute_at_lem n.unit (shown_of y n) v in
    is-answer quantity_sum (adds_in pairs) sums_agree (add binary64) sum_rule x y m n s t ∙ rw (a.2, b.2) refl

pub either_order : EitherOrder
unfolding answer measured
either_order x y m n u v = go (mark_taken m (kind_of m.unit)) (mark_taken n (kind_of n.unit))
  where
    ordered : (p q : Pair) (a b : Shown)
        → (quantity_sum (absolute p a) (relative q b) >>= λ r. guard (finite a.value && finite b.value && is_finite r) 25 0 >> fine (as_scalar r))
        ≡ (quantity_sum (relative q b) (absolute p a) >>= λ r. guard (finite b.value && finite a.value && is_finite r) 25 0 >> fine (as_scalar r))
    ordered p q a b =
        rw (swapped p q a b)
        (ap (λ (t : Bool). quantity_sum (relative q b) (absolute p a) >>= λ r. guard (t && is_finite r) 25 0 >> fine (as_scalar r))
        (and_comm (finite a.value) (finite b.value)))

    go : (b c : Bool)
        → ((guard b 17 0 >> fine (record { unit = m.unit; number = shown_of x m })) >>= λ i.
        (guard c 17 0 >> fine (record { unit = n.unit; number = shown_of y n })) >>= λ j. answer_of quantity_sum i j)
        ≡ ((guard c 17 0 >> fine (record { unit = n.unit; number = shown_of y n })) >>= λ j.
        (guard b 17 0 >> fine (record { unit = m.unit; number = shown_of x m })) >>= λ i. answer_of quantity_sum j i)
    go true true =
        let a = absolute_at_lem m.unit (shown_of x m) u in
        let b = relative_at_lem n.unit (shown_of y n) v in
        rw (a.2, b.2) (ordered a.0 b.0 a.1 b.1)
    go true false = refl
    go false true = refl
    go false false = refl

-- a scalar with this mark was read with it
same_mark : {x y : Float} {m n : Mark} → DoubleUnit x m ≡ DoubleUnit y n → n ≡ m
same_mark e = cc

pub difference_adds_back : DifferenceAddsBack
difference_adds_back x y m n d e = go (is_read (DoubleUnit x m)) (is_read (DoubleUnit y n))
  where
    go : IsRead (DoubleUnit x m) → IsRead (DoubleUnit y n)
        → (answer quantity_sum (DoubleUnit y n) d ≡ refused 25 0)
        ⊎ ((z : Float) × (k : Mark) × (answer quantity_sum (DoubleUnit y n) d ≡ fine (DoubleUnit z k)) × (k.unit ≡ m.unit))
    go (no_operand h f) j = absurd (not_fine (sym (answer_first quantity_difference (DoubleUnit x m) (DoubleUnit y n) f) ∙ e))
    go (operand x' m' i s f) (no_operand h g) = absurd (not_fine (sym (answer_second quantity_difference (DoubleUnit x m) (DoubleUnit y n) _ f g) ∙ e))
    go (operand x' m' i s f) (operand y' n' j t g) = taken_back x y m n (subst IsTaken (same_mark i) s) (subst IsTaken (same_mark j) t) d e

pub result_comes_back : ResultComesBack
result_comes_back a b r (inl e) = comes_back quantity_sum (adds_in pairs) sums_agree (add binary64) sum_rule (add-fits binary64) a b r e
result_comes_back a b r (inr e) = comes_back quantity_difference (subtracts_in pairs) differences_agree (sub binary64) difference_rule (sub-fits binary64) a b r e

pub refusals_in_order : RefusalsInOrder
refusals_in_order = (
  refuses_in_order quantity_sum (adds_in pairs) sums_agree (add binary64) sum_rule,
  refuses_in_order quantity_difference (subtracts_in pairs) differences_agree (sub binary64) difference_rule,
)
