-- Only a double with its mark is a quantity, and only where the mark is taken.
use mathlib.Core.Path.{sym, ap, ◌∙◌}
use Rattle.sim0mq.specs.Answer.{fine}
use Rattle.sums.specs.Views.{known_as}
use Rattle.sums.proofs.SumLaws.{no_double, mark_untaken, mark_taken_lem}
use Rattle.sums.proofs.read.Goals as goal

pub returns-then-not-mark_taken : goal.returns-then-not-mark_taken
returns-then-not-mark_taken c = ap known_as c.refuse.ensures ∙ rw c.in-DoubleUnit.is (sym (mark_untaken _ _ (sym c.mark_taken.ensures ∙ c.if-not-mark_taken.true)))

pub returns-else-not-mark_taken : goal.returns-else-not-mark_taken
returns-else-not-mark_taken c =
    rw c.in-DoubleUnit.is
    (ap fine c.quantity_of.ensures ∙ sym (mark_taken_lem _ _ (sym c.mark_taken.ensures ∙ c.if-not-mark_taken.false)))

pub returns-in_default : goal.returns-in_default
returns-in_default c = ap known_as c.refuse-in_default.ensures ∙ sym (no_double _ c.in_default.in_default-own.keys2)
