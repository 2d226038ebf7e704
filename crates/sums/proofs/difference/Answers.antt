-- What the two scalars were read as is combined, and only the difference is tested for 25.
use lib.Ieee.{binary64}
use mathlib.Core.Path.{sym, ◌∙◌}
use Rattle.sim0mq.proofs.Passing.{handed_on}
use Rattle.sums_pairs.specs.Views.{seen}
use Rattle.sums_pairs.specs.Pairs.{quantity_difference}
use Rattle.sums.specs.Views.{resulting}
use Rattle.sums.proofs.FloatLaws.{sub_strict}
use Rattle.sums.proofs.RuleLaws.{difference_rule}
use Rattle.sums.proofs.SumLaws.{answered, first_refused, second-refused, both-known}
use Rattle.sums.proofs.difference.Goals as goal

pub returns-in_err-x : goal.returns-in_err-x
unfolding resulting
returns-in_err-x c =
    handed_on _ _ _ c.from_residual.ensures.1
    ∙ answered quantity_difference _ difference_rule (sub_strict binary64) _ _ _ (sym (first_refused quantity_difference _ _ _ _ (sym c.in_err-x.ensures)))

pub returns-in_err-y : goal.returns-in_err-y
unfolding resulting
returns-in_err-y c =
    handed_on _ _ _ c.from_residual-in_err-y.ensures.1
    ∙ answered quantity_difference _ difference_rule (sub_strict binary64) _ _ _
    (sym (second-refused quantity_difference _ _ (seen c.in_ok-x.x) (sym c.in_ok-x.ensures) _ _ (sym c.in_err-y.ensures)))

pub returns : goal.returns
returns c =
    c.result.ensures
    ∙ answered quantity_difference _ difference_rule (sub_strict binary64) _ _ _
    (c.subtract.ensures ∙ sym (both-known quantity_difference _ _ (seen c.in_ok-x.x) (sym c.in_ok-x.ensures) (seen c.in_ok-y.y) (sym c.in_ok-y.ensures)))
