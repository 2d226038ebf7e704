-- What the two scalars were read as is combined, and only the sum is tested for 25.
use lib.Ieee.{binary64}
use mathlib.Core.Path.{sym, ◌∙◌}
use Rattle.sim0mq.proofs.Passing.{handed_on}
use Rattle.sums_pairs.specs.Views.{seen}
use Rattle.sums_pairs.specs.Pairs.{quantity_sum}
use Rattle.sums.specs.Views.{resulting}
use Rattle.sums.proofs.FloatLaws.{add_strict}
use Rattle.sums.proofs.RuleLaws.{sum_rule}
use Rattle.sums.proofs.SumLaws.{answered, first_refused, second-refused, both-known}
use Rattle.sums.proofs.sum.Goals as goal

pub returns-in_err-x : goal.returns-in_err-x
unfolding resulting
returns-in_err-x c =
    handed_on _ _ _ c.from_residual.ensures.1
    ∙ answered quantity_sum _ sum_rule (add_strict binary64) _ _ _ (sym (first_refused quantity_sum _ _ _ _ (sym c.in_err-x.ensures)))

pub returns-in_err-y : goal.returns-in_err-y
unfolding resulting
returns-in_err-y c =
    handed_on _ _ _ c.from_residual-in_err-y.ensures.1
    ∙ answered quantity_sum _ sum_rule (add_strict binary64) _ _ _
    (sym (second-refused quantity_sum _ _ (seen c.in_ok-x.x) (sym c.in_ok-x.ensures) _ _ (sym c.in_err-y.ensures)))

pub returns : goal.returns
returns c =
    c.result.ensures
    ∙ answered quantity_sum _ sum_rule (add_strict binary64) _ _ _
    (c.add.ensures ∙ sym (both-known quantity_sum _ _ (seen c.in_ok-x.x) (sym c.in_ok-x.ensures) (seen c.in_ok-y.y) (sym c.in_ok-y.ensures)))
