-- The first of the three that refuses, or none.
use mathlib.Core.Path.{◌∙◌}
use Rattle.sim0mq.proofs.Passing.{handed_on}
use Rattle.commands.proofs.NumberLaws.{fields_number, fields-codes, fields-strings, fields-fine}
use Rattle.commands.proofs.Rows.fields.Goals as goal

pub returns-in_err-counted : goal.returns-in_err-counted
returns-in_err-counted c =
    λ fs h. handed_on _ _ _ c.from_residual.ensures.1 ∙ fields_number _ _ _ _ _ _ (c.in_err-counted.ensures fs h)

pub returns-in_err-each : goal.returns-in_err-each
returns-in_err-each c =
    λ fs h.
    handed_on _ _ _ c.from_residual-in_err-each.ensures.1
    ∙ fields-codes _ _ _ _ (c.in_ok-counted.ensures fs h) _ _ (c.in_err-each.ensures fs h)

pub returns-in_err-each-2 : goal.returns-in_err-each-2
returns-in_err-each-2 c =
    λ fs h.
    handed_on _ _ _ c.from_residual-in_err-each-2.ensures.1
    ∙ fields-strings _ _ _ _ (c.in_ok-counted.ensures fs h) (c.in_ok-each.ensures fs h) _ _ (c.in_err-each-2.ensures fs h)

pub returns : goal.returns
returns c =
    λ fs h.
    fields-fine _ _ _ _ (c.in_ok-counted.ensures fs h) (c.in_ok-each.ensures fs h) (c.in_ok-each-2.ensures fs h)
