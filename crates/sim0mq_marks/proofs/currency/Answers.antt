-- Each return is a case of the definition; the two bytes that are there write the number that is tested.
use native.Mathlib.Omega.{arith}
use mathlib.Core.Path.{ap, sym, ◌∙◌}
use Rattle.sim0mq.specs.Views.{judged}
use Rattle.sim0mq_marks.proofs.MarkCases.{currency_told, currency_short, currency_over, currency_fine}
use Rattle.sim0mq_marks.proofs.currency.Goals as goal

pub returns-then-s-at-lt2 : goal.returns-then-s-at-lt2
returns-then-s-at-lt2 c = ap judged c.refuse.ensures ∙ sym (currency_short _ _ (omega arith))

pub returns-then-currency_taken : goal.returns-then-currency_taken
returns-then-currency_taken c =
    sym
    (currency_fine _ _ (omega arith)
    (currency_told _ _ _ _ _ (omega arith) c.number.ensures.0 c.currency_taken.ensures c.if-currency_taken.true))

pub returns : goal.returns
returns c =
    ap judged c.refuse-2.ensures
    ∙ sym
    (currency_over _ _ (omega arith)
    (currency_told _ _ _ _ _ (omega arith) c.number.ensures.0 c.currency_taken.ensures c.if-currency_taken.false))
