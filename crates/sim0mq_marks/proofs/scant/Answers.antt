-- Each return is a case of the definition, told by the unit type's kind.
use Prim.Native.Nat.{ℕ, ◌-◌, ◌<◌}
use native.Mathlib.Omega.{arith}
use mathlib.Core.Path.{sym, ap, ◌∙◌, subst}
use Rattle.sim0mq.specs.Views.{judged}
use Rattle.sim0mq.proofs.Passing.{handed_on}
use Rattle.sim0mq_marks.proofs.MarkCases.{per_known, mark_plain, mark_between, mark_above, mark_money, mark_per_fine, mark_per_stop}
use Rattle.sim0mq_marks.proofs.scant.Goals as goal

pub returns-then-u-le28 : goal.returns-then-u-le28
returns-then-u-le28 c = c.display.ensures ∙ sym (mark_plain _ _ _ _ (omega arith) c.wide-u.ensures.0 (omega arith))

pub returns-then-u-le99 : goal.returns-then-u-le99
returns-then-u-le99 c =
    let unit = c.wide-u in
    ap judged c.refuse.ensures ∙ sym (mark_between _ _ _ unit.result (omega arith) unit.ensures.0 (omega arith) (omega arith))

pub returns-then-u-eq100 : goal.returns-then-u-eq100
returns-then-u-eq100 c =
    let unit = c.wide-u in
    c.currency.ensures ∙ sym (mark_money _ _ _ unit.result (omega arith) unit.ensures.0 c.if-u-eq100.true)

pub returns-then-u-gt106 : goal.returns-then-u-gt106
returns-then-u-gt106 c =
    let unit = c.wide-u in
    ap judged c.refuse-then-u-gt106.ensures ∙ sym (mark_above _ _ _ unit.result (omega arith) unit.ensures.0 (omega arith))

pub display-requires-2 : goal.display-requires-2
display-requires-2 c =
    let unit = c.wide-u.result in
    subst (λ (t : ℕ). t < 29) (sym c.per.ensures) (per_known (unit - 101))

pub returns-in_err-p : goal.returns-in_err-p
returns-in_err-p c =
    let unit = c.wide-u in
    handed_on _ _ _ c.from_residual.ensures.1
    ∙ sym (mark_per_stop _ _ _ unit.result (omega arith) unit.ensures.0 _ _ (omega arith) (omega arith) (sym c.in_err-p.ensures))

pub returns : goal.returns
returns c =
    let unit = c.wide-u in
    let per = c.per.ensures in
    c.display-2.ensures
    ∙ sym (mark_per_fine _ _ _ unit.result (omega arith) unit.ensures.0 _ _ (omega arith) (omega arith) per (sym c.in_ok-p.ensures))
