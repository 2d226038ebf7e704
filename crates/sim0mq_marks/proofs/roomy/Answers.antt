-- Each return is a case of the definition, told by the unit type's kind; no item's room is asked for again.
use Prim.Native.Nat.{ℕ, ◌-◌, ◌<◌}
use native.Mathlib.Omega.{arith}
use borrow.Author.Tests.{le-leb, lt-leb}
use mathlib.Core.Path.{ap, sym, ◌∙◌, subst}
use Rattle.sim0mq.specs.Views.{judged}
use Rattle.sim0mq_marks.proofs.MarkCases.{currency_told, per_known, mark_between, mark_above}
use Rattle.sim0mq_marks.proofs.MarkCases.{roomy_plain, roomy_plain_over, roomy_currency_over, roomy_money, roomy_per, roomy_per_over}
use Rattle.sim0mq_marks.proofs.roomy.Goals as goal

pub returns-then-s-at : goal.returns-then-s-at
returns-then-s-at c =
    let unit = c.wide-u.ensures.0 in
    sym (roomy_plain _ _ _ _ (omega arith) unit (omega arith) (le-leb _ _ c.if-s-at.true))

pub returns-then-u-le28 : goal.returns-then-u-le28
returns-then-u-le28 c =
    let unit = c.wide-u.ensures.0 in
    ap judged c.refuse.ensures ∙ sym (roomy_plain_over _ _ _ _ (omega arith) unit (omega arith) (lt-leb _ _ c.if-s-at.false))

pub returns-then-u-le99 : goal.returns-then-u-le99
returns-then-u-le99 c =
    let unit = c.wide-u in
    ap judged c.refuse-then-u-le99.ensures ∙ sym (mark_between _ _ _ unit.result (omega arith) unit.ensures.0 (omega arith) (omega arith))

pub returns-then-u-gt106 : goal.returns-then-u-gt106
returns-then-u-gt106 c =
    let unit = c.wide-u in
    ap judged c.refuse-then-u-gt106.ensures ∙ sym (mark_above _ _ _ unit.result (omega arith) unit.ensures.0 (omega arith))

pub returns-then-not-currency_taken : goal.returns-then-not-currency_taken
returns-then-not-currency_taken c =
    let unit = c.wide-u in
    let code = c.number.ensures.0 in
    let told = c.currency_taken.ensures in
    let unlisted = currency_told _ _ _ _ _ (omega arith) code told c.if-not-currency_taken.true in
    ap judged c.refuse-then-not-currency_taken.ensures
    ∙ sym (roomy_currency_over _ _ _ unit.result (omega arith) unit.ensures.0 (omega arith) (omega arith) unlisted)

pub returns-then-u-eq100 : goal.returns-then-u-eq100
returns-then-u-eq100 c =
    let unit = c.wide-u in
    let code = c.number.ensures.0 in
    let told = c.currency_taken.ensures in
    let listed = currency_told _ _ _ _ _ (omega arith) code told c.if-not-currency_taken.false in
    sym (roomy_money _ _ _ unit.result (omega arith) unit.ensures.0 c.if-u-eq100.true listed)

pub bounds-last-t : goal.bounds-last-t
bounds-last-t c =
    let unit = c.wide-u.result in
    subst (λ (t : ℕ). t < 29) (sym c.per-t.ensures) (per_known (unit - 101))

pub returns-then-s-at-2 : goal.returns-then-s-at-2
returns-then-s-at-2 c =
    let unit = c.wide-u in
    let per = c.per-t.ensures in
    let code = c.number.ensures.0 in
    let told = c.currency_taken.ensures in
    let listed = currency_told _ _ _ _ _ (omega arith) code told c.if-not-currency_taken.false in
    let shown = le-leb _ _ c.if-s-at-2.true in
    sym (roomy_per _ _ _ unit.result (omega arith) unit.ensures.0 _ (omega arith) (omega arith) per listed shown)

pub returns : goal.returns
returns c =
    let unit = c.wide-u in
    let per = c.per-t.ensures in
    let code = c.number.ensures.0 in
    let told = c.currency_taken.ensures in
    let listed = currency_told _ _ _ _ _ (omega arith) code told c.if-not-currency_taken.false in
    let over = lt-leb _ _ c.if-s-at-2.false in
    ap judged c.refuse-2.ensures
    ∙ sym (roomy_per_over _ _ _ unit.result (omega arith) unit.ensures.0 _ (omega arith) (omega arith) per listed over)
