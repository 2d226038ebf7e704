-- ledger_judging::order: the type, the number of fields and then the fields are judged in the definition's order, each
-- frame outlined where it is said to stand.
use mathlib.Core.Path.{sym, ◌∙◌}
use Rattle.sim0mq.proofs.Passing.{handed_on}
use Rattle.senders_book.proofs.StampLaws.{outline_within}
use Rattle.ledger_decks.proofs.OrderCases.{order_kind, order_other, order-status, order-many, order-goes}
use Rattle.ledger_judging.proofs.order.Goals as goal

pub returns-in_err-f : goal.returns-in_err-f
returns-in_err-f c =
    handed_on _ _ _ c.from_residual.ensures.1 ∙ order_kind _ _ _ _ _ _ _ _ _ (sym c.in_err-f.ensures)

pub is_muster-requires : goal.is_muster-requires
is_muster-requires c = outline_within _ _ _ (sym c.in_ok-f.ensures)

pub returns-then-not-is_muster : goal.returns-then-not-is_muster
returns-then-not-is_muster c =
    rw c.refuse.ensures
    (order_other _ _ _ _ _ _ _ _ (sym c.in_ok-f.ensures) (sym c.is_muster.ensures ∙ c.if-not-is_muster.true))

pub returns-in_err-g : goal.returns-in_err-g
returns-in_err-g c =
    handed_on _ _ _ c.from_residual-in_err-g.ensures.1
    ∙ order-status _ _ _ _ _ _ _ _ (sym c.in_ok-f.ensures) (sym c.is_muster.ensures ∙ c.if-not-is_muster.false) _ _
    (sym c.in_err-g.ensures)

pub returns-then-n-fields_for : goal.returns-then-n-fields_for
returns-then-n-fields_for c =
    rw c.refuse-then-n-fields_for.ensures
    (order-many _ _ _ _ _ _ _ _ (sym c.in_ok-f.ensures) (sym c.is_muster.ensures ∙ c.if-not-is_muster.false) _
    (sym c.in_ok-g.ensures) _ c.number-x.ensures.0 _ c.fields_for.ensures c.if-n-fields_for.true)

pub returns : goal.returns
returns c =
    c.deed_for.ensures
    ∙ order-goes _ _ _ _ _ _ _ _ (sym c.in_ok-f.ensures) (sym c.is_muster.ensures ∙ c.if-not-is_muster.false) _
    (sym c.in_ok-g.ensures) _ c.number-x.ensures.0 _ c.fields_for.ensures c.if-n-fields_for.false
