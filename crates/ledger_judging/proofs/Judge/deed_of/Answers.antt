-- ledger_judging::Judge::deed_of: the status chooses between new, change and delete, and only a change looks at a
-- second field.
use mathlib.Core.Path.{sym, ◌∙◌}
use Rattle.sim0mq.proofs.Passing.{handed_on}
use Rattle.ledger_decks.proofs.OrderCases.{deed_new, deed-change, deed-stops, deed-delete}
use Rattle.ledger_judging.proofs.Judge.deed_of.Goals as goal

pub returns-then-status : goal.returns-then-status
returns-then-status c = c.join.ensures ∙ deed_new _ _ _ _ _ c.if-status.true

pub returns-in_err-g : goal.returns-in_err-g
returns-in_err-g c =
    handed_on _ _ _ c.from_residual.ensures.1
    ∙ deed-stops _ _ _ _ _ c.if-status.false c.if-status-2.true _ _ (sym c.in_err-g.ensures)

pub returns-then-status-2 : goal.returns-then-status-2
returns-then-status-2 c =
    c.move_by.ensures ∙ deed-change _ _ _ _ _ c.if-status.false c.if-status-2.true _ (sym c.in_ok-g.ensures)

pub returns : goal.returns
returns c = c.leave.ensures ∙ deed-delete _ _ _ _ _ c.if-status.false c.if-status-2.false
