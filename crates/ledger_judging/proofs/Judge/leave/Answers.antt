-- ledger_judging::Judge::leave: each test is one of the definition, in its order: a byte, a deck, and a head on it.
use mathlib.Core.Path.{refl, ◌∙◌}
use Rattle.sim0mq.proofs.Passing.{handed_on}
use Rattle.ledger_decks.proofs.OrderCases.{leave_code, leave-deck, leave_none, leave-goes}
use Rattle.ledger_judging.proofs.Judge.leave.Goals as goal

pub returns-in_err-byte : goal.returns-in_err-byte
returns-in_err-byte c =
    handed_on _ _ _ c.from_residual.ensures.1 ∙ c.in_err-byte.ensures.1 ∙ leave_code _ _ _ c.in_err-byte.ensures.0

pub returns-in_err-left : goal.returns-in_err-left
returns-in_err-left c =
    handed_on _ _ _ c.from_residual-in_err-left.ensures.1
    ∙ c.in_err-left.ensures.1
    ∙ leave-deck _ _ _ c.in_ok-byte.ensures _ refl c.in_err-left.ensures.0

pub returns-then-self-left-le0 : goal.returns-then-self-left-le0
returns-then-self-left-le0 c =
    rw c.refuse.ensures
    (leave_none _ _ _ c.in_ok-byte.ensures _ c.in_ok-left.ensures.0 c.in_ok-left.ensures.1 c.if-self-left-le0.true)

pub returns : goal.returns
returns c =
    leave-goes _ _ _ c.in_ok-byte.ensures _ c.in_ok-left.ensures.0 c.in_ok-left.ensures.1 c.if-self-left-le0.false
