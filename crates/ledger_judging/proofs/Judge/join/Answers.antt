-- ledger_judging::Judge::join: each test is one of the definition, in its order: a byte, a deck, and room on it.
use mathlib.Core.Path.{refl, ◌∙◌}
use Rattle.sim0mq.proofs.Passing.{handed_on}
use Rattle.ledger_decks.proofs.OrderCases.{join_code, join-deck, join-full, join_goes}
use Rattle.ledger_judging.proofs.Judge.join.Goals as goal

pub returns-in_err-byte : goal.returns-in_err-byte
returns-in_err-byte c =
    handed_on _ _ _ c.from_residual.ensures.1 ∙ c.in_err-byte.ensures.1 ∙ join_code _ _ _ c.in_err-byte.ensures.0

pub returns-in_err-joined : goal.returns-in_err-joined
returns-in_err-joined c =
    handed_on _ _ _ c.from_residual-in_err-joined.ensures.1
    ∙ c.in_err-joined.ensures.1
    ∙ join-deck _ _ _ c.in_ok-byte.ensures _ refl c.in_err-joined.ensures.0

pub returns-then-self-joined-ge-DECK_HEADS : goal.returns-then-self-joined-ge-DECK_HEADS
returns-then-self-joined-ge-DECK_HEADS c =
    rw c.refuse.ensures
    (join-full _ _ _ c.in_ok-byte.ensures _ c.in_ok-joined.ensures.0 c.in_ok-joined.ensures.1
    c.if-self-joined-ge-DECK_HEADS.true)

pub returns : goal.returns
returns c =
    join_goes _ _ _ c.in_ok-byte.ensures _ c.in_ok-joined.ensures.0 c.in_ok-joined.ensures.1
    c.if-self-joined-ge-DECK_HEADS.false
