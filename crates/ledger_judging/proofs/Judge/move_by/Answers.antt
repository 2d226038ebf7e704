-- ledger_judging::Judge::move_by: each test is one of the definition, in its order: both bytes, both decks, a head on
-- the deck left, and room on the deck joined unless it is the deck left.
use mathlib.Core.Path.{refl, ◌∙◌}
use Rattle.sim0mq.proofs.Passing.{handed_on}
use Rattle.ledger_decks.proofs.OrderCases.{
  move_code,
  move-code-2,
  move-deck,
  move-deck-2,
  move-none,
  move-full,
  move-goes,
  move-stays,
}
use Rattle.ledger_judging.proofs.Judge.move_by.Goals as goal
use Rattle.ledger_judging.proofs.Judge.move_by.Goals.{
  else-joined-left-via-then-joined-left+else-self-joined-ge-DECK_HEADS,
  else-joined-left-via-else-joined-left,
}

pub returns-in_err-byte : goal.returns-in_err-byte
returns-in_err-byte c =
    handed_on _ _ _ c.from_residual.ensures.1 ∙ c.in_err-byte.ensures.1 ∙ move_code _ _ _ _ c.in_err-byte.ensures.0

pub returns-in_err-byte-2 : goal.returns-in_err-byte-2
returns-in_err-byte-2 c =
    handed_on _ _ _ c.from_residual-in_err-byte-2.ensures.1
    ∙ c.in_err-byte-2.ensures.1
    ∙ move-code-2 _ _ _ _ c.in_ok-byte.ensures c.in_err-byte-2.ensures.0

pub returns-in_err-joined : goal.returns-in_err-joined
returns-in_err-joined c =
    handed_on _ _ _ c.from_residual-in_err-joined.ensures.1
    ∙ c.in_err-joined.ensures.1
    ∙ move-deck _ _ _ _ c.in_ok-byte.ensures c.in_ok-byte-2.ensures _ refl c.in_err-joined.ensures.0

pub returns-in_err-left : goal.returns-in_err-left
returns-in_err-left c =
    handed_on _ _ _ c.from_residual-in_err-left.ensures.1
    ∙ c.in_err-left.ensures.1
    ∙ move-deck-2 _ _ _ _ c.in_ok-byte.ensures c.in_ok-byte-2.ensures _ c.in_ok-joined.ensures.0 c.in_ok-joined.ensures.1
    _ refl c.in_err-left.ensures.0

pub returns-then-self-left-le0 : goal.returns-then-self-left-le0
returns-then-self-left-le0 c =
    rw c.refuse.ensures
    (move-none _ _ _ _ c.in_ok-byte.ensures c.in_ok-byte-2.ensures _ c.in_ok-joined.ensures.0 c.in_ok-joined.ensures.1 _
    c.in_ok-left.ensures.0 c.in_ok-left.ensures.1 c.if-self-left-le0.true)

pub returns-then-self-joined-ge-DECK_HEADS : goal.returns-then-self-joined-ge-DECK_HEADS
returns-then-self-joined-ge-DECK_HEADS c =
    rw c.refuse-then-self-joined-ge-DECK_HEADS.ensures
    (move-full _ _ _ _ c.in_ok-byte.ensures c.in_ok-byte-2.ensures _ c.in_ok-joined.ensures.0 c.in_ok-joined.ensures.1 _
    c.in_ok-left.ensures.0 c.in_ok-left.ensures.1 c.if-self-left-le0.false
    c.if-joined-left.true c.if-self-joined-ge-DECK_HEADS.true)

pub returns : goal.returns
returns c =
    elim c.else-joined-left.branch [
      | else-joined-left-via-then-joined-left+else-self-joined-ge-DECK_HEADS w ↦
          move-goes _ _ _ _ c.in_ok-byte.ensures c.in_ok-byte-2.ensures _ c.in_ok-joined.ensures.0 c.in_ok-joined.ensures.1 _
          c.in_ok-left.ensures.0 c.in_ok-left.ensures.1 c.if-self-left-le0.false
          w.if-joined-left.true w.if-self-joined-ge-DECK_HEADS.false
      | else-joined-left-via-else-joined-left w ↦
          move-stays _ _ _ _ c.in_ok-byte.ensures c.in_ok-byte-2.ensures _ c.in_ok-joined.ensures.0 c.in_ok-joined.ensures.1 _
          c.in_ok-left.ensures.0 c.in_ok-left.ensures.1 c.if-self-left-le0.false
          w.if-joined-left.false
    ]
