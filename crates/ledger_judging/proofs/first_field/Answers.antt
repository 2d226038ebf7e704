-- ledger_judging::first_field: frame 7 is outlined where it is said to stand, and lies in the message, so that the
-- field after it can be outlined too.
use mathlib.Core.Path.{sym, ◌∙◌}
use Rattle.sim0mq.proofs.Passing.{handed_on}
use Rattle.senders_book.proofs.StampLaws.{outline_within}
use Rattle.ledger_decks.proofs.OrderCases.{follows_goes, follows_stops}
use Rattle.ledger_judging.proofs.first_field.Goals as goal

pub returns-in_err-c : goal.returns-in_err-c
returns-in_err-c c = handed_on _ _ _ c.from_residual.ensures.1 ∙ follows_stops _ _ _ _ (sym c.in_err-c.ensures)

pub field_after-requires : goal.field_after-requires
field_after-requires c = outline_within _ _ _ (sym c.in_ok-c.ensures)

pub returns : goal.returns
returns c = c.field_after.ensures ∙ follows_goes _ _ _ (sym c.in_ok-c.ensures)
