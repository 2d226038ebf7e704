-- ledger_judging::Judge::deed_for: the first field stands after frame 7, and lies in the message.
use mathlib.Core.Path.{sym, ◌∙◌}
use Rattle.sim0mq.proofs.Passing.{handed_on}
use Rattle.ledger_decks.proofs.OrderCases.{first_stops, first_goes, follows_within}
use Rattle.ledger_judging.proofs.Judge.deed_for.Goals as goal

pub returns-in_err-f : goal.returns-in_err-f
returns-in_err-f c = handed_on _ _ _ c.from_residual.ensures.1 ∙ first_stops _ _ _ _ _ _ (sym c.in_err-f.ensures)

pub deed_of-requires : goal.deed_of-requires
deed_of-requires c = follows_within _ _ _ (sym c.in_ok-f.ensures)

pub returns : goal.returns
returns c = c.deed_of.ensures ∙ first_goes _ _ _ _ _ (sym c.in_ok-f.ensures)
