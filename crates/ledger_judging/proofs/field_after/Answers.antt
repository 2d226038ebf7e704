-- ledger_judging::field_after: the next field begins where the value bytes of f end.
use mathlib.Core.Path.{◌∙◌}
use Rattle.ledger_decks.proofs.OrderCases.{follows_at}
use Rattle.ledger_judging.proofs.field_after.Goals as goal

pub returns : goal.returns
returns c = c.outline.ensures ∙ follows_at _ _
