-- The empty ledger stands beside the refusal.
use Rattle.ledger_recordings.proofs.TurnLaws.{refused_with}
use Rattle.ledger_recordings.proofs.refused.Goals as goal

pub returns : goal.returns
returns c = refused_with _ _ _ c.empty.ensures
