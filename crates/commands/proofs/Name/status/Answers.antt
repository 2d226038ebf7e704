-- FM.7 is row 12, and only row 12 is a change.
use Rattle.commands.proofs.TableLaws.{status_change, status_new}
use Rattle.commands.proofs.Name.status.Goals as goal

pub returns-in-SimReset : goal.returns-in-SimReset
returns-in-SimReset c = status_change _ c.in-SimReset.is

pub returns-in_default : goal.returns-in_default
returns-in_default c = status_new _ c.in_default.not-SimReset
