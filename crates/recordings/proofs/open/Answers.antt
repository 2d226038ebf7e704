-- Trailer and index are judged, and then the messages.
use mathlib.Core.Path.{◌∙◌}
use Rattle.sim0mq.proofs.Passing.{handed_on}
use Rattle.recordings.proofs.OpenCases.{open_wrong}
use Rattle.recordings.proofs.open.Goals as goal

pub returns-in_err-t : goal.returns-in_err-t
returns-in_err-t c = handed_on _ _ _ c.from_residual.ensures.1 ∙ open_wrong _ c.in_err-t.ensures
