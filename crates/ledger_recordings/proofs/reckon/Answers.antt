-- Trailer and index are judged, and then the messages are mustered.
use mathlib.Core.Path.{sym, ap, ◌∙◌}
use Rattle.recordings.proofs.StatedLaws.{index_stated}
use Rattle.recordings.proofs.OpenCases.{open_wrong}
use Rattle.ledger_recordings.specs.Reckoning.{reckoned_as}
use Rattle.ledger_recordings.proofs.ReckonLaws.{reckon_refused}
use Rattle.ledger_recordings.proofs.reckon.Goals as goal

pub muster_each-requires : goal.muster_each-requires
muster_each-requires c = index_stated _ c.in-Some.ensures

pub returns-in_default : goal.returns-in_default
returns-in_default c =
    let wrong = open_wrong _ c.in_default.ensures in
    c.refused.ensures ∙ ap reckoned_as (sym (reckon_refused _ _ _ wrong))
