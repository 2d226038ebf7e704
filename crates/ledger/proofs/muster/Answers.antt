-- ledger::muster: the message is read once, and mustered by the frames and the number of fields that reading found.
use mathlib.Core.Path.{ap, ◌∙◌}
use Rattle.ledger.specs.Ledger.{after_mustering}
use Rattle.ledger.proofs.CallCases.{muster_stops, muster_goes}
use Rattle.ledger.proofs.muster.Goals as goal

pub returns-in-Err : goal.returns-in-Err
returns-in-Err c =
    let a = c.args in
    c.refused.ensures
    ∙ ap (after_mustering a.ledger a.book)
    (muster_stops _ _ _ _ c.judge-a.ensures _ c.in-Err.is)

pub returns-in-Ok : goal.returns-in-Ok
returns-in-Ok c =
    let a = c.args in
    c.muster_framed.ensures
    ∙ ap (after_mustering a.ledger a.book)
    (muster_goes _ _ _ _ c.judge-a.ensures _ c.in-Ok.is)
