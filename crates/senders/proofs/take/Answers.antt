-- senders::take: the message is read once, and taken by the frames that reading found.
use mathlib.Core.Path.{ap, ◌∙◌}
use Rattle.senders.specs.Senders.{after_taking}
use Rattle.senders.proofs.CallCases.{take_stops, take_goes}
use Rattle.senders.proofs.take.Goals as goal

pub returns-in-Err : goal.returns-in-Err
returns-in-Err c =
    c.refused.ensures
    ∙ ap (after_taking c.args.book) (take_stops _ _ _ c.judge-a.ensures _ c.in-Err.is)

pub returns-in-Ok : goal.returns-in-Ok
returns-in-Ok c =
    c.take_framed.ensures
    ∙ ap (after_taking c.args.book) (take_goes _ _ _ c.judge-a.ensures _ c.in-Ok.is)
