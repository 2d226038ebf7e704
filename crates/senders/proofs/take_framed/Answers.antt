-- senders::take_framed: the message is taken by the stamp of its frames 2 and 5.
use mathlib.Core.Path.{ap, ◌∙◌}
use Rattle.senders_book.proofs.TakeCases.{at-fault, at-stamp}
use Rattle.senders.specs.Senders.{after_taking}
use Rattle.senders.proofs.CallCases.{place_shown}
use Rattle.senders.proofs.take_framed.Goals as goal

pub returns-in-Err : goal.returns-in-Err
returns-in-Err c =
    let a = c.args in
    c.refused.ensures
    ∙ ap (after_taking a.book)
    (at-fault _ _ _ _ _ (place_shown a.frames 2) (place_shown a.frames 5) _ _ c.in-Err.ensures)

pub returns-in-Ok : goal.returns-in-Ok
returns-in-Ok c =
    let a = c.args in
    c.enter.ensures
    ∙ ap (after_taking a.book)
    (at-stamp _ _ _ _ _ (place_shown a.frames 2) (place_shown a.frames 5) _ c.in-Ok.ensures)
