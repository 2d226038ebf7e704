-- ledger::enter: what the book answers is what mustering answers, and the deed is done where the message is taken.
use mathlib.Core.Path.{ap, ◌∙◌}
use Rattle.ledger.specs.Ledger.{after_mustering}
use Rattle.ledger.proofs.CallCases.{book_stops, book_goes}
use Rattle.ledger.proofs.enter.Goals as goal

pub returns-in-Err : goal.returns-in-Err
returns-in-Err c =
    let a = c.args in
    c.refused.ensures
    ∙ ap (after_mustering a.ledger a.book)
    (book_stops a.ledger a.book _ _ a.deed _ c.take_framed-t.ensures _
    c.in-Err.is)

pub returns-in-Ok : goal.returns-in-Ok
returns-in-Ok c =
    let a = c.args in
    book_goes a.ledger a.book _ _ a.deed _ c.take_framed-t.ensures _ _
    c.in-Ok.is c.apply.ensures
