-- ledger::muster_framed: what the ledger grants can be done, so the book is asked and the deed done after it.
use mathlib.Core.Path.{sym, ap, ◌∙◌}
use Rattle.ledger_decks.proofs.Promises.{ordering_can}
use Rattle.senders.proofs.CallCases.{place_shown}
use Rattle.ledger_judging.specs.Judging.{ordered}
use Rattle.ledger.specs.Ledger.{after_mustering}
use Rattle.ledger.proofs.CallCases.{framed_stops, framed_goes}
use Rattle.ledger.proofs.muster_framed.Goals as goal

pub enter-requires : goal.enter-requires
enter-requires c =
    ordering_can _ _ _ _ _ _ _ _
    (sym c.order.ensures ∙ ap ordered c.in-Ok.is)

pub returns-in-Err : goal.returns-in-Err
returns-in-Err c =
    let a = c.args in
    c.refused.ensures
    ∙ ap (after_mustering a.ledger a.book)
    (framed_stops _ _ _ _ _ _ _ _ (place_shown a.frames 4) (place_shown a.frames 6) (place_shown a.frames 7) _ _
    (sym c.order.ensures ∙ ap ordered c.in-Err.is))

pub returns-in-Ok : goal.returns-in-Ok
returns-in-Ok c =
    let a = c.args in
    c.enter.ensures
    ∙ ap (after_mustering a.ledger a.book)
    (framed_goes _ _ _ _ _ _ _ _ (place_shown a.frames 4) (place_shown a.frames 6) (place_shown a.frames 7) _
    (sym c.order.ensures ∙ ap ordered c.in-Ok.is))
