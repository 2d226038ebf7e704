-- senders::enter: an id that is not too long is made, settled, and stands in its place with the number.
use mathlib.Core.Path.{ap, sym, ◌∙◌}
use borrow.Author.Rules.{rules}
use mir.Syntax.{w64}
use mir.ValLaws.{to_z-of_z}
use Rattle.sim0mq.specs.Views.{judged}
use Rattle.senders_book.proofs.TakeCases.{stamp_long, stamp-stops, stamp-goes}
use Rattle.senders.specs.Senders.{stamp_as, after_taking}
use Rattle.senders.proofs.CallCases.{settling_by, stands_in}
use Rattle.senders.proofs.enter.Goals as goal

pub returns-then-t-gt-ID_BYTES : goal.returns-then-t-gt-ID_BYTES
returns-then-t-gt-ID_BYTES c = rw c.refuse.ensures (ap (after_taking c.args.book) (stamp_long _ _ c.if-t-gt-ID_BYTES.true))

pub returns-in-Err : goal.returns-in-Err
returns-in-Err c =
    let a = c.args in
    let number = to_z-of_z w64 a.t.number (search rules) in
    c.refused.ensures
    ∙ ap (after_taking a.book)
    (stamp-stops a.book.senders (stamp_as a.t) c.if-t-gt-ID_BYTES.false _ c.id_of-id.ensures _ _
    (settling_by a.book.senders _ _ _ _ _ _ (sym number) c.settle.ensures.0 ∙ ap judged c.in-Err.is))

pub returns-in-Ok : goal.returns-in-Ok
returns-in-Ok c =
    let a = c.args in
    let number = to_z-of_z w64 a.t.number (search rules) in
    stands_in a.book (stamp_as a.t) _ _ _ c.id_of-id.ensures number
    ∙ ap (after_taking a.book)
    (stamp-goes a.book.senders (stamp_as a.t) c.if-t-gt-ID_BYTES.false _ c.id_of-id.ensures _
    (settling_by a.book.senders _ _ _ _ _ _ (sym number) c.settle.ensures.0 ∙ ap judged c.in-Ok.is))
