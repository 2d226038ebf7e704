-- At each turn the messages that are left come to what all come to.
use mathlib.Core.Path.{ap, ◌∙◌}
use mir.Val.{bool_byte}
use Rattle.recordings.proofs.StatedLaws.{entry-stated, entry-lies}
use Rattle.ledger_recordings.proofs.ReckonLaws.{reckons_start, reckons-stop, reckons-said, reckons-turn, reckons-end}
use Rattle.ledger_recordings.proofs.TurnLaws.{opened_on, one_applied}
use Rattle.ledger_recordings.proofs.muster_each.Goals as goal

pub loop-k-init : goal.loop-k-init
loop-k-init c =
    reckons_start c.requires _ _ (ap (λ x. x.heads) c.empty-ledger.ensures) (ap (λ x. x.senders) c.empty-book.ensures)

pub muster_part-requires : goal.muster_part-requires
muster_part-requires c =
    let more = c.loop-k-test.true in
    entry-lies c.requires more (entry-stated c.requires more c.entry-m.ensures.answer)

pub returns-in_err-came : goal.returns-in_err-came
returns-in_err-came c =
    let more = c.loop-k-test.true in
    let stop
    =
    reckons-stop c.requires c.loop-k.invariant more _ (entry-stated c.requires more c.entry-m.ensures.answer) _ _
    c.in_err-came.ensures in
    opened_on _ _ c.from_residual.ensures.1 ∙ stop

pub loop-k-preserved : goal.loop-k-preserved
loop-k-preserved c =
    let more = c.loop-k-test.true in
    let stated = entry-stated c.requires more c.entry-m.ensures.answer in
    let came = c.in_ok-came.ensures in
    let said = reckons-said c.requires c.loop-k.invariant more _ stated _ came in
    reckons-turn c.requires c.loop-k.invariant more _ stated _ came _
    (c.from-one.ensures ∙ ap bool_byte c.is_ok.ensures.value ∙ one_applied _ _ _ _ said)

pub returns : goal.returns
returns c = reckons-end c.requires c.loop-k.invariant c.loop-k-test.false
