-- Trailer and index are judged, then whether there is such a message, then that message.
use mathlib.Core.Path.{ap, ◌∙◌}
use Rattle.sim0mq.proofs.Passing.{handed_on}
use Rattle.recordings.specs.Recordings.{asked_as}
use Rattle.recordings.proofs.StatedLaws.{index_stated, entry-stated, entry-lies}
use Rattle.recordings.proofs.OpenCases.{ask_wrong, ask-none, ask-refused, ask-found}
use Rattle.recordings.proofs.ask.Goals as goal

pub returns-in_err-t : goal.returns-in_err-t
returns-in_err-t c = handed_on _ _ _ c.from_residual.ensures.1 ∙ ask_wrong _ c.in_err-t.ensures _

pub returns-then-t-k : goal.returns-then-t-k
returns-then-t-k c =
    ap asked_as c.refuse.ensures ∙ ask-none (index_stated _ c.in_ok-t.ensures) _ c.if-t-k.true

pub stretch-requires : goal.stretch-requires
stretch-requires c =
    let stated = index_stated _ c.in_ok-t.ensures in
    let more = c.if-t-k.false in
    entry-lies stated more (entry-stated stated more c.entry-m.ensures.answer)

pub returns-in_err-_length : goal.returns-in_err-_length
returns-in_err-_length c =
    let stated = index_stated _ c.in_ok-t.ensures in
    let more = c.if-t-k.false in
    handed_on _ _ _ c.from_residual-in_err-_length.ensures.1
    ∙ ask-refused stated _ more (entry-stated stated more c.entry-m.ensures.answer) c.in_err-_length.ensures

pub returns : goal.returns
returns c =
    let stated = index_stated _ c.in_ok-t.ensures in
    let more = c.if-t-k.false in
    ask-found stated _ more (entry-stated stated more c.entry-m.ensures.answer) _ c.in_ok-_length.ensures
