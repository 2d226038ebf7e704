-- Trailer and index are judged, then the messages, then the room; what is written then is the copies, and after them
-- what follows the messages.
use mathlib.Core.Path.{ap, ◌∙◌}
use mathlib.Core.List.{[]}
use Rattle.sim0mq.specs.Views.{judged}
use Rattle.sim0mq.proofs.Passing.{handed_on}
use Rattle.recordings.proofs.StatedLaws.{index_stated}
use Rattle.recordings.proofs.OpenCases.{open_wrong}
use Rattle.recordings_blanking.proofs.BlankCases.{opened_is, copied_refused, copied-short, copied-place, copied-made}
use Rattle.recordings_blanking.proofs.blank_recording.Goals as goal

pub returns-in_default : goal.returns-in_default
returns-in_default c =
    let kept = copied_refused _ c.args.out.now _ _ (open_wrong _ c.in_default.ensures) in
    record { answer = ap judged c.refuse.ensures ∙ kept.0; copied = kept.1 }

pub returns-in_err-_messages : goal.returns-in_err-_messages
returns-in_err-_messages c =
    let kept = copied_refused _ c.args.out.now _ _ c.in_err-_messages.ensures in
    record { answer = handed_on _ _ _ c.from_residual.ensures.1 ∙ kept.0; copied = kept.1 }

pub returns-then-out-recording : goal.returns-then-out-recording
returns-then-out-recording c =
    let accepted = opened_is (index_stated _ c.in-Some.ensures) _ c.in_ok-_messages.ensures in
    let short = copied-short _ c.args.out.now accepted c.if-out-recording.true in
    record { answer = ap judged c.refuse-then-out-recording.ensures ∙ short.0; copied = short.1 }

pub blank_each-requires : goal.blank_each-requires
blank_each-requires c = (opened_is (index_stated _ c.in-Some.ensures) _ c.in_ok-_messages.ensures, c.if-out-recording.false)

pub slice_bounds-put-count : goal.slice_bounds-put-count
slice_bounds-put-count c = copied-place _ [] (opened_is (index_stated _ c.in-Some.ensures) _ c.in_ok-_messages.ensures)

pub slice_bounds-put-start : goal.slice_bounds-put-start
slice_bounds-put-start c = copied-place _ [] (opened_is (index_stated _ c.in-Some.ensures) _ c.in_ok-_messages.ensures)

pub returns : goal.returns
returns c =
    let accepted = opened_is (index_stated _ c.in-Some.ensures) _ c.in_ok-_messages.ensures in
    let made = copied-made _ c.args.out.now accepted _ _ c.if-out-recording.false c.blank_each.ensures c.put.ensures in
    record { answer = made.0; copied = made.1 }
