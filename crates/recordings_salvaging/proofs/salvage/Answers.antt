-- Dividing the file finds the messages, and their lengths are kept; the tail is put where there is room for it after
-- them, and then the messages before it.
use mathlib.Core.Path.{refl, sym, ◌∙◌}
use lib.Seq.{length-take-le}
use Rattle.sim0mq.proofs.Passing.{handed_on}
use Rattle.recordings_format.specs.Edition.{most_messages}
use Rattle.recordings_salvaging.proofs.SaveCases.{save_found, save_there, save_within, save-refused, save-saved}
use Rattle.recordings_salvaging.proofs.salvage.Goals as goal

pub slice_bounds-lengths-end : goal.slice_bounds-lengths-end
unfolding most_messages
slice_bounds-lengths-end c =
    save_there (save_found c.args.file.now c.divide-d.result _ _ c.divide-d.new.lengths refl c.divide-d.ensures.answer c.divide-d.ensures.kept)

pub slice_bounds-put_tail-end : goal.slice_bounds-put_tail-end
unfolding most_messages
slice_bounds-put_tail-end c =
    let found = save_found c.args.file.now c.divide-d.result _ _ c.divide-d.new.lengths refl c.divide-d.ensures.answer c.divide-d.ensures.kept in
    sym (length-take-le _ c.divide-d.new.lengths (save_there found))

pub returns-in_err-length : goal.returns-in_err-length
unfolding most_messages
returns-in_err-length c =
    let found = save_found c.args.file.now c.divide-d.result _ _ c.divide-d.new.lengths refl c.divide-d.ensures.answer c.divide-d.ensures.kept in
    let put = c.in_err-length.ensures in
    let both = save-refused found c.args.out.now put.written put.answer in
    record { answer = handed_on _ _ _ c.from_residual.ensures.1 ∙ both.0; written = both.1 }

pub slice_bounds-put-end : goal.slice_bounds-put-end
unfolding most_messages
slice_bounds-put-end c =
    let found = save_found c.args.file.now c.divide-d.result _ _ c.divide-d.new.lengths refl c.divide-d.ensures.answer c.divide-d.ensures.kept in
    sym (length-take-le _ c.args.file.now (save_within found))

pub overflow_sub-result : goal.overflow_sub-result
unfolding most_messages
overflow_sub-result c =
    save_within (save_found c.args.file.now c.divide-d.result _ _ c.divide-d.new.lengths refl c.divide-d.ensures.answer c.divide-d.ensures.kept)

pub returns : goal.returns
unfolding most_messages
returns c =
    let found = save_found c.args.file.now c.divide-d.result _ _ c.divide-d.new.lengths refl c.divide-d.ensures.answer c.divide-d.ensures.kept in
    let put = c.in_ok-length.ensures in
    let both = save-saved found c.args.out.now put.written put.answer c.put.ensures in
    record { answer = both.0; written = both.1 }
