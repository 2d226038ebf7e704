-- The ids are judged, then the numbers.
use mathlib.Core.Path.{sym, ◌∙◌}
use Rattle.sim0mq.proofs.Passing.{handed_on}
use Rattle.writing_opening.proofs.HeaderCases.{opening_stop, opening_numbers_lem}
use Rattle.writing_opening.proofs.judge_opening.Goals as goal

pub returns-in_err-id_frames : goal.returns-in_err-id_frames
returns-in_err-id_frames c = handed_on _ _ _ c.from_residual.ensures.1 ∙ sym (opening_stop _ _ _ _ _ _ _ (sym c.in_err-id_frames.ensures))

pub returns : goal.returns
returns c = c.judge_numbers.ensures ∙ opening_numbers_lem _ _ _ _ _ _ (sym c.in_ok-id_frames.ensures)
