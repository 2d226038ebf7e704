-- By the format's own row, a mark is the format's.
use mathlib.Core.Path.{◌∙◌}
use Rattle.sim0mq_marks.proofs.ByLaws.{mark_by_last}
use Rattle.sim0mq_marks.proofs.mark.Goals as goal

pub returns : goal.returns
returns c = c.mark_by.ensures ∙ mark_by_last _ _ _ c.lasts-last.ensures
