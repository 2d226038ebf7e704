-- Without a byte it is refused; the two ways, with room for the longest mark and with less, answer the same definition.
use native.Mathlib.Omega.{arith}
use mathlib.Core.Path.{ap, sym, ◌∙◌}
use Rattle.sim0mq.specs.Views.{judged}
use Rattle.sim0mq_marks.proofs.MarkCases.{mark_short}
use Rattle.sim0mq_marks.proofs.mark_by.Goals as goal

pub returns-then-s-at : goal.returns-then-s-at
returns-then-s-at c = ap judged c.refuse.ensures ∙ sym (mark_short _ _ _ (omega arith))
