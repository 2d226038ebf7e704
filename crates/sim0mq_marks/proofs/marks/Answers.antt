-- What is left to judge from here on answers for the whole; each turn judges one mark.
use native.Mathlib.Omega.{arith}
use mathlib.Core.Path.{sym, ◌∙◌}
use Rattle.sim0mq.proofs.Passing.{handed_on}
use Rattle.sim0mq_marks.proofs.MarkCases.{marks_done, marks_more, marks_stop}
use Rattle.sim0mq_marks.proofs.marks.Goals as goal

pub returns-in_err-p : goal.returns-in_err-p
returns-in_err-p c =
    handed_on _ _ _ c.from_residual.ensures.1
    ∙ sym (c.loop.invariant ∙ marks_stop _ _ _ _ _ (omega arith) (sym c.in_err-p.ensures))

pub loop-preserved : goal.loop-preserved
loop-preserved c = c.loop.invariant ∙ marks_more _ _ _ _ _ (omega arith) (sym c.in_ok-p.ensures)

pub returns : goal.returns
returns c = sym (c.loop.invariant ∙ marks_done _ _ _ (omega arith))
