-- Each return is a case of the definition.
use native.Mathlib.Omega.{arith}
use borrow.Author.Tests.{le-leb, lt-leb}
use mathlib.Core.Path.{ap, sym, ◌∙◌}
use Rattle.sim0mq.specs.Views.{judged}
use Rattle.sim0mq_marks.proofs.MarkCases.{display_short, display_over, display_fine}
use Rattle.sim0mq_marks.proofs.display.Goals as goal

pub returns-then-s-at : goal.returns-then-s-at
returns-then-s-at c = ap judged c.refuse.ensures ∙ sym (display_short _ _ _ _ (omega arith))

pub returns-then-s-at-2 : goal.returns-then-s-at-2
returns-then-s-at-2 c = sym (display_fine _ _ _ _ (omega arith) (le-leb _ _ c.if-s-at-2.true))

pub returns : goal.returns
returns c = ap judged c.refuse-2.ensures ∙ sym (display_over _ _ _ _ (omega arith) (lt-leb _ _ c.if-s-at-2.false))
