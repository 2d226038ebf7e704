-- The code's width is one of four, and each has its own call.
use native.Mathlib.Omega.{arith}
use mathlib.Core.Path.{ap, sym, ◌∙◌}
use Rattle.sim0mq.specs.Views.{judged}
use Rattle.reading_values.proofs.ValueCases.{width_eight, size_past, size_told, size_of_none}
use Rattle.reading_values.proofs.size.Goals as goal

pub returns-then-s-first : goal.returns-then-s-first
returns-then-s-first c = ap judged c.refuse.ensures ∙ sym (size_past _ _ _ _ (omega arith))

pub returns-then-code-gt32 : goal.returns-then-code-gt32
returns-then-code-gt32 c = sym (size_of_none _ _ _ _ c.if-code-gt32.true (omega arith))

pub returns-then-w-eq1 : goal.returns-then-w-eq1
returns-then-w-eq1 c = c.size_of.ensures ∙ size_told _ _ _ _ (sym c.if-w-eq1.true ∙ c.width-w.ensures)

pub returns-then-w-eq2 : goal.returns-then-w-eq2
returns-then-w-eq2 c = c.size_of-then-w-eq2.ensures ∙ size_told _ _ _ _ (sym c.if-w-eq2.true ∙ c.width-w.ensures)

pub returns-then-w-eq4 : goal.returns-then-w-eq4
returns-then-w-eq4 c = c.size_of-then-w-eq4.ensures ∙ size_told _ _ _ _ (sym c.if-w-eq4.true ∙ c.width-w.ensures)

pub returns : goal.returns
returns c =
    let eight = width_eight _ _ (omega arith) c.width-w.ensures c.if-w-eq1.false c.if-w-eq2.false c.if-w-eq4.false in
    c.size_of-2.ensures ∙ size_told _ _ _ _ eight
