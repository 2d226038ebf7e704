-- The fields from here on answer for all of them, whatever fields the table holds.
use native.Mathlib.Omega.{arith}
use mathlib.Core.Path.{sym, ◌∙◌}
use Rattle.sim0mq.specs.Table.{row_size}
use Rattle.commands.proofs.EachLaws.{each_refuses, each_goes, each_ends}
use Rattle.commands.proofs.Rows.each.Goals as goal

pub returns-then-not-right : goal.returns-then-not-right
unfolding row_size
returns-then-not-right c =
    λ fs h.
    rw c.refuse.ensures
    (each_refuses _ _ _ _ _ _ fs h (c.loop-i.invariant fs h) _ (omega arith) c.wide32.ensures.0
    (sym (c.right.ensures _ (h.cells _ (omega arith))) ∙ c.if-not-right.true))

pub loop-i-preserved : goal.loop-i-preserved
loop-i-preserved c =
    λ fs h.
    each_goes _ _ _ _ _ _ fs h (c.loop-i.invariant fs h) (omega arith)
    (sym (c.right.ensures _ (h.cells _ (omega arith))) ∙ c.if-not-right.false)

pub returns : goal.returns
returns c = λ fs h. each_ends _ _ _ _ _ _ fs h (c.loop-i.invariant fs h) (omega arith)
