-- The answer of the whole is the answer from here: each turn takes one frame, and after the last no byte may be left.
use native.Mathlib.Omega.{arith}
use Prim.Native.Nat.{◌+◌, ◌-◌}
use mathlib.Core.Path.{sym, ap, ◌∙◌}
use Rattle.sim0mq.specs.Field.{after}
use Rattle.sim0mq.specs.Views.{judged}
use Rattle.sim0mq.proofs.Passing.{handed_on}
use Rattle.writing_opening.proofs.HeaderCases.{ids_stop, ids_more, ids_over, ids_end, id_goes}
use Rattle.writing_opening.proofs.id_frames.Goals as goal

pub returns-in_err-f : goal.returns-in_err-f
returns-in_err-f c =
    let left = 4 - c.loop.counter in
    handed_on _ _ _ c.from_residual.ensures.1
    ∙ sym (ids_stop _ left _ (left - 1) _ _ (omega arith) (sym c.in_err-f.ensures))
    ∙ c.loop.invariant

pub overflow_add-at : goal.overflow_add-at
unfolding after
overflow_add-at c = let end = id_goes _ _ _ (sym c.in_ok-f.ensures) in omega arith

pub loop-preserved : goal.loop-preserved
unfolding after
loop-preserved c =
    let left = 4 - c.loop.counter in
    sym (ids_more _ left _ (4 - (c.loop.counter + 1)) _ (omega arith) (sym c.in_ok-f.ensures)) ∙ c.loop.invariant

pub returns-then-at-s : goal.returns-then-at-s
returns-then-at-s c = ap judged c.refuse.ensures ∙ sym (ids_over _ _ _ (omega arith) c.if-at-s.true) ∙ c.loop.invariant

pub returns : goal.returns
returns c = sym (ids_end _ _ _ (omega arith) (omega arith)) ∙ c.loop.invariant
