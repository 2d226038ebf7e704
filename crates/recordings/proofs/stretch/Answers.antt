-- The stretch is read as a message, and a refusal is moved to where the message begins.
use mathlib.Core.Path.{ap, ◌∙◌}
use native.Mathlib.Omega.{arith}
use Rattle.sim0mq.specs.Views.{judged}
use Rattle.recordings.proofs.StretchCases.{stretch_over, stretch-accepted, stretch-place, stretch-refused}
use Rattle.recordings.proofs.stretch.Goals as goal

pub returns-then-most-m : goal.returns-then-most-m
returns-then-most-m c = ap judged c.refuse.ensures ∙ stretch_over _ _ _ _ c.requires c.if-most-m.true

pub overflow_add-at-in-Err : goal.overflow_add-at-in-Err
overflow_add-at-in-Err c =
    let inside = stretch-place _ _ _ _ c.requires c.if-most-m.false _ c.judge.ensures _ c.in-Err.is in
    omega arith

pub returns-in-Ok : goal.returns-in-Ok
returns-in-Ok c = stretch-accepted _ _ _ _ c.requires c.if-most-m.false _ c.judge.ensures _ c.in-Ok.is

pub returns-in-Err : goal.returns-in-Err
returns-in-Err c =
    ap judged c.refuse-in-Err.ensures
    ∙ stretch-refused _ _ _ _ c.requires c.if-most-m.false _ c.judge.ensures _ c.in-Err.is
