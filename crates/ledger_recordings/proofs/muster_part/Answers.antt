-- The part is read as a message: a refusal is moved to where it begins, and what is accepted is mustered by its frames.
use mathlib.Core.Path.{ap, ◌∙◌}
use native.Mathlib.Omega.{arith}
use Rattle.sim0mq.specs.Answer.{fine}
use Rattle.recordings.proofs.StretchCases.{stretch-place}
use Rattle.ledger_recordings.proofs.TurnLaws.{part_over, part-refused, part-accepted}
use Rattle.ledger_recordings.proofs.muster_part.Goals as goal

pub returns-then-most-m : goal.returns-then-most-m
returns-then-most-m c = rw c.refuse.ensures (part_over _ _ _ _ _ _ c.requires c.if-most-m.true)

pub overflow_add-at : goal.overflow_add-at
overflow_add-at c =
    let inside = stretch-place _ _ _ _ c.requires c.if-most-m.false _ c.judge-a.ensures _ c.in-Err.is in
    omega arith

pub returns-in-Err : goal.returns-in-Err
returns-in-Err c =
    rw c.refuse-in-Err.ensures
    (part-refused _ _ _ _ _ _ c.requires c.if-most-m.false _ c.judge-a.ensures _ c.in-Err.is)

pub returns-in-Ok : goal.returns-in-Ok
returns-in-Ok c =
    ap fine c.muster_framed.ensures
    ∙ part-accepted _ _ _ _ _ _ c.requires c.if-most-m.false _ c.judge-a.ensures _ c.in-Ok.is
