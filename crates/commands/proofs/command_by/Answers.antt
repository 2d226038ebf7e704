-- Reading's refusal; or the judge's answer on what reading found.
use native.Mathlib.Omega.{arith}
use mathlib.Core.Path.{◌∙◌}
use Rattle.sim0mq.specs.Message.{limit}
use Rattle.sim0mq.proofs.Passing.{handed_on}
use Rattle.commands.proofs.ReadLaws.{command-refused, command-few, command-room, command-frame, command-judged}
use Rattle.commands.proofs.command_by.Goals as goal

pub returns-in_err-found : goal.returns-in_err-found
returns-in_err-found c =
    let read = c.read-answer.ensures in
    handed_on _ _ _ c.from_residual.ensures.1
    ∙ command-refused _ _ _ _ read.answer read.stored _ c.in_err-found.was

pub invariant_of-rows : goal.invariant_of-rows
invariant_of-rows c =
    let read = c.read-answer.ensures in
    let found = c.in_ok-found.was in
    record {
      in_range = (command-few _ _ _ _ read.answer read.stored _ found, command-room _ _ _ _ read.answer read.stored _ found);
    }

pub overflow_add-answer : goal.overflow_add-answer
unfolding limit
overflow_add-answer c =
    let read = c.read-answer.ensures in
    let within = command-frame _ _ _ _ read.answer read.stored _ c.in_ok-found.was 5 in
    record { fits = omega arith }

pub judge-requires : goal.judge-requires
unfolding limit
judge-requires c =
    let read = c.read-answer.ensures in
    let within = command-frame _ _ _ _ read.answer read.stored _ c.in_ok-found.was 3 in
    omega arith

pub returns : goal.returns
returns c =
    let read = c.read-answer.ensures in
    command-judged _ _ _ _ read.answer read.stored _ c.in_ok-found.was _ c.judge.ensures
