-- Each return is a case of the definition; the steps are too few for the sum to pass its type.
use native.Mathlib.Omega.{arith}
use Prim.Native.Nat.{◌+◌}
use mathlib.Core.Path.{sym, ap, ◌∙◌, subst}
use Rattle.sim0mq.specs.Message.{limit}
use Rattle.sim0mq.specs.Views.{judged}
use Rattle.std.specs.Prelude.{ℕ, Result}
use Rattle.sim0mq.specs.declared.Refusal.{Refusal}
use Rattle.sim0mq_numbers.specs.Numbers.{Below}
use Rattle.reading.specs.Answers.{answer_of}
use Rattle.reading.proofs.told_by.Goals as goal

pub overflow_add-result : goal.overflow_add-result
unfolding limit
overflow_add-result c =
    let below = subst (λ (j : Result ℕ Refusal). Below (limit + 1) j) c.in-Ok.is c.requires in
    omega arith

pub returns-in-Err : goal.returns-in-Err
returns-in-Err c =
    let asked = c.args in
    c.refused.ensures ∙ sym (ap (λ (j : Result ℕ Refusal). answer_of asked.bytes asked.frames asked.fields (judged j)) c.in-Err.is)

pub returns-in-Ok : goal.returns-in-Ok
returns-in-Ok c =
    let asked = c.args in
    sym (ap (λ (j : Result ℕ Refusal). answer_of asked.bytes asked.frames asked.fields (judged j)) c.in-Ok.is)
