-- The part is judged by itself, and its refusal moved to its place in the message; past the message's end there is no
-- part.
use native.Mathlib.Omega.{arith}
use Prim.Native.Nat.{ℕ, ◌+◌, ◌-◌}
use mathlib.Core.Path.{sym, ap, ◌∙◌, subst}
use mathlib.Core.List.{List}
use lib.ListN.{length, take, drop, length-drop}
use Rattle.sim0mq.specs.Views.{judged}
use Rattle.std.specs.Prelude.{Result}
use Rattle.sim0mq.specs.declared.Refusal.{Refusal}
use Rattle.sim0mq_numbers.specs.Numbers.{Below}
use Rattle.reading_parts.specs.Parts.{part_steps}
use Rattle.reading_payload.proofs.PayloadCases.{part_all, refused_within, at_short, at_refused, at_accepted}
use Rattle.reading_payload.proofs.KeptCases.{kept_none, kept_part_lem}
use Rattle.reading_payload.proofs.payload.Goals as goal

pub returns-then-message-next : goal.returns-then-message-next
returns-then-message-next c = record { answer = rw c.refuse.ensures (at_short _ _ _ c.if-message-next.true, tt); kept = kept_none _ _ _ _ _ c.if-message-next.true }

pub overflow_add-next : goal.overflow_add-next
overflow_add-next c =
    let s = c.args.message.now in
    let next = c.args.next in
    let part = part_all s next in
    let said = sym (ap (λ (l : List ℕ). part_steps l c.args.n) part) ∙ sym c.part.ensures.answer.0 ∙ ap judged c.in-Err.is in
    let within = refused_within _ _ _ _ said in
    let long = length-drop next s in
    omega arith

pub returns-in-Err : goal.returns-in-Err
returns-in-Err c =
    let s = c.args.message.now in
    let next = c.args.next in
    let part = part_all s next in
    let said = sym (ap (λ (l : List ℕ). part_steps l c.args.n) part) ∙ sym c.part.ensures.answer.0 ∙ ap judged c.in-Err.is in
    record { answer = rw c.refuse-in-Err.ensures (at_refused s next _ (omega arith) _ _ said, tt); kept = c.part.ensures.kept ∙ kept_part_lem s _ next _ _ _ (omega arith) part }

pub returns-in-Ok : goal.returns-in-Ok
returns-in-Ok c =
    let s = c.args.message.now in
    let next = c.args.next in
    let part = part_all s next in
    let said = sym (ap (λ (l : List ℕ). part_steps l c.args.n) part) ∙ sym c.part.ensures.answer.0 ∙ ap judged c.in-Ok.is in
    let long = length-drop next s in
    let all = ap length part in
    let below = subst (λ (j : Result ℕ Refusal). Below (length (take (length s - next) (drop next s)) + 1) j) c.in-Ok.is c.part.ensures.answer.1 in
    record { answer = (at_accepted s next _ (omega arith) _ said, omega arith); kept = c.part.ensures.kept ∙ kept_part_lem s _ next _ _ _ (omega arith) part }
