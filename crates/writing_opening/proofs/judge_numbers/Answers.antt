-- Each return is a case of the definition, in the order of its tests.
use native.Mathlib.Omega.{arith}
use Prim.Native.Nat.{ℕ, ◌+◌}
use mathlib.Core.Path.{sym, ap, ◌∙◌}
use Rattle.sim0mq.specs.Message.{limit}
use Rattle.sim0mq.specs.Codes.{width_of}
use Rattle.sim0mq.specs.Views.{judged}
use Rattle.writing_opening.proofs.HeaderCases.{numbers-status, numbers-type, numbers-many, numbers_long, numbers-room, numbers-fine}
use Rattle.writing_opening.proofs.judge_numbers.Goals as goal

pub returns-then-not-is_status : goal.returns-then-not-is_status
returns-then-not-is_status c = ap judged c.refuse.ensures ∙ sym (numbers-status _ _ _ _ _ (sym c.is_status.ensures ∙ c.if-not-is_status.true))

pub returns-then-code-gt2 : goal.returns-then-code-gt2
returns-then-code-gt2 c =
    let known = sym c.is_status.ensures ∙ c.if-not-is_status.false in
    ap judged c.refuse-then-code-gt2.ensures ∙ sym (numbers-type _ _ _ _ _ known c.if-code-gt2.true)

pub returns-then-most_of-fields : goal.returns-then-most_of-fields
returns-then-most_of-fields c =
    let known = sym c.is_status.ensures ∙ c.if-not-is_status.false in
    ap judged c.refuse-then-most_of-fields.ensures ∙ sym (numbers-many _ _ _ _ _ known (omega arith) (omega arith))

pub returns-then-front-n : goal.returns-then-front-n
unfolding limit
returns-then-front-n c =
    let known = sym c.is_status.ensures ∙ c.if-not-is_status.false in
    let width = ap (λ (w : ℕ). 22 + w) (c.width-front.ensures ∙ ap width_of c.wide.ensures.0) in
    ap judged c.refuse-then-front-n.ensures ∙ sym (numbers_long _ _ _ _ _ known _ (omega arith) (omega arith) width c.if-front-n.true)

pub returns-then-room-front : goal.returns-then-room-front
unfolding limit
returns-then-room-front c =
    let known = sym c.is_status.ensures ∙ c.if-not-is_status.false in
    let width = ap (λ (w : ℕ). 22 + w) (c.width-front.ensures ∙ ap width_of c.wide.ensures.0) in
    ap judged c.refuse-then-room-front.ensures
    ∙ sym (numbers-room _ _ _ _ _ known _ (omega arith) (omega arith) width c.if-front-n.false c.if-room-front.true)

pub returns : goal.returns
unfolding limit
returns c =
    let known = sym c.is_status.ensures ∙ c.if-not-is_status.false in
    let width = ap (λ (w : ℕ). 22 + w) (c.width-front.ensures ∙ ap width_of c.wide.ensures.0) in
    sym (numbers-fine _ _ _ _ _ known _ (omega arith) (omega arith) width c.if-front-n.false c.if-room-front.false)
