-- What is left to judge from here on answers for the whole; each turn judges one byte.
use native.Mathlib.Omega.{arith}
use Prim.Native.Nat.{ℕ, ◌+◌, ◌-◌}
use mathlib.Core.Path.{◌≡◌, ap, sym, ◌∙◌}
use Rattle.sim0mq.specs.Answer.{fine}
use Rattle.sim0mq.specs.Views.{judged}
use Rattle.reading_values.specs.Values.{booleans_end}
use Rattle.reading_values.proofs.ValueCases.{booleans_done, booleans_more, booleans_stop}
use Rattle.reading_values.proofs.each_boolean.Goals as goal

pub loop-p-init : goal.loop-p-init
loop-p-init c =
    let a = c.args in
    let all : a.n ≡ a.at + a.n - a.at = omega arith in
    ap (λ (k : ℕ). booleans_end a.s.now k a.at) all

pub returns-then-s-p-gt1 : goal.returns-then-s-p-gt1
returns-then-s-p-gt1 c = ap judged c.refuse.ensures ∙ sym (c.loop-p.invariant ∙ booleans_stop _ _ _ (omega arith) c.if-s-p-gt1.true)

pub loop-p-preserved : goal.loop-p-preserved
loop-p-preserved c = c.loop-p.invariant ∙ booleans_more _ _ _ _ (omega arith) (omega arith)

pub returns : goal.returns
returns c =
    let end : c.loop-p.p ≡ c.args.at + c.args.n = omega arith in
    sym (c.loop-p.invariant ∙ booleans_done _ _ _ (omega arith) ∙ ap fine end)
