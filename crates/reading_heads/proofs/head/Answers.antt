-- Each return is a case of the definition, told by the code's row of counts and by what each count says.
use native.Mathlib.Omega.{arith}
use mathlib.Core.Path.{sym, ap, ◌∙◌}
use Rattle.sim0mq.proofs.Passing.{handed_on}
use Rattle.reading_heads.specs.Heads.{headed}
use Rattle.reading_heads.proofs.HeadCases.{head_short, head_over, head-none, head-stop, head-one, head-second, head-two}
use Rattle.reading_heads.proofs.head.Goals as goal

pub returns-then-s-at : goal.returns-then-s-at
returns-then-s-at c = ap headed c.refuse.ensures ∙ sym (head_short _ _ (omega arith))

pub returns-then-code-gt32 : goal.returns-then-code-gt32
returns-then-code-gt32 c =
    ap headed c.refuse-then-code-gt32.ensures ∙ sym (head_over _ _ c.wide-code.result (omega arith) c.wide-code.ensures.0 (omega arith))

pub returns-then-k-eq0 : goal.returns-then-k-eq0
returns-then-k-eq0 c = c.asking.ensures ∙ head-none _ _ c.wide-code.result (omega arith) c.wide-code.ensures.0 (omega arith) _ c.counts-k.ensures c.if-k-eq0.true

pub returns-then-k-eq1 : goal.returns-then-k-eq1
returns-then-k-eq1 c =
    c.asking-then-k-eq1.ensures
    ∙ head-one _ _ c.wide-code.result (omega arith) c.wide-code.ensures.0 (omega arith) _ c.counts-k.ensures _ c.if-k-eq1.true
    (sym c.in_ok-n.ensures.0)

pub returns-in_err-n : goal.returns-in_err-n
returns-in_err-n c =
    handed_on _ _ _ c.from_residual.ensures.1
    ∙ sym
    (head-stop _ _ c.wide-code.result (omega arith) c.wide-code.ensures.0 (omega arith) _ c.counts-k.ensures _ _ c.if-k-eq0.false
    (sym c.in_err-n.ensures.0))

pub returns-in_err-c : goal.returns-in_err-c
returns-in_err-c c =
    handed_on _ _ _ c.from_residual-in_err-c.ensures.1
    ∙ sym
    (head-second _ _ c.wide-code.result (omega arith) c.wide-code.ensures.0 (omega arith) _ c.counts-k.ensures _ _ _ c.if-k-eq0.false c.if-k-eq1.false
    (sym c.in_ok-n.ensures.0) (sym c.in_err-c.ensures.0))

pub returns : goal.returns
returns c =
    c.asking-2.ensures
    ∙ head-two _ _ c.wide-code.result (omega arith) c.wide-code.ensures.0 (omega arith) _ c.counts-k.ensures _ _ _ c.if-k-eq0.false c.if-k-eq1.false
    (sym c.in_ok-n.ensures.0) (sym c.in_ok-c.ensures.0) c.product.ensures
