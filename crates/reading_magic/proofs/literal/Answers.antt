-- What is left of the bytes from here on answers for all of them.
use mathlib.Core.Path.{ap, ◌≡◌, refl, sym, ◌∙◌}
use Rattle.sim0mq.specs.Answer.{fine}
use native.Mathlib.Omega.{arith}
use Rattle.sim0mq.specs.Header.{magic_bytes}
use Rattle.sim0mq.specs.Views.{judged}
use Rattle.reading_magic.proofs.MagicCases.{frame_begins, literal_short, literal_wrong, literal_next, literal_done}
use Rattle.reading_magic.proofs.literal.Goals as goal

pub loop-i-init : goal.loop-i-init
loop-i-init c = refl

pub returns-then-s-i : goal.returns-then-s-i
returns-then-s-i c = ap judged c.refuse.ensures ∙ sym (c.loop-i.invariant ∙ literal_short _ magic_bytes c.loop-i.i (omega arith) (omega arith))

pub returns-then-s-i-2 : goal.returns-then-s-i-2
returns-then-s-i-2 c =
    ap judged c.refuse-then-s-i-2.ensures
    ∙ sym (c.loop-i.invariant ∙ literal_wrong _ magic_bytes c.loop-i.i (omega arith) (omega arith)
    (λ e. c.if-s-i-2.true (e ∙ sym (frame_begins c.loop-i.i (omega arith)))))

pub loop-i-preserved : goal.loop-i-preserved
loop-i-preserved c =
    c.loop-i.invariant ∙ literal_next _ magic_bytes c.loop-i.i (omega arith) (omega arith)
    (c.if-s-i-2.false ∙ frame_begins c.loop-i.i (omega arith))

pub returns : goal.returns
returns c =
    let e : 8 ≡ c.loop-i.i = omega arith in ap fine e ∙ sym (c.loop-i.invariant ∙ literal_done _ magic_bytes c.loop-i.i (omega arith))
