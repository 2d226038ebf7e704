-- Each return is a case of the definition.
use native.Mathlib.Omega.{arith}
use Rattle.reading_magic.proofs.ThreeNumbers.{frame_0_short, frame-0-first, frame-0-next, frame-0-digits}
use Rattle.reading_magic.proofs.is_frame_0.Goals as goal

pub returns-then-s-lt10 : goal.returns-then-s-lt10
returns-then-s-lt10 c = frame_0_short _ (omega arith)

pub returns-then-number-ne-FIRST_FOUR : goal.returns-then-number-ne-FIRST_FOUR
returns-then-number-ne-FIRST_FOUR c = frame-0-first _ (omega arith) _ c.number.ensures.0 c.if-number-ne-FIRST_FOUR.true

pub returns-then-number-ne-NEXT_FOUR : goal.returns-then-number-ne-NEXT_FOUR
returns-then-number-ne-NEXT_FOUR c =
    frame-0-next _ (omega arith) _ c.number.ensures.0 _ c.number-2.ensures.0
    c.if-number-ne-FIRST_FOUR.false c.if-number-ne-NEXT_FOUR.true

pub returns : goal.returns
returns c =
    frame-0-digits _ (omega arith) _ c.number.ensures.0 _
    c.number-2.ensures.0 c.if-number-ne-FIRST_FOUR.false _ c.number-3.ensures.0
    c.if-number-ne-NEXT_FOUR.false
