-- Each return is a case of the definition.
use native.Mathlib.Omega.{arith}
use Rattle.reading_header.proofs.TextLaws.{text_short, text_long, text_other, text_there}
use Rattle.reading_header.proofs.is_text.Goals as goal

pub returns-then-s-at : goal.returns-then-s-at
returns-then-s-at c = text_short _ _ (omega arith)

pub returns-then-s-ge2147483648 : goal.returns-then-s-ge2147483648
returns-then-s-ge2147483648 c = text_long _ _ c.if-s-ge2147483648.true

pub returns-then-room-lt5 : goal.returns-then-room-lt5
returns-then-room-lt5 c = text_short _ _ (omega arith)

pub returns-then-s-at-ne9 : goal.returns-then-s-at-ne9
returns-then-s-at-ne9 c = text_other _ _ (omega arith) c.if-s-at-ne9.true

pub returns : goal.returns
returns c = text_there _ _ _ (omega arith) (omega arith) c.if-s-at-ne9.false c.number.ensures.0
