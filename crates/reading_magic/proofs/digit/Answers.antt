-- Each return is a case of the definition.
use native.Mathlib.Omega.{arith}
use mathlib.Core.Path.{ap, sym, ◌∙◌}
use Rattle.sim0mq.specs.Views.{judged}
use Rattle.reading_magic.proofs.MagicCases.{digit_short, digit_low, digit_high, digit_fine}
use Rattle.reading_magic.proofs.digit.Goals as goal

pub returns-then-s-at : goal.returns-then-s-at
returns-then-s-at c = ap judged c.refuse.ensures ∙ sym (digit_short _ _ (omega arith))

pub returns-then-d-lt48 : goal.returns-then-d-lt48
returns-then-d-lt48 c = ap judged c.refuse-then-d-lt48.ensures ∙ sym (digit_low _ _ (omega arith) (omega arith))

pub returns-then-d-gt57 : goal.returns-then-d-gt57
returns-then-d-gt57 c = ap judged c.refuse-then-d-gt57.ensures ∙ sym (digit_high _ _ (omega arith) (omega arith) (omega arith))

pub returns : goal.returns
returns c = sym (digit_fine _ _ _ (omega arith) c.wide-d.ensures.0 (omega arith) (omega arith))
