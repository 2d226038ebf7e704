-- Each return is a case of the definition.
use Rattle.sim0mq_numbers.proofs.NumberCases.{count_short, count_negative, count_fine}
use native.Mathlib.Omega.{arith}
use mathlib.Core.Path.{sym}
use Rattle.sim0mq_numbers.proofs.count.Goals as goal

pub returns-then-s-at : goal.returns-then-s-at
returns-then-s-at c = rw c.refuse.ensures (sym (count_short _ _ (omega arith)), tt)

pub returns-then-s-at-lt4 : goal.returns-then-s-at-lt4
returns-then-s-at-lt4 c = rw c.refuse-then-s-at-lt4.ensures (sym (count_short _ _ (omega arith)), tt)

pub returns-then-s-at-ge128 : goal.returns-then-s-at-ge128
returns-then-s-at-ge128 c = rw c.refuse-then-s-at-ge128.ensures (sym (count_negative _ _ (omega arith) c.if-s-at-ge128.true), tt)

pub returns : goal.returns
returns c = (sym (count_fine _ _ _ (omega arith) (omega arith) c.number.ensures.0), c.number.ensures.1)
