-- The unit type's kind says which items the mark has, and each is read where the definition says.
use mathlib.Core.Path.{sym, ap}
use Rattle.asking_scalars.specs.Scalars.{mark_of}
use Rattle.sim0mq_marks.proofs.MarkCases.{kind_plain, kind_between, kind_above}
use Rattle.asking_scalars.proofs.ScalarCases.{mark_money, mark_per}
use native.Mathlib.Omega.{arith}
use Rattle.asking_scalars.proofs.mark_at.Goals as goal

pub returns-then-unit-le28 : goal.returns-then-unit-le28
unfolding mark_of
returns-then-unit-le28 c = sym (ap (mark_of c.args.s.now c.args.at) (kind_plain _ c.if-unit-le28.true))

pub returns-then-unit-le99 : goal.returns-then-unit-le99
unfolding mark_of
returns-then-unit-le99 c = sym (ap (mark_of c.args.s.now c.args.at) (kind_between _ c.if-unit-le28.false c.if-unit-le99.true))

pub returns-then-unit-gt106 : goal.returns-then-unit-gt106
unfolding mark_of
returns-then-unit-gt106 c = sym (ap (mark_of c.args.s.now c.args.at) (kind_above _ c.if-unit-gt106.true))

pub returns-then-unit-ne100 : goal.returns-then-unit-ne100
returns-then-unit-ne100 c = mark_per _ _ _ c.requires c.number-currency.ensures.0 (omega arith) (omega arith)

pub returns-else-unit-ne100 : goal.returns-else-unit-ne100
returns-else-unit-ne100 c = mark_money _ _ _ c.requires c.number-currency.ensures.0 (omega arith)
