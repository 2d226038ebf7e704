-- Where no byte is above 1 all are Booleans; else they are judged byte by byte.
use native.Mathlib.Omega.{arith}
use Rattle.reading_values.proofs.ValueCases.{none_most, booleans_all}
use Rattle.reading_values.proofs.booleans.Goals as goal

pub returns-then-largest-le1 : goal.returns-then-largest-le1
returns-then-largest-le1 c =
    let a = c.args in
    booleans_all a.s.now a.n a.at (none_most a.s.now a.n a.at c.largest.result 1 c.largest.ensures (omega arith))

pub returns : goal.returns
returns c = c.each_boolean.ensures
