use Rattle.reading_values.specs.Values.{NoneAbove}
use Rattle.reading_values.proofs.largest.Given as goal

abbrev pub invariant-loop-i : goal.invariant-loop-i
invariant-loop-i l = NoneAbove l.s l.i l.at l.most
