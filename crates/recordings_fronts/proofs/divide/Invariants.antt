use Rattle.recordings_fronts.proofs.DivideCases.{Divides}
use Rattle.recordings_fronts.proofs.divide.Given as goal

abbrev pub invariant-loop-k : goal.invariant-loop-k
invariant-loop-k l = Divides l.s l.initial.lengths l.lengths l.at l.k
