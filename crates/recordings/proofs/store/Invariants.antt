use Rattle.recordings.proofs.StoreCases.{Storing}
use Rattle.recordings.proofs.store.Given as goal

abbrev pub invariant-loop-k : goal.invariant-loop-k
invariant-loop-k l = Storing l.s l.t l.initial.table l.table l.k
