use Rattle.recordings.proofs.OpenCases.{Judging}
use Rattle.recordings.proofs.messages.Given as goal

abbrev pub invariant-loop-k : goal.invariant-loop-k
invariant-loop-k l = Judging l.s l.t l.k
