-- At each turn the copies of the messages so far stand at the front.
use Rattle.recordings_blanking.proofs.BlankCases.{Copying}
use Rattle.recordings_blanking.proofs.blank_each.Given as goal

abbrev pub invariant-loop-k : goal.invariant-loop-k
invariant-loop-k l = Copying l.s l.t l.initial.out l.out l.k
