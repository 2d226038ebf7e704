use Rattle.recordings_tails.proofs.TailLaws.{Puts}
use Rattle.recordings_tails.proofs.put_index.Given as goal

abbrev pub invariant-loop-length : goal.invariant-loop-length
invariant-loop-length l = Puts l.lengths l.at l.initial.out l.out l.p l.start l.length-index
