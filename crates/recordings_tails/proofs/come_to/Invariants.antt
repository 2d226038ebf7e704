use Rattle.recordings_tails.proofs.TailLaws.{Counts}
use Rattle.recordings_tails.proofs.come_to.Given as goal

abbrev pub invariant-loop-length : goal.invariant-loop-length
invariant-loop-length l = Counts l.lengths l.at l.left l.length-index
