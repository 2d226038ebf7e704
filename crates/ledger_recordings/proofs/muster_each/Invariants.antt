-- At each turn the messages that are left come to what all come to.
use Rattle.ledger_recordings.proofs.ReckonLaws.{Reckons}
use Rattle.ledger_recordings.proofs.muster_each.Given as goal

abbrev pub invariant-loop-k : goal.invariant-loop-k
invariant-loop-k l = Reckons l.s l.t l.k l.applied l.ledger l.book
