use Rattle.std.proofs.Common.{◌≡◌}
use Rattle.sim0mq_numbers.specs.Bytes.{big_bytes}
use Rattle.sim0mq.specs.Table.{placed}
use Rattle.writing_puts.proofs.put_big.Given as goal

abbrev pub invariant-loop-i : goal.invariant-loop-i
invariant-loop-i l = placed l.out l.at (big_bytes l.i l.rest) ≡ placed l.initial.out l.at (big_bytes l.n l.x)
