use Prim.Native.Nat.{◌^◌, ◌<◌}
use mathlib.Core.Path.{◌≡◌}
use Rattle.sim0mq.specs.Answer.{big}
use Rattle.sim0mq_numbers.proofs.number.Given as goal

abbrev pub invariant-loop-i : goal.invariant-loop-i
invariant-loop-i l = (l.x ≡ big l.s l.at l.i) × (l.x < 256 ^ l.i)
