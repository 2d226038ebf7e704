use mathlib.Core.Path.{◌≡◌}
use Rattle.std.proofs.Common.{◌-◌}
use Rattle.sim0mq.specs.Mark.{marks}
use Rattle.sim0mq_marks.proofs.marks.Given as goal

abbrev pub invariant-loop : goal.invariant-loop
invariant-loop l = marks l.s l.n l.at ≡ marks l.s (l.n - l.counter) l.p
