use Prim.Native.Nat.{◌+◌, ◌-◌}
use mathlib.Core.Path.{◌≡◌}
use Rattle.reading_values.specs.Values.{booleans_end}
use Rattle.reading_values.proofs.each_boolean.Given as goal

abbrev pub invariant-loop-p : goal.invariant-loop-p
invariant-loop-p l = booleans_end l.s l.n l.at ≡ booleans_end l.s (l.at + l.n - l.p) l.p
