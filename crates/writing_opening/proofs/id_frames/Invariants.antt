use Prim.Native.Nat.{◌-◌}
use mathlib.Core.Path.{◌≡◌}
use Rattle.writing_opening.specs.Opening.{ids_from}
use Rattle.writing_opening.proofs.id_frames.Given as goal

abbrev pub invariant-loop : goal.invariant-loop
invariant-loop l = ids_from l.s (4 - l.counter) l.at ≡ ids_from l.s 4 0
