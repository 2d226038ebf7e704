use Prim.Native.Nat.{◌+◌, ◌-◌, ◌*◌, ◌≤◌}
use mathlib.Core.Path.{◌≡◌}
use lib.ListN.{length}
use Rattle.reading_runs.specs.Runs.{alike}
use Rattle.reading_runs.proofs.each.Given as goal

abbrev pub invariant-loop-fields : goal.invariant-loop-fields
invariant-loop-fields l = (alike l.s l.code l.size l.n l.at ≡ l.fields + alike l.s l.code l.size (l.n - l.fields) l.end)
    × (l.end ≡ l.at + l.fields * (l.size + 1))
    × (l.end ≤ length l.s)
