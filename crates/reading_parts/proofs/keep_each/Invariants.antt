use Prim.Native.Nat.{◌+◌, ◌-◌}
use mathlib.Core.Path.{◌≡◌}
use mathlib.Core.List.{map}
use lib.ListN.{length}
use Rattle.sim0mq.specs.Payload.{moved}
use Rattle.reading_runs.specs.Runs.{alike_fields, far}
use Rattle.reading_parts.specs.Kept.{kept_all}
use Rattle.reading_parts.proofs.keep_each.Given as goal

abbrev pub invariant-loop-j : goal.invariant-loop-j
invariant-loop-j l = (kept_all l.many l.k l.i (map (moved l.base) (alike_fields l.run.code l.run.size l.run.fields l.at)) l.initial.kept
    ≡ kept_all l.many l.k (l.i + l.j) (map (moved l.base) (alike_fields l.run.code l.run.size (l.run.fields - l.j) l.p)) l.kept)
    × (length l.kept ≡ length l.initial.kept)
    × (far l.run.size (l.run.fields - l.j) l.p ≡ l.run.end)
