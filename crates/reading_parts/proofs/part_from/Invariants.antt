use Prim.Native.Nat.{◌+◌, ◌-◌, ◌<◌, ◌≤◌}
use mathlib.Core.Path.{◌≡◌}
use mathlib.Core.List.{map}
use lib.ListN.{length}
use Rattle.sim0mq.specs.Mark.{marks}
use Rattle.sim0mq.specs.Payload.{moved}
use Rattle.reading_parts.specs.Parts.{steps_from, rest_steps}
use Rattle.reading_parts.specs.Kept.{before_fault, kept_all, kept_rest}
use Rattle.reading_parts.proofs.part_from.Given as goal

abbrev pub invariant-loop : goal.invariant-loop
invariant-loop l = (marks l.s l.h.marked l.h.next ≡ marks l.s (l.h.marked - l.counter) l.p)
    × (l.from + l.steps + 1 + l.h.marked ≤ l.p + (l.h.marked - l.counter))
    × (l.p ≤ length l.s)

abbrev pub invariant-fields : goal.invariant-fields
invariant-fields l = (rest_steps l.s l.from l.n ≡ steps_from l.s l.left l.at l.steps)
    × (l.from + l.steps ≤ l.at)
    × (l.at ≤ length l.s)
    × (kept_rest l.s l.base l.from l.n l.k l.initial.kept ≡ kept_all l.many l.k (l.n - l.left) (map (moved l.base) (before_fault l.s l.left l.at)) l.kept)
    × (l.left ≤ l.n)
    × (length l.kept ≡ length l.initial.kept)
    × (length l.s < 18446744073709551616)

abbrev pub decreases-fields : goal.decreases-fields
decreases-fields l = l.left
