use Prim.Native.Nat.{◌-◌}
use mathlib.Core.Path.{◌≡◌}
use mathlib.Core.List.{map}
use lib.ListN.{length, take}
use Rattle.reading_header.specs.Frames.{header_from, header_rest, shown}
use Rattle.reading_header.proofs.rest.Given as goal

abbrev pub invariant-loop-k : goal.invariant-loop-k
invariant-loop-k l = (header_rest l.s l.start ≡ header_from l.s (7 - l.k) l.k (map shown (take l.k l.fs)) l.at) × (length l.fs ≡ 8)
