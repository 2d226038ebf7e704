-- A display code is taken up to the last one of its unit type, which the row of the definition has.
use Prim.Native.Nat.{ℕ}
use mathlib.Core.Path.{ap₂}
use lib.Dec.{leb}
use Rattle.sim0mq.specs.Mark.{display_taken}
use Rattle.sim0mq_displays.proofs.display_taken.Goals as goal

pub returns : goal.returns
unfolding display_taken
returns c = ap₂ (λ (d l : ℕ). leb d l) c.wide.ensures.0 c.last.ensures
