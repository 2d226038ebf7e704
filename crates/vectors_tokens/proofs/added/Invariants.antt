-- vectors_tokens::added meets its contract and ends: each token ends past its first byte. Assumes nothing.
use Prim.Native.Nat.{◌-◌}
use mathlib.Core.Path.{◌≡◌}
use lib.ListN.{length}
use Rattle.vectors_tokens.proofs.added.Given as goal

abbrev pub invariant-loop-step : goal.invariant-loop-step
invariant-loop-step l = lib.ListN.length l.message ≡ lib.ListN.length l.initial.message

abbrev pub decreases-loop-step : goal.decreases-loop-step
decreases-loop-step l = lib.ListN.length l.line - l.step.at
