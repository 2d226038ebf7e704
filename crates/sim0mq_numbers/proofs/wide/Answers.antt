-- A byte keeps its value in a wider number.
use native.Mathlib.Omega.{arith}
use mathlib.Core.Path.{refl}
use Rattle.sim0mq_numbers.proofs.wide.Goals as goal

pub returns : goal.returns
returns c = (refl, omega arith)
