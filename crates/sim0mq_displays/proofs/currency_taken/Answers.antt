-- The code's bit in its word is what the list says of it.
use Prim.Native.Nat.{◌%◌}
use mathlib.Core.Path.{ap, ◌∙◌}
use native.Mathlib.Omega.{arith}
use native.Mathlib.Nat.{div-add-mod'}
use Rattle.sim0mq.specs.Mark.{currency_taken}
use Rattle.sim0mq_tables.specs.Bits.{bit}
use Rattle.sim0mq_displays.proofs.currency_taken.Goals as goal

pub returns : goal.returns
unfolding bit
returns c = c.currencies.ensures (c.args.c % 64) (omega arith) ∙ ap currency_taken (div-add-mod' c.args.c 64)
