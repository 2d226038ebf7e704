-- There is room for as many rows as there are fields, in the small array or in the large one.
use native.Mathlib.Omega.{arith}
use Rattle.sim0mq.specs.Table.{row_size}
use borrow.Author.Rules.{rules}
use Rattle.blanking.proofs.copied.Goals as goal

pub copied_by-requires : goal.copied_by-requires
unfolding row_size
copied_by-requires c =
    let pre = c.requires in
    record { short = pre.short; within = pre.within; keeps = omega arith }

pub copied_by-requires-2 : goal.copied_by-requires-2
unfolding row_size
copied_by-requires-2 c = search rules
