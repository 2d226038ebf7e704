-- Six stores in a row are the run of stores that they write out, and each number fits.
use native.Mathlib.Omega.{arith}
use lib.ListN.{length-set}
use native.Mathlib.Numerals.{towards_suc}
use Rattle.sim0mq.specs.Payload.{moved}
use Rattle.sim0mq.specs.Table.{row}
use Rattle.reading_parts.proofs.store.Goals as goal

pub bounds-kept-i-2 : goal.bounds-kept-i-2
bounds-kept-i-2 c = simp length-set (omega arith)

pub bounds-kept-i-3 : goal.bounds-kept-i-3
bounds-kept-i-3 c = simp length-set (omega arith)

pub bounds-kept-i-4 : goal.bounds-kept-i-4
bounds-kept-i-4 c = simp length-set (omega arith)

pub bounds-kept-i-5 : goal.bounds-kept-i-5
bounds-kept-i-5 c = simp length-set (omega arith)

pub bounds-kept-i-6 : goal.bounds-kept-i-6
bounds-kept-i-6 c = simp length-set (omega arith)

pub returns : goal.returns
unfolding row moved
returns c = simp towards_suc
