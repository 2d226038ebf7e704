-- The entries put so far are the index of the lengths so far.
use native.Mathlib.Omega.{arith}
use Rattle.recordings_tails.proofs.TailLaws.{puts_start, puts_within, puts_turn, puts_end}
use Rattle.recordings_tails.proofs.put_index.Goals as goal

pub loop-length-init : goal.loop-length-init
loop-length-init c = puts_start _ _ _

pub overflow_add-start : goal.overflow_add-start
overflow_add-start c =
    let bound = puts_within c.requires c.loop-length.invariant c.loop-length-test.true in
    let size = c.wide32-size.ensures.0 in
    omega arith

pub loop-length-preserved : goal.loop-length-preserved
loop-length-preserved c =
    let pre = c.requires in
    let size = c.wide32-size.ensures.0 in
    puts_turn pre c.loop-length.invariant _ _ c.loop-length-test.true size c.put_entry.ensures

pub returns : goal.returns
returns c = puts_end c.requires c.loop-length.invariant c.loop-length-test.false
