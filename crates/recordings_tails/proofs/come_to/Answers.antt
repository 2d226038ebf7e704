-- `left` is what is left of `at` once the first lengths are taken off: where one is more than that or than a message
-- has, or something is left at the end, they do not come to it.
use native.Mathlib.Omega.{arith}
use Rattle.sim0mq.specs.Message.{limit}
use Rattle.recordings_tails.proofs.TailLaws.{counts_start, counts_long, counts_over, counts_turn, counts_end}
use Rattle.recordings_tails.proofs.come_to.Goals as goal

pub loop-length-init : goal.loop-length-init
loop-length-init c = counts_start _ _

pub returns-then-size-gt-LIMIT : goal.returns-then-size-gt-LIMIT
unfolding limit
returns-then-size-gt-LIMIT c =
    let size = c.wide32-size.ensures.0 in
    counts_long c.loop-length.invariant c.loop-length-test.true (omega arith)

pub returns-then-left-size : goal.returns-then-left-size
returns-then-left-size c =
    let size = c.wide32-size.ensures.0 in
    counts_over c.loop-length.invariant c.loop-length-test.true (omega arith)

pub loop-length-preserved : goal.loop-length-preserved
unfolding limit
loop-length-preserved c =
    let size = c.wide32-size.ensures.0 in
    counts_turn c.loop-length.invariant _ c.loop-length-test.true size c.if-size-gt-LIMIT.false c.if-left-size.false

pub returns : goal.returns
returns c = counts_end c.loop-length.invariant c.loop-length-test.false
