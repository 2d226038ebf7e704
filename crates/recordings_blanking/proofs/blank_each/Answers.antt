-- At each turn the copies of the messages so far stand at the front.
use mathlib.Core.Path.{refl}
use native.Mathlib.Omega.{arith}
use Rattle.recordings_blanking.proofs.BlankCases.{copying_start, copying-lies, copying-turn}
use Rattle.recordings_blanking.proofs.blank_each.Goals as goal

pub loop-k-init : goal.loop-k-init
loop-k-init c = copying_start _ _ _

pub overflow_add-end : goal.overflow_add-end
overflow_add-end c =
    let lies = copying-lies c.requires c.loop-k.invariant c.loop-k-test.true c.entry-m.ensures.answer in
    omega arith

pub slice_bounds-blank-end : goal.slice_bounds-blank-end
slice_bounds-blank-end c =
    let lies = copying-lies c.requires c.loop-k.invariant c.loop-k-test.true c.entry-m.ensures.answer in
    omega arith

pub slice_bounds-blank-end-in-loop-k : goal.slice_bounds-blank-end-in-loop-k
slice_bounds-blank-end-in-loop-k c =
    let lies = copying-lies c.requires c.loop-k.invariant c.loop-k-test.true c.entry-m.ensures.answer in
    let room = c.requires.1 in
    let kept = c.loop-k.invariant.long in
    omega arith

pub loop-k-preserved : goal.loop-k-preserved
loop-k-preserved c =
    copying-turn c.requires c.loop-k.invariant c.loop-k-test.true c.entry-m.ensures.answer _ _ _ refl c.blank-copied.ensures.copied
    refl
