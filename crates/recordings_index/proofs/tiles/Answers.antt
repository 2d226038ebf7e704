-- At each turn the whole index tiles exactly when the entries left over do.
use native.Mathlib.Omega.{arith}
use Rattle.recordings_index.proofs.TileCases.{tiling_start, tiling-sum, tiling-wrong, tiling-turn, tiling_end}
use Rattle.recordings_index.proofs.tiles.Goals as goal

pub loop-k-init : goal.loop-k-init
loop-k-init c = tiling_start _ _ _

pub returns-then-m-at : goal.returns-then-m-at
returns-then-m-at c =
    tiling-wrong c.requires c.loop-k.invariant c.loop-k-test.true c.entry-m.ensures.answer c.if-m-at.true

pub overflow_add-at : goal.overflow_add-at
overflow_add-at c =
    let entry = c.entry-m.ensures in
    let sum = tiling-sum c.requires c.loop-k.invariant c.loop-k-test.true entry.answer entry.narrow.1 in
    omega arith

pub loop-k-preserved : goal.loop-k-preserved
loop-k-preserved c =
    let entry = c.entry-m.ensures in
    tiling-turn c.requires c.loop-k.invariant c.loop-k-test.true entry.answer c.if-m-at.false entry.narrow.1

pub returns : goal.returns
returns c = tiling_end c.requires c.loop-k.invariant (omega arith)
