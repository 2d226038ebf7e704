-- The fields blanked so far, and the rest of the message placed after them and blanked, are the whole.
use native.Mathlib.Omega.{arith}
use mathlib.Core.Path.{refl}
use lib.ListN.{length-take, length-drop}
use Rattle.sim0mq.specs.Table.{row_size}
use Rattle.blanking.proofs.BlankCases.{left_start, left_row, left_stands, left_renewed, left_end}
use borrow.Author.Rules.{rules}
use Rattle.blanking.proofs.blank_fields.Goals as goal

pub loop-k-init : goal.loop-k-init
loop-k-init c = (left_start _ _ _ _ _ c.requires, refl)

pub overflow_mul-k : goal.overflow_mul-k
unfolding row_size
overflow_mul-k c =
    let kept = (left_row _ _ _ _ _ _ _ c.loop-k.invariant.0 c.loop-k-test.true).2 in
    omega arith

pub overflow_add-k : goal.overflow_add-k
unfolding row_size
overflow_add-k c =
    let kept = (left_row _ _ _ _ _ _ _ c.loop-k.invariant.0 c.loop-k-test.true).2 in
    omega arith

pub offset_bounds-kept-k : goal.offset_bounds-kept-k
unfolding row_size
offset_bounds-kept-k c =
    let kept = (left_row _ _ _ _ _ _ _ c.loop-k.invariant.0 c.loop-k-test.true).2 in
    omega arith

pub bounds-kept-k : goal.bounds-kept-k
unfolding row_size
bounds-kept-k c =
    let kept = (left_row _ _ _ _ _ _ _ c.loop-k.invariant.0 c.loop-k-test.true).2 in
    omega arith

pub overflow_mul-k-in-loop-k : goal.overflow_mul-k-in-loop-k
unfolding row_size
overflow_mul-k-in-loop-k c =
    let kept = (left_row _ _ _ _ _ _ _ c.loop-k.invariant.0 c.loop-k-test.true).2 in
    omega arith

pub overflow_add-k-in-loop-k : goal.overflow_add-k-in-loop-k
unfolding row_size
overflow_add-k-in-loop-k c =
    let kept = (left_row _ _ _ _ _ _ _ c.loop-k.invariant.0 c.loop-k-test.true).2 in
    omega arith

pub offset_bounds-kept-k-in-loop-k : goal.offset_bounds-kept-k-in-loop-k
unfolding row_size
offset_bounds-kept-k-in-loop-k c =
    let kept = (left_row _ _ _ _ _ _ _ c.loop-k.invariant.0 c.loop-k-test.true).2 in
    omega arith

pub bounds-kept-k-in-loop-k : goal.bounds-kept-k-in-loop-k
unfolding row_size
bounds-kept-k-in-loop-k c =
    let kept = (left_row _ _ _ _ _ _ _ c.loop-k.invariant.0 c.loop-k-test.true).2 in
    omega arith

pub slice_bounds-renew-count : goal.slice_bounds-renew-count
unfolding row_size
slice_bounds-renew-count c =
    let inv = c.loop-k.invariant.0 in
    let turn = c.loop-k-test.true in
    let stands = left_stands _ _ _ _ _ _ _ inv turn _ _ c.wide32-first.ensures.0 c.wide32-size.ensures.0 in
    omega (arith, stands.0, stands.1)

pub slice_bounds-renew-start : goal.slice_bounds-renew-start
unfolding row_size
slice_bounds-renew-start c =
    let inv = c.loop-k.invariant.0 in
    let turn = c.loop-k-test.true in
    let stands = left_stands _ _ _ _ _ _ _ inv turn _ _ c.wide32-first.ensures.0 c.wide32-size.ensures.0 in
    let before = stands.0 in
    let within = stands.1 in
    search rules

pub slice_bounds-renew-end : goal.slice_bounds-renew-end
unfolding row_size
slice_bounds-renew-end c =
    let inv = c.loop-k.invariant.0 in
    let turn = c.loop-k-test.true in
    let stands = left_stands _ _ _ _ _ _ _ inv turn _ _ c.wide32-first.ensures.0 c.wide32-size.ensures.0 in
    let before = stands.0 in
    let within = stands.1 in
    search rules

pub renew-requires : goal.renew-requires
unfolding row_size
renew-requires c =
    let inv = c.loop-k.invariant.0 in
    let turn = c.loop-k-test.true in
    let first = c.wide32-first.ensures.0 in
    let size = c.wide32-size.ensures.0 in
    let stands = left_stands _ _ _ _ _ _ _ inv turn _ _ first size in
    simp (length-take, length-drop) (omega (arith, stands.0, stands.1, inv.room))

pub overflow_add-at : goal.overflow_add-at
unfolding row_size
overflow_add-at c =
    let inv = c.loop-k.invariant.0 in
    let turn = c.loop-k-test.true in
    let first = c.wide32-first.ensures.0 in
    let size = c.wide32-size.ensures.0 in
    omega (arith, (left_stands _ _ _ _ _ _ _ inv turn _ _ first size).1)

pub loop-k-preserved : goal.loop-k-preserved
unfolding row_size
loop-k-preserved c =
    let inv = c.loop-k.invariant in
    let turn = c.loop-k-test.true in
    let first = c.wide32-first.ensures.0 in
    let size = c.wide32-size.ensures.0 in
    let renewed = c.renew in
    (left_renewed _ _ _ _ _ _ _ inv.0 turn _ _ renewed.new.out first size renewed.ensures (omega arith), omega arith)

pub returns : goal.returns
returns c = left_end _ _ _ _ _ _ _ c.loop-k.invariant.0 (omega arith)
