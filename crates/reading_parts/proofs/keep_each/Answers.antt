-- What is kept of the fields from here on is what is kept of the run; each turn keeps one.
use native.Mathlib.Omega.{arith}
use Prim.Native.Nat.{◌-◌}
use mathlib.Core.Path.{◌≡◌, refl, sym, ◌∙◌, subst}
use Rattle.reading_parts.specs.Kept.{Small}
use Rattle.reading_parts.proofs.RunCases.{run_done, run_reach, run_start, run_kept, run_next, run_small}
use Rattle.reading_parts.proofs.keep_each.Goals as goal

pub overflow_add-step : goal.overflow_add-step
overflow_add-step c = let narrow = c.requires.1.size in omega arith

pub overflow_mul-p : goal.overflow_mul-p
overflow_mul-p c =
    let skip = c.skipped-first.ensures in
    let reach = run_reach _ _ c.args.run.fields _ _ skip.0 c.requires.1.ends in
    let fits = c.requires.1.fits in
    omega arith

pub overflow_add-p : goal.overflow_add-p
overflow_add-p c =
    let skip = c.skipped-first.ensures in
    let reach = run_reach _ _ c.args.run.fields _ _ skip.0 c.requires.1.ends in
    let fits = c.requires.1.fits in
    omega arith

pub loop-j-init : goal.loop-j-init
loop-j-init c =
    let skip = c.skipped-first.ensures in
    let start = run_start _ _ _ _ _ _ c.args.run.fields _ _ _ _ skip.0 skip.1 c.requires.1.ends in
    (start.0, refl, start.1)

pub overflow_add-i : goal.overflow_add-i
overflow_add-i c = let counted = c.requires.1.counted in omega arith

pub field_at-requires : goal.field_at-requires
field_at-requires c =
    let fits = c.requires.1.fits in
    let next = (run_next _ c.args.run.fields _ _ _ c.loop-j-test.true c.loop-j.invariant.2).1 in
    omega arith

pub keep-requires : goal.keep-requires
keep-requires c =
    let pre = c.requires in
    let room = pre.0 in
    let long = c.loop-j.invariant.1 in
    let next = (run_next _ c.args.run.fields _ _ _ c.loop-j-test.true c.loop-j.invariant.2).1 in
    (omega arith, λ some. subst (Small c.args.base) (sym c.field_at.ensures) (run_small _ _ _ _ _ pre.1.code pre.1.size next (pre.1.small some)))

pub overflow_add-p-in-loop-j : goal.overflow_add-p-in-loop-j
overflow_add-p-in-loop-j c =
    let fits = c.requires.1.fits in
    let next = (run_next _ c.args.run.fields _ _ _ c.loop-j-test.true c.loop-j.invariant.2).1 in
    omega arith

pub loop-j-preserved : goal.loop-j-preserved
loop-j-preserved c =
    let asked = c.args in
    let inv = c.loop-j.invariant in
    let more = c.loop-j-test.true in
    let next = run_next _ asked.run.fields _ _ _ more inv.2 in
    let kept = run_kept _ _ _ _ _ _ asked.i _ _ _ _ _ _ inv.0 more c.field_at.ensures c.keep.ensures in
    (kept.0, kept.1 ∙ inv.1, next.0)

pub returns : goal.returns
returns c =
    let run = c.args.run in
    let inv = c.loop-j.invariant in
    let left : run.fields - c.loop-j.j ≡ 0 = omega arith in
    sym (inv.0 ∙ run_done _ _ _ _ _ _ _ _ _ left)
