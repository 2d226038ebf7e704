-- Where there is no row nothing is kept, and of one field what is kept of a field.
use native.Mathlib.Omega.{arith}
use mathlib.Core.Path.{sym, subst}
use Rattle.reading_parts.specs.Kept.{Small}
use Rattle.reading_parts.proofs.RunCases.{run_unkept, run_one, run_small, run_step}
use Rattle.reading_parts.proofs.keep_run.Goals as goal

pub returns-then-many-eq0 : goal.returns-then-many-eq0
returns-then-many-eq0 c = run_unkept _ _ _ _ _ _ _ _ _ c.if-many-eq0.true

pub field_at-requires : goal.field_at-requires
field_at-requires c =
    let pre = c.requires.1 in
    let fits = pre.fits in
    let next = run_step _ _ _ _ c.if-run-eq1.true pre.ends in
    omega arith

pub keep-requires : goal.keep-requires
keep-requires c =
    let pre = c.requires in
    let next = run_step _ _ _ _ c.if-run-eq1.true pre.1.ends in
    (pre.0, λ some. subst (Small c.args.base) (sym c.field_at.ensures) (run_small _ _ _ _ _ pre.1.code pre.1.size next (pre.1.small some)))

pub returns-then-run-eq1 : goal.returns-then-run-eq1
returns-then-run-eq1 c =
    run_one _ _ _ _ _ _ _ _ _ _ _ c.if-run-eq1.true c.field_at.ensures c.keep.ensures
