-- Each return is a case of the definition: no field is asked for, none is there, or its code has a size or none.
use native.Mathlib.Omega.{arith}
use mathlib.Core.Path.{refl, sym, ap, ◌∙◌}
use Rattle.reading_runs.specs.Runs.{plain_size}
use Rattle.reading_runs.proofs.RunCases.{run_none, size_none, run_unasked, run_past, run-unsized, run-sized}
use Rattle.reading_runs.proofs.run_at.Goals as goal
use Rattle.reading_runs.proofs.run_at.Goals.{then-n-eq0-via-then-n-eq0, then-n-eq0-via-else-n-eq0+then-s-at}

pub returns-then-n-eq0 : goal.returns-then-n-eq0
returns-then-n-eq0 c =
    c.told.ensures ∙ run_none _
    ∙ sym (elim c.then-n-eq0.branch [
      | then-n-eq0-via-then-n-eq0 w ↦ run_unasked _ _ _ w.if-n-eq0.true
      | then-n-eq0-via-else-n-eq0+then-s-at w ↦ run_past _ _ _ w.if-n-eq0.false w.if-s-at.true
    ])

pub returns-in-1 : goal.returns-in-1
returns-in-1 c = c.together.ensures ∙ run-sized _ _ _ c.if-n-eq0.false _ _ (omega arith) (omega arith) refl (cc)

pub returns-in-2 : goal.returns-in-2
returns-in-2 c = c.together-in-2.ensures ∙ run-sized _ _ _ c.if-n-eq0.false _ _ (omega arith) (omega arith) refl (cc)

pub returns-in-4 : goal.returns-in-4
returns-in-4 c = c.together-in-4.ensures ∙ run-sized _ _ _ c.if-n-eq0.false _ _ (omega arith) (omega arith) refl (cc)

pub returns-in-8 : goal.returns-in-8
returns-in-8 c = c.together-in-8.ensures ∙ run-sized _ _ _ c.if-n-eq0.false _ _ (omega arith) (omega arith) refl (cc)

pub returns-in_default : goal.returns-in_default
returns-in_default c =
    let told = c.plain_size.ensures ∙ ap plain_size c.wide.ensures.0 in
    let none = size_none _ _ told (omega arith) (omega arith) (omega arith) (omega arith) in
    c.told-in_default.ensures ∙ run_none _ ∙ sym (run-unsized _ _ _ c.if-n-eq0.false _ (omega arith) refl none)
