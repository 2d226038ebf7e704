-- Where the next field is not like this one, there is one field; else all are counted.
use native.Mathlib.Omega.{arith}
use Prim.Native.Nat.{◌-◌}
use mathlib.Core.Path.{sym, ◌∙◌}
use native.Mathlib.Nat.{zero-add}
use Rattle.reading_runs.proofs.RunCases.{alike_stop, alike_more, far_none, far_one, told_run}
use Rattle.reading_runs.proofs.together.Goals as goal

pub returns-then-not-stands : goal.returns-then-not-stands
returns-then-not-stands c =
    let none = alike_stop _ _ _ _ _ (sym c.stands.ensures.is ∙ c.if-not-stands.true) in
    c.told.ensures ∙ told_run _ _ _ 0 _ _ _ (sym (zero-add _)) none (far_none 0 _ _)

pub returns : goal.returns
returns c =
    let first = sym c.stands.ensures.is ∙ c.if-not-stands.false in
    let asked = c.args.n in
    let some = c.requires.1 in
    let more = alike_more _ _ _ _ asked (asked - 1) (omega arith) first in
    let alone = alike_stop _ _ _ _ _ (sym c.stands-2.ensures.is ∙ c.if-stands.false) in
    c.told-2.ensures ∙ told_run _ _ _ 1 _ _ _ more alone (far_one 0 _ _)
