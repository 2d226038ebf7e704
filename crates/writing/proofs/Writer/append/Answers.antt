-- The state takes a field, so what is written lies within the limit and the buffer; each return is a case of what still
-- fits.
use native.Mathlib.Omega.{arith}
use Prim.Native.Nat.{◌+◌, ◌≤◌}
use mathlib.Core.Path.{refl, ap, ◌∙◌}
use lib.ListN.{length}
use Rattle.sim0mq.specs.Message.{limit}
use Rattle.sim0mq_buffers.proofs.PlaceLaws.{put_fits}
use Rattle.writing.specs.Writing.{handed}
use Rattle.writing.proofs.AddCases.{told_as, takes_within, fitting_long, fitting_full, fitting_fine}
use Rattle.writing.proofs.Writer.append.Goals as goal

pub overflow_sub-at : goal.overflow_sub-at
unfolding limit
overflow_sub-at c = (takes_within _ _ c.requires).1

pub returns-then-at-text : goal.returns-then-at-text
unfolding limit
returns-then-at-text c =
    let a = c.args in
    let long = fitting_long _ _ _ (takes_within _ _ c.requires).1 c.if-at-text.true in
    let told = told_as a.self a.out.now _ _ _ _ long (ap (handed a.self) c.refuse.ensures) refl in
    record { answer = told.0; written = told.1 }

pub overflow_sub-out : goal.overflow_sub-out
overflow_sub-out c = (takes_within _ _ c.requires).2

pub returns-then-out-at : goal.returns-then-out-at
unfolding limit
returns-then-out-at c =
    let a = c.args in
    let full = fitting_full _ _ _ (takes_within _ _ c.requires).1 c.if-at-text.false c.if-out-at.true in
    let told = told_as a.self a.out.now _ _ _ _ full (ap (handed a.self) c.refuse-then-out-at.ensures) refl in
    record { answer = told.0; written = told.1 }

pub overflow_add-result-2 : goal.overflow_add-result-2
unfolding limit
overflow_add-result-2 c =
    let within = takes_within _ _ c.requires in
    omega arith

pub returns : goal.returns
unfolding limit
returns c =
    let a = c.args in
    let within = takes_within _ _ c.requires in
    let room : a.self.written + length a.text.now ≤ length a.out.now = omega arith in
    let fits = fitting_fine _ _ _ within.1 c.if-at-text.false c.if-out-at.false within.2 in
    let told = told_as a.self _ _ _ _ _ fits refl (c.put.ensures ∙ put_fits _ _ _ room) in
    record { answer = told.0; written = told.1 }
