-- The state is judged, then the scalar is encoded, where it may be written; what still fits is left to `append`.
use mathlib.Core.Path.{refl, sym, ap, ◌∙◌}
use lib.Seq.{length-take-le}
use Rattle.writing.specs.Writing.{scalar, handed}
use Rattle.writing.proofs.AddCases.{told_as, adding_state, adding_field, adding_text, scalar_refused, scalar_fine}
use Rattle.writing.proofs.Writer.adding_scalar.Goals as goal

pub returns-then-not-takes : goal.returns-then-not-takes
returns-then-not-takes c =
    let a = c.args in
    let full = adding_state _ _ (scalar a.value) (sym c.takes.ensures ∙ c.if-not-takes.true) in
    let told = told_as a.self a.out.now _ _ _ _ full (ap (handed a.self) c.refuse.ensures) refl in
    record { answer = told.0; written = told.1 }

pub returns-in-None : goal.returns-in-None
returns-in-None c =
    let a = c.args in
    let taken = sym c.takes.ensures ∙ c.if-not-takes.false in
    let e = adding_field _ _ (scalar a.value) _ _ taken (scalar_refused _ _ c.in-None.ensures refl) in
    let told = told_as a.self a.out.now _ _ _ _ e (ap (handed a.self) c.refuse-in-None.ensures) refl in
    record { answer = told.0; written = told.1 }

pub slice_bounds-bytes-end : goal.slice_bounds-bytes-end
slice_bounds-bytes-end c = (scalar_fine _ _ c.in-Some.ensures _ refl).1

pub slice_bounds-append-end : goal.slice_bounds-append-end
slice_bounds-append-end c = sym (length-take-le _ _ (scalar_fine _ _ c.in-Some.ensures _ refl).1)

pub append-requires : goal.append-requires
append-requires c = sym c.takes.ensures ∙ c.if-not-takes.false

pub returns-in-Some : goal.returns-in-Some
returns-in-Some c =
    let a = c.args in
    let taken = sym c.takes.ensures ∙ c.if-not-takes.false in
    let e = adding_text _ _ (scalar a.value) _ taken (scalar_fine _ _ c.in-Some.ensures _ refl).0 in
    let told = told_as a.self a.out.now _ _ _ _ e c.append.ensures.answer c.append.ensures.written in
    record { answer = told.0; written = told.1 }
