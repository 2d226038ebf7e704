-- The state is judged, then the field as a payload of one field, and what still fits is left to `append`.
use mathlib.Core.Path.{refl, sym, ap, ◌∙◌}
use Rattle.writing.specs.Writing.{encoded, handed}
use Rattle.writing.proofs.AddCases.{told_as, handed_err, adding_state, adding_field, adding_text, encoded_refused, encoded_fine}
use Rattle.writing.proofs.Writer.adding.Goals as goal

pub returns-then-not-takes : goal.returns-then-not-takes
returns-then-not-takes c =
    let a = c.args in
    let full = adding_state _ _ (encoded a.field.now) (sym c.takes.ensures ∙ c.if-not-takes.true) in
    let told = told_as a.self a.out.now _ _ _ _ full (ap (handed a.self) c.refuse.ensures) refl in
    record { answer = told.0; written = told.1 }

pub append-requires : goal.append-requires
append-requires c = sym c.takes.ensures ∙ c.if-not-takes.false

pub returns-in_err-payload : goal.returns-in_err-payload
returns-in_err-payload c =
    let a = c.args in
    let taken = sym c.takes.ensures ∙ c.if-not-takes.false in
    let stopped = encoded_refused _ _ _ (sym c.in_err-payload.ensures.answer.0) in
    let e = adding_field _ _ (encoded a.field.now) _ _ taken stopped in
    let told = told_as a.self a.out.now _ _ _ _ e (handed_err _ _ _ c.from_residual.ensures.1) refl in
    record { answer = told.0; written = told.1 }

pub returns : goal.returns
returns c =
    let a = c.args in
    let taken = sym c.takes.ensures ∙ c.if-not-takes.false in
    let granted = encoded_fine _ _ (sym c.in_ok-payload.ensures.answer.0) in
    let e = adding_text _ _ (encoded a.field.now) _ taken granted in
    let told = told_as a.self a.out.now _ _ _ _ e c.append.ensures.answer c.append.ensures.written in
    record { answer = told.0; written = told.1 }
