-- The header is judged and written for the code of the count's type; what is handed back follows its answer.
use mathlib.Core.Path.{◌∙◌}
use lib.ListN.{length}
use mir.Syntax.{w64}
use mir.ValLaws.{to_z-of_z}
use Rattle.writing.specs.Writing.{asks_for}
use Rattle.writing.proofs.OpenCases.{code_given, opening_refused, opening_granted}
use Rattle.writing.proofs.Writer.open.Goals as goal

pub returns-in-Err : goal.returns-in-Err
returns-in-Err c =
    let a = c.args in
    let o = asks_for a.ids.now a.number a.status a.fields a.kind in
    let number = to_z-of_z w64 a.number c.ranges.number in
    let code = c.unwrap_or-code.ensures ∙ code_given a.kind in
    let said = c.in-Err.ensures in
    let told = opening_refused o a.out.now _ (length a.out.now) _ _ code number said.written _ _ said.answer in
    record { answer = c.hands.ensures ∙ told.0; written = told.1 }

pub returns-in-Ok : goal.returns-in-Ok
returns-in-Ok c =
    let a = c.args in
    let o = asks_for a.ids.now a.number a.status a.fields a.kind in
    let number = to_z-of_z w64 a.number c.ranges.number in
    let code = c.unwrap_or-code.ensures ∙ code_given a.kind in
    let said = c.in-Ok.ensures in
    let told = opening_granted o a.out.now _ (length a.out.now) _ _ code number said.written _ said.answer in
    record { answer = c.hands-in-Ok.ensures ∙ told.0; written = told.1 }
