-- The part from the first value byte to the last is the field's, and lies in the message.
use borrow.Author.Rules.{rules}
use Prim.Native.Nat.{ℕ, ◌+◌, ◌-◌}
use mathlib.Core.Path.{◌≡◌, refl, sym, ap, ◌∙◌}
use lib.ListN.{take, drop}
use native.Mathlib.Omega.{arith}
use native.Mathlib.Nat.{add_comm}
use Rattle.reading_fields.specs.Items.{fielded}
use Rattle.asking.specs.Asking.{view_of, view_place}
use Rattle.asking.proofs.PartLaws.{asked_inside}
use Rattle.asking.proofs.view.Goals as goal

pub overflow_add-end : goal.overflow_add-end
overflow_add-end c = let within = asked_inside _ _ _ (sym c.ask.ensures ∙ ap fielded c.in-Ok.is) in omega arith

pub slice_bounds-result-end-in-Ok : goal.slice_bounds-result-end-in-Ok
slice_bounds-result-end-in-Ok c =
    let within = asked_inside _ _ _ (sym c.ask.ensures ∙ ap fielded c.in-Ok.is) in
    search rules

pub returns-in-Err : goal.returns-in-Err
returns-in-Err c =
    let none = sym c.ask.ensures ∙ ap fielded c.in-Err.is in
    let offset = c.args.message.ref_ptr.1 in
    record { bytes = sym (ap (view_of _) none); part = (refl, add_comm 0 offset ∙ ap (λ (n : ℕ). offset + n) (sym (ap view_place none))) }

pub returns-in-Ok : goal.returns-in-Ok
returns-in-Ok c =
    let first = c.in-Ok.f.first in
    let size = c.in-Ok.f.size in
    let e : first + size - first ≡ size = omega arith in
    let found = sym c.ask.ensures ∙ ap fielded c.in-Ok.is in
    let message = c.args.message in
    record { bytes = ap (λ (n : ℕ). take n (drop first message.now)) e ∙ sym (ap (view_of _) found); part = (refl, add_comm first message.ref_ptr.1 ∙ ap (λ (n : ℕ). message.ref_ptr.1 + n) (sym (ap view_place found))) }
