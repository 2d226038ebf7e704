-- senders::stamp_at: both frames are outlined where they are said to stand, and what is outlined lies in the message.
use Prim.Native.Nat.{ℕ, ◌+◌, ◌-◌}
use mathlib.Core.Path.{◌≡◌, ap, sym, ◌∙◌}
use native.Mathlib.Omega.{arith}
use lib.ListN.{take, drop}
use mir.Syntax.{w64}
use mir.Val.{to_z, of_z}
use borrow.Author.Rules.{rules}
use Rattle.sim0mq.proofs.Passing.{handed_on}
use Rattle.senders_book.proofs.StampLaws.{outline_within}
use Rattle.senders_book.proofs.TakeCases.{stamp-sender, stamp-number, stamp-there}
use Rattle.senders.proofs.stamp_at.Goals as goal

pub returns-in_err-f : goal.returns-in_err-f
returns-in_err-f c = handed_on _ _ _ c.from_residual.ensures.1 ∙ stamp-sender _ _ _ _ _ (sym c.in_err-f.ensures)

pub returns-in_err-g : goal.returns-in_err-g
returns-in_err-g c =
    handed_on _ _ _ c.from_residual-in_err-g.ensures.1
    ∙ stamp-number _ _ _ _ (sym c.in_ok-f.ensures) _ _ (sym c.in_err-g.ensures)

pub overflow_add-end : goal.overflow_add-end
overflow_add-end c =
    let within = outline_within _ _ _ (sym c.in_ok-f.ensures) in
    omega arith

pub slice_bounds-result-end : goal.slice_bounds-result-end
slice_bounds-result-end c =
    let within = outline_within _ _ _ (sym c.in_ok-f.ensures) in
    omega arith

pub returns : goal.returns
returns c =
    let first = c.in_ok-f.f.first in
    let size = c.in_ok-f.f.size in
    let long : first + size - first ≡ size = omega arith in
    let signed : to_z w64 (of_z w64 c.i64_of.result) ≡ c.i64_of.result = search rules in
    stamp-there _ _ _ _ (sym c.in_ok-f.ensures) _ _ c.number.result _ (sym c.in_ok-g.ensures)
    (ap (λ (n : ℕ). take n (drop first c.args.message.now)) long) c.number.ensures.0 (signed ∙ c.i64_of.ensures)
