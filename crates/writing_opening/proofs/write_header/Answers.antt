-- What is asked for is judged whole; granted, it has the header's length, and the header is put.
use mathlib.Core.Path.{sym, ap, ◌∙◌}
use lib.ListN.{length}
use mir.Syntax.{w64}
use mir.ValLaws.{to_z-of_z}
use Rattle.sim0mq.specs.Answer.{fine, length_of}
use Rattle.sim0mq.proofs.Passing.{handed_on}
use Rattle.writing_opening.specs.Opening.{buffer_after}
use Rattle.writing_opening.proofs.HeaderCases.{given_refused, given_granted}
use Rattle.writing_opening.proofs.write_header.Goals as goal

pub put_header-requires : goal.put_header-requires
put_header-requires c =
    let a = c.args in
    let granted = given_granted a.ids.now a.number a.status a.code a.fields (length a.out.now) _ (sym c.in_ok-n.ensures) in
    rw (to_z-of_z w64 a.number c.ranges.number) (granted.2, granted.3)

pub returns-in_err-n : goal.returns-in_err-n
returns-in_err-n c =
    let a = c.args in
    let e = given_refused a.ids.now a.number a.status a.code a.fields (length a.out.now) _ _ (sym c.in_err-n.ensures) in
    record {
      answer = handed_on _ _ _ c.from_residual.ensures.1 ∙ sym (ap length_of e);
      written = sym (ap (buffer_after a.out.now 0) e);
    }

pub returns : goal.returns
returns c =
    let a = c.args in
    let granted = given_granted a.ids.now a.number a.status a.code a.fields (length a.out.now) _ (sym c.in_ok-n.ensures) in
    let same = to_z-of_z w64 a.number c.ranges.number in
    record {
      answer = ap fine granted.1 ∙ sym (ap length_of granted.0);
      written = rw same at c.put_header.ensures ∙ sym (ap (buffer_after a.out.now 0) granted.0);
    }
