-- Each return is a case of the definition: the payload's refusal, too little room, or the copy, whose fields' rows were
-- kept.
use native.Mathlib.Omega.{arith}
use mathlib.Core.Path.{refl, sym, ap, ◌∙◌}
use lib.ListN.{length}
use lib.Seq.{length-take-le}
use Rattle.sim0mq.specs.Answer.{length_of}
use Rattle.sim0mq.specs.Blank.{output_after}
use Rattle.sim0mq.specs.Views.{judged}
use Rattle.sim0mq.proofs.Passing.{handed_on}
use Rattle.blanking.proofs.BlankCases.{copy-refused, copy-short, copy-blankable, copy-made}
use Rattle.blanking.proofs.copied_by.Goals as goal

pub returns-then-out-message : goal.returns-then-out-message
unfolding output_after
returns-then-out-message c =
    let said = sym c.in_ok-_steps.ensures.answer.0 in
    let short = copy-short (length c.args.out.now) _ _ _ _ c.requires _ said c.if-out-message.true in
    record { answer = ap judged c.refuse.ensures ∙ sym (ap length_of short); copied = sym (ap (output_after c.args.out.now) short) }

pub slice_bounds-put-end : goal.slice_bounds-put-end
slice_bounds-put-end c =
    let within = c.requires.within in
    sym (length-take-le _ c.args.message.now (omega arith))

pub blank_fields-requires : goal.blank_fields-requires
blank_fields-requires c =
    let said = sym c.in_ok-_steps.ensures.answer.0 in
    copy-blankable 0 _ _ _ _ c.requires _ said _ _ _ refl c.payload.ensures.kept (omega arith)

pub returns-in_err-_steps : goal.returns-in_err-_steps
unfolding output_after
returns-in_err-_steps c =
    let said = sym c.in_err-_steps.ensures.answer.0 in
    let stopped = copy-refused (length c.args.out.now) _ _ _ _ c.requires _ _ said in
    record { answer = handed_on _ _ _ c.from_residual.ensures.1 ∙ sym (ap length_of stopped); copied = sym (ap (output_after c.args.out.now) stopped) }

pub returns : goal.returns
returns c =
    let said = sym c.in_ok-_steps.ensures.answer.0 in
    let made = copy-made _ _ _ _ _ c.requires _ said _ _ _ refl (omega arith) c.put.ensures c.blank_fields.ensures in
    record { answer = made.0; copied = made.1 }
