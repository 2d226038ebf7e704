-- What stands before the payload is refused, or the copy of the rest is made.
use mathlib.Core.Path.{sym, ap, ◌∙◌}
use lib.ListN.{length}
use Rattle.sim0mq.specs.Answer.{length_of}
use Rattle.sim0mq.specs.Blank.{output_after}
use Rattle.sim0mq.specs.Views.{said_as}
use Rattle.sim0mq.proofs.Passing.{handed_on}
use Rattle.reading_header.specs.declared.End.{End}
use Rattle.reading_header.specs.Frames.{Told}
use Rattle.reading_front.proofs.FrontCases.{told_refused, told_accepted}
use Rattle.blanking.proofs.BlankCases.{blank_closed, blank-copyable, blank-is}
use Rattle.blanking.proofs.blank.Goals as goal

pub copied-requires : goal.copied-requires
copied-requires c =
    let h = told_accepted _ _ _ _ (sym (ap (λ (x : Told). x.said) c.opened.ensures) ∙ ap (said_as (λ (e : End). e)) c.in_ok-e.was) in
    blank-copyable 0 _ h.0 h.1 _ _ h.2 h.3

pub returns-in_err-e : goal.returns-in_err-e
unfolding output_after
returns-in_err-e c =
    let stopped = told_refused _ _ _ _ (sym (ap (λ (x : Told). x.said) c.opened.ensures) ∙ ap (said_as (λ (e : End). e)) c.in_err-e.was) in
    let e = blank_closed (length c.args.out.now) _ _ _ stopped in
    record { answer = handed_on _ _ _ c.from_residual.ensures.1 ∙ sym (ap length_of e); copied = sym (ap (output_after c.args.out.now) e) }

pub returns : goal.returns
returns c =
    let h = told_accepted _ _ _ _ (sym (ap (λ (x : Told). x.said) c.opened.ensures) ∙ ap (said_as (λ (e : End). e)) c.in_ok-e.was) in
    let e = blank-is (length c.args.out.now) _ h.0 h.1 _ _ h.2 h.3 in
    record { answer = c.copied.ensures.answer ∙ ap length_of e; copied = c.copied.ensures.copied ∙ ap (output_after c.args.out.now) e }
