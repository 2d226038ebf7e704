-- The message is judged whole; then there is no field k, or its row was kept.
use mathlib.Core.Path.{refl, sym, ap, ◌∙◌}
use Rattle.sim0mq.specs.Answer.{fine}
use Rattle.sim0mq.specs.Table.{row_size}
use Rattle.sim0mq.specs.Views.{said_as}
use Rattle.sim0mq.proofs.Passing.{handed_on}
use Rattle.reading_header.specs.declared.End.{End}
use Rattle.reading_header.specs.Frames.{Told}
use Rattle.reading_fields.specs.Items.{fielded}
use Rattle.reading_front.proofs.FrontCases.{told_refused, told_accepted}
use Rattle.asking.proofs.FindCases.{ask_closed, ask-refused, ask-none, ask-found}
use Rattle.asking.proofs.ask.Goals as goal

pub returns-in_err-e : goal.returns-in_err-e
returns-in_err-e c =
    let stopped = told_refused _ _ _ _ (sym (ap (λ (x : Told). x.said) c.opened.ensures) ∙ ap (said_as (λ (e : End). e)) c.in_err-e.was) in
    handed_on _ _ _ c.from_residual.ensures.1 ∙ ask_closed _ _ _ _ stopped

pub returns-in_err-_steps : goal.returns-in_err-_steps
returns-in_err-_steps c =
    let h = told_accepted _ _ _ _ (sym (ap (λ (x : Told). x.said) c.opened.ensures) ∙ ap (said_as (λ (e : End). e)) c.in_ok-e.was) in
    handed_on _ _ _ c.from_residual-in_err-_steps.ensures.1
    ∙ ask-refused _ _ h.0 h.1 _ _ h.2 h.3 _ _ (sym c.in_err-_steps.ensures.answer.0)

pub returns-then-e-k : goal.returns-then-e-k
returns-then-e-k c =
    let h = told_accepted _ _ _ _ (sym (ap (λ (x : Told). x.said) c.opened.ensures) ∙ ap (said_as (λ (e : End). e)) c.in_ok-e.was) in
    ap fielded c.refuse.ensures ∙ ask-none _ _ h.0 h.1 _ _ h.2 h.3 _ (sym c.in_ok-_steps.ensures.answer.0) c.if-e-k.true

pub returns : goal.returns
unfolding row_size
returns c =
    let h = told_accepted _ _ _ _ (sym (ap (λ (x : Told). x.said) c.opened.ensures) ∙ ap (said_as (λ (e : End). e)) c.in_ok-e.was) in
    let found = ask-found _ _ h.0 h.1 _ _ h.2 h.3 _ (sym c.in_ok-_steps.ensures.answer.0) _ _ refl c.payload.ensures.kept c.if-e-k.false in
    ap fine c.field_in.ensures ∙ found
