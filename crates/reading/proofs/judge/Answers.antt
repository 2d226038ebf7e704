-- What stands before the payload and what its reader says are the answer.
use mathlib.Core.Path.{sym, ap, ◌∙◌}
use Rattle.sim0mq.specs.Views.{said_as}
use Rattle.reading_header.specs.declared.End.{End}
use Rattle.reading_header.specs.Frames.{Told}
use Rattle.reading.specs.Answers.{answer_of}
use Rattle.reading_front.proofs.FrontCases.{told_refused, told_accepted, open-within}
use Rattle.reading.proofs.AnswerCases.{closed_answer, open-answer, below_most}
use Rattle.reading.proofs.judge.Goals as goal

pub told_by-requires : goal.told_by-requires
told_by-requires c =
    let h = told_accepted _ _ _ _ (sym (ap (λ (x : Told). x.said) c.opened-o.ensures) ∙ ap (said_as (λ (e : End). e)) c.in-Ok.is) in
    below_most _ c.payload-judging.result (open-within _ _ h.0 h.1 _ _ h.2 h.3).0 c.payload-judging.ensures.answer.1

pub returns-in-Err : goal.returns-in-Err
returns-in-Err c =
    let stopped = told_refused _ _ _ _ (sym (ap (λ (x : Told). x.said) c.opened-o.ensures) ∙ ap (said_as (λ (e : End). e)) c.in-Err.is) in
    c.refused.ensures ∙ closed_answer _ _ _ _ stopped

pub returns-in-Ok : goal.returns-in-Ok
returns-in-Ok c =
    let h = told_accepted _ _ _ _ (sym (ap (λ (x : Told). x.said) c.opened-o.ensures) ∙ ap (said_as (λ (e : End). e)) c.in-Ok.is) in
    let frames = ap (λ (x : Told). x.frames) c.opened-o.ensures ∙ h.4 in
    c.told_by.ensures ∙ ap (answer_of _ _ _) c.payload-judging.ensures.answer.0 ∙ open-answer _ _ h.0 h.1 _ _ h.2 h.3 _ frames
