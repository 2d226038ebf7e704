-- Each return is a case of the definition: too long, the header's own answer, or too little room.
use native.Mathlib.Omega.{arith}
use mathlib.Core.Path.{sym, ap, ◌∙◌}
use Rattle.sim0mq.specs.Message.{enough, limit}
use Rattle.sim0mq.specs.Views.{said_as}
use Rattle.reading_header.specs.declared.End.{End}
use Rattle.reading_header.specs.Frames.{Told, told}
use Rattle.reading_front.proofs.FrontCases.{told_refused, told_accepted, front_long, front_stop, front-room, front-fine}
use Rattle.reading_front.proofs.opened.Goals as goal

pub returns-then-message-gt-LIMIT : goal.returns-then-message-gt-LIMIT
unfolding limit
returns-then-message-gt-LIMIT c = c.closed.ensures ∙ ap (told _) (sym (front_long _ _ c.if-message-gt-LIMIT.true))

pub returns-then-enough : goal.returns-then-enough
unfolding limit
returns-then-enough c =
    let h = told_accepted _ _ _ _ (sym (ap (λ (x : Told). x.said) c.header-h.ensures) ∙ ap (said_as (λ (e : End). e)) c.in-Ok.is) in
    let room = ap (enough _) h.2 ∙ sym c.enough.ensures ∙ c.if-enough.true in
    c.header-h.ensures ∙ ap (told _) (h.1 ∙ sym (front-fine _ _ (omega arith) h.0 h.1 room))

pub returns-in-Err : goal.returns-in-Err
unfolding limit
returns-in-Err c =
    let stopped = told_refused _ _ _ _ (sym (ap (λ (x : Told). x.said) c.header-h.ensures) ∙ ap (said_as (λ (e : End). e)) c.in-Err.is) in
    c.header-h.ensures ∙ ap (told _) (stopped ∙ sym (front_stop _ _ (omega arith) _ _ stopped))

pub returns-else-enough : goal.returns-else-enough
unfolding limit
returns-else-enough c =
    let h = told_accepted _ _ _ _ (sym (ap (λ (x : Told). x.said) c.header-h.ensures) ∙ ap (said_as (λ (e : End). e)) c.in-Ok.is) in
    let room = ap (enough _) h.2 ∙ sym c.enough.ensures ∙ c.if-enough.false in
    c.closed-in-Ok.ensures ∙ ap (told _) (sym (front-room _ _ (omega arith) h.0 h.1 room))
