-- The state is judged first; then the bytes written are divided again, and what is found is judged as the definition
-- does; then the tail is put.
use mathlib.Core.Path.{refl, sym, ap, ◌∙◌}
use native.Mathlib.Omega.{arith}
use lib.Seq.{length-take-le}
use Rattle.sim0mq.proofs.Passing.{handed_on}
use Rattle.recordings_format.specs.Edition.{most_messages}
use Rattle.recordings_writing.specs.Recorder.{closed_by, states}
use Rattle.recordings_writing.proofs.CloseCases.{closing_state, closing-count, closing-stopped, closing-there, closing_end, finish_refused, finish_closed}
use Rattle.recordings_writing.proofs.StateLaws.{told, usable_true}
use Rattle.recordings_writing.proofs.Recorder.try_close.Goals as goal

pub returns-then-not-usable : goal.returns-then-not-usable
returns-then-not-usable c =
    let bad = sym c.usable.ensures ∙ c.if-not-usable.true in
    let both = told (closed_by c.args.self) _ _ _ _ (closing_state _ _ bad) (ap states c.refuse.ensures) refl in
    record { answer = both.0; written = both.1 }

pub slice_bounds-divide-end : goal.slice_bounds-divide-end
slice_bounds-divide-end c =
    let good = sym c.usable.ensures ∙ c.if-not-usable.false in
    let within = (usable_true _ _ good).1 in
    omega arith

pub slice_bounds-divide-end-2 : goal.slice_bounds-divide-end-2
slice_bounds-divide-end-2 c =
    let good = sym c.usable.ensures ∙ c.if-not-usable.false in
    let within = (usable_true _ _ good).1 in
    sym (length-take-le _ c.args.out.now (omega arith))

pub returns-then-d-self : goal.returns-then-d-self
unfolding most_messages
returns-then-d-self c =
    let good = sym c.usable.ensures ∙ c.if-not-usable.false in
    let other = closing-count _ c.args.out.now good _ refl c.divide-d.result c.divide-d.ensures.answer c.if-d-self.true in
    let both = told (closed_by c.args.self) _ _ _ _ other (ap states c.refuse-then-d-self.ensures) refl in
    record { answer = both.0; written = both.1 }

pub returns-in_default : goal.returns-in_default
unfolding most_messages
returns-in_default c =
    let good = sym c.usable.ensures ∙ c.if-not-usable.false in
    let stopped
    = closing-stopped _ c.args.out.now good _ refl c.divide-d.result c.divide-d.ensures.answer c.in_default.not-AtEnd in
    let both = told (closed_by c.args.self) _ _ _ _ stopped (ap states c.refuse-in_default.ensures) refl in
    record { answer = both.0; written = both.1 }

pub slice_bounds-lengths-end : goal.slice_bounds-lengths-end
unfolding most_messages
slice_bounds-lengths-end c =
    let good = sym c.usable.ensures ∙ c.if-not-usable.false in
    let divided = c.divide-d.ensures in
    closing-there _ c.args.out.now good _ refl c.divide-d.result divided.answer c.in-AtEnd.is c.if-d-self.false _ _ divided.kept

pub slice_bounds-put_tail-end : goal.slice_bounds-put_tail-end
unfolding most_messages
slice_bounds-put_tail-end c =
    let good = sym c.usable.ensures ∙ c.if-not-usable.false in
    let divided = c.divide-d.ensures in
    let there
    = closing-there _ c.args.out.now good _ refl c.divide-d.result divided.answer c.in-AtEnd.is c.if-d-self.false _ _ divided.kept in
    sym (length-take-le _ c.divide-d.new.lengths there)

pub returns-in_err-written : goal.returns-in_err-written
unfolding most_messages
returns-in_err-written c =
    let good = sym c.usable.ensures ∙ c.if-not-usable.false in
    let divided = c.divide-d.ensures in
    let tail
    = closing_end _ c.args.out.now good _ refl c.divide-d.result divided.answer c.in-AtEnd.is c.if-d-self.false _ _ divided.kept in
    let put = c.in_err-written.ensures in
    let said = handed_on _ _ _ c.from_residual.ensures.1 ∙ finish_refused c.args.self _ put.answer in
    let both = told (closed_by c.args.self) _ _ _ _ tail said put.written in
    record { answer = both.0; written = both.1 }

pub returns : goal.returns
unfolding most_messages
returns c =
    let good = sym c.usable.ensures ∙ c.if-not-usable.false in
    let divided = c.divide-d.ensures in
    let tail
    = closing_end _ c.args.out.now good _ refl c.divide-d.result divided.answer c.in-AtEnd.is c.if-d-self.false _ _ divided.kept in
    let put = c.in_ok-written.ensures in
    let both = told (closed_by c.args.self) _ _ _ _ tail (finish_closed c.args.self _ _ put.answer) put.written in
    record { answer = both.0; written = both.1 }
