-- The state is judged first, then the message, then the room, as the definition judges them; and a message that has
-- room stands after what was written.
use Prim.Native.Nat.{◌+◌, ◌≤◌}
use mathlib.Core.Path.{refl, sym, ap, ◌∙◌}
use native.Mathlib.Omega.{arith}
use lib.ListN.{length}
use Rattle.sim0mq.proofs.Passing.{handed_on}
use Rattle.sim0mq_buffers.proofs.PlaceLaws.{put_fits}
use Rattle.recordings_format.specs.Edition.{most_messages}
use Rattle.recordings_tails.proofs.TailLaws.{room_over, room_fits}
use Rattle.recordings_writing.specs.Recorder.{added, states}
use Rattle.recordings_writing.proofs.StateLaws.{told, adding_state, adding-many, adding-fault, adding_text, usable_true}
use Rattle.recordings_writing.proofs.Recorder.try_add.Goals as goal

pub returns-then-not-usable : goal.returns-then-not-usable
returns-then-not-usable c =
    let bad = sym c.usable.ensures ∙ c.if-not-usable.true in
    let both = told (added c.args.self) _ _ _ _ (adding_state _ _ _ bad) (ap states c.refuse.ensures) refl in
    record { answer = both.0; written = both.1 }

pub returns-then-self-ge-MOST : goal.returns-then-self-ge-MOST
unfolding most_messages
returns-then-self-ge-MOST c =
    let good = sym c.usable.ensures ∙ c.if-not-usable.false in
    let many = adding-many _ _ _ good c.if-self-ge-MOST.true in
    let both = told (added c.args.self) _ _ _ _ many (ap states c.refuse-then-self-ge-MOST.ensures) refl in
    record { answer = both.0; written = both.1 }

pub returns-in_err-_found : goal.returns-in_err-_found
unfolding most_messages
returns-in_err-_found c =
    let good = sym c.usable.ensures ∙ c.if-not-usable.false in
    let fault = adding-fault _ _ _ good (omega arith) _ c.judge.ensures _ c.in_err-_found.was in
    let both = told (added c.args.self) _ _ _ _ fault (handed_on _ _ _ c.from_residual.ensures.1) refl in
    record { answer = both.0; written = both.1 }

pub overflow_sub-out : goal.overflow_sub-out
overflow_sub-out c =
    let good = sym c.usable.ensures ∙ c.if-not-usable.false in
    let within = (usable_true _ _ good).1 in
    omega arith

pub returns-then-out-at : goal.returns-then-out-at
unfolding most_messages
returns-then-out-at c =
    let good = sym c.usable.ensures ∙ c.if-not-usable.false in
    let within = (usable_true _ _ good).1 in
    let text = adding_text _ _ _ good (omega arith) _ c.judge.ensures _ c.in_ok-_found.was in
    let both = told (added c.args.self) _ _ _ _ (text ∙ room_over _ _ _ (omega arith)) (ap states c.refuse-then-out-at.ensures) refl in
    record { answer = both.0; written = both.1 }

pub returns : goal.returns
unfolding most_messages
returns c =
    let a = c.args in
    let good = sym c.usable.ensures ∙ c.if-not-usable.false in
    let within = (usable_true _ _ good).1 in
    let room : a.self.written + length a.message.now ≤ length a.out.now = omega arith in
    let text = adding_text _ _ _ good (omega arith) _ c.judge.ensures _ c.in_ok-_found.was in
    let there = c.put.ensures ∙ put_fits a.out.now a.self.written a.message.now room in
    let both = told (added a.self) _ _ _ _ (text ∙ room_fits _ _ _ room) refl there in
    record { answer = both.0; written = both.1 }
