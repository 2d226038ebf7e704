-- The lengths and the room are judged first, as the definition judges them; then the index is put, and the trailer
-- where it ends.
use mathlib.Core.Path.{refl, ap, sym, ◌∙◌}
use native.Mathlib.Omega.{arith}
use Rattle.sim0mq.specs.Views.{judged}
use Rattle.recordings_format.specs.Edition.{most_messages, trailer_size}
use Rattle.recordings_tails.proofs.TailLaws.{come_ends, tailing-over, tail_refused, tail_written}
use Rattle.recordings_tails.proofs.put_tail.Goals as goal

pub returns-then-out-at-2 : goal.returns-then-out-at-2
unfolding most_messages trailer_size
returns-then-out-at-2 c =
    let few = c.if-n-gt-MOST.false in
    let ends = sym c.come_to.ensures ∙ c.if-not-come_to.false in
    let both = tail_refused _ _ _ _ _ _ (tailing-over _ _ _ _ few ends (omega arith)) (ap judged c.refuse-then-out-at-2.ensures) in
    record { answer = both.0; written = both.1 }

pub put_index-requires : goal.put_index-requires
put_index-requires c =
    let ends = sym c.come_to.ensures ∙ c.if-not-come_to.false in
    record { ends = come_ends _ _ _ ends; fits = omega arith }

pub returns : goal.returns
unfolding most_messages trailer_size
returns c =
    let few = c.if-n-gt-MOST.false in
    let ends = sym c.come_to.ensures ∙ c.if-not-come_to.false in
    let index = c.put_index.ensures in
    let both = tail_written _ _ _ _ _ _ few ends refl (omega arith) index c.put_trailer.ensures in
    record { answer = both.0; written = both.1 }
