-- The lengths kept so far are those of the messages before `at`, and the run from the front is they and then the run
-- from here.
use native.Mathlib.Omega.{arith}
use Prim.Native.Nat.{ℕ}
use mathlib.Core.Path.{◌≡◌, ap, ◌∙◌}
use lib.ListN.{length}
use Rattle.std.proofs.lemmas.List.{set-get_or}
use Rattle.dividing.specs.Run.{at_end, at_most}
use Rattle.sim0mq.specs.Message.{limit}
use Rattle.recordings_fronts.proofs.DivideCases.{divides_start, stops_at_end, stops-at-most, taken-within, taken-turn, fault-within, stops-at-fault}
use Rattle.recordings_fronts.proofs.divide.Goals as goal

pub loop-k-init : goal.loop-k-init
loop-k-init c = divides_start _ _

pub returns-then-s-at : goal.returns-then-s-at
returns-then-s-at c =
    let both = stops_at_end c.loop-k.invariant (omega arith) in
    record { answer = both.0; kept = set-get_or c.loop-k.lengths c.loop-k.k 0 ∙ both.1 }

pub overflow_add-result : goal.overflow_add-result
overflow_add-result c =
    let bound = fault-within c.loop-k.invariant _ c.front_length.ensures _ c.in-Err.is in
    omega arith

pub returns-in-Err : goal.returns-in-Err
returns-in-Err c =
    let both = stops-at-fault c.loop-k.invariant _ c.front_length.ensures _ c.in-Err.is (omega arith) (omega arith) in
    record { answer = both.0; kept = set-get_or c.loop-k.lengths c.loop-k.k 0 ∙ both.1 }

pub overflow_cast-length : goal.overflow_cast-length
unfolding limit
overflow_cast-length c =
    let bound = (taken-within c.loop-k.invariant _ c.front_length.ensures _ c.in-Ok.is).1 in
    omega arith

pub overflow_add-at : goal.overflow_add-at
overflow_add-at c =
    let bound = (taken-within c.loop-k.invariant _ c.front_length.ensures _ c.in-Ok.is).0 in
    omega arith

pub loop-k-preserved : goal.loop-k-preserved
loop-k-preserved c = taken-turn c.loop-k.invariant _ c.front_length.ensures _ c.in-Ok.is (omega arith) (omega arith)

pub returns-then-at-s : goal.returns-then-at-s
returns-then-at-s c =
    let both = stops-at-most c.loop-k.invariant c.if-at-s.true (omega arith) in
    let all : length c.loop-k.lengths ≡ c.loop-k.k = omega arith in
    record { answer = ap (λ (n : ℕ). record { count = n; end = c.loop-k.at; stop = at_most }) all ∙ both.0; kept = both.1 }

pub returns-else-at-s : goal.returns-else-at-s
returns-else-at-s c =
    let both = stops_at_end c.loop-k.invariant c.if-at-s.false in
    let all : length c.loop-k.lengths ≡ c.loop-k.k = omega arith in
    record { answer = ap (λ (n : ℕ). record { count = n; end = c.loop-k.at; stop = at_end }) all ∙ both.0; kept = both.1 }
