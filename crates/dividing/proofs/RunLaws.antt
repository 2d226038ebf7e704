-- A run takes the messages at the front one after the other, and stops only where there is none.
use Prim.Native.Nat.{ℕ, zero, suc, ◌+◌, ◌-◌, ◌≤◌, ◌<◌}
use mathlib.Core.Path.{◌≡◌, refl, ap, ap₂, sym, ◌∙◌, subst}
use mathlib.Core.Bool.{Bool, true, false}
use mathlib.Core.List.{List, [], ◌∷◌, ◌++◌, map, flat_map, append_assoc}
use native.Mathlib.Omega.{arith}
use native.Mathlib.Nat.{add-zero}
use lib.ListN.{length, take, drop, length-append, length-drop}
use lib.Seq.{take_at, drop_at, drop-drop, take-add}
use lib.Dec.{leb}
use borrow.Author.Tests.{leb-true, leb-false, le-leb, lt-leb}
use Rattle.sim0mq.specs.Answer.{Answer, fine, refused}
use Rattle.sim0mq.specs.Allowed.{Each, none, more, joined}
use Rattle.sim0mq.proofs.Answers.{not_fine}
use Rattle.dividing.specs.Front.{Taken, front_length}
use Rattle.dividing.specs.Run.{Stop, at_end, at_most, at_fault, Run, stopped, longer, unless_end, on_front, run_from, stretches, total}
use Rattle.dividing.specs.Promises.{StoppedFor, IsRun}
use Rattle.dividing.proofs.FrontLaws.{taken_long, front_after, front_there, found_taken, front_fault}

-- these lengths before those of a run
abbrev pub after : List ℕ → Run → Run
after ns r = record { lengths = ns ++ r.lengths; stop = r.stop }

-- one message at the front, and many
run_turn : (most many : ℕ) (s : List ℕ) (at : ℕ) (m rest : List ℕ) → Taken most m → drop at s ≡ m ++ rest
    → run_from most (suc many) s at ≡ longer (length m) (run_from most many s (at + length m))
unfolding run_from
run_turn most many s at m rest t e =
    let front : front_length most (drop at s) ≡ fine (length m) = ap (front_length most) e ∙ front_after most m rest t in
    let here : at < length s = omega (arith, taken_long most m t, length-append m rest, length-drop at s, ap length e) in
    simp (lt-leb (length s) at here, front)

next_rest : (s : List ℕ) (at : ℕ) (m rest : List ℕ) → drop at s ≡ m ++ rest → drop (at + length m) s ≡ rest
next_rest s at m rest e = sym (drop-drop (length m) at s) ∙ ap (drop (length m)) e ∙ drop_at m rest (length m) refl

pub run_over : (most many : ℕ) (s : List ℕ) (at : ℕ) (ms : List (List ℕ)) (rest : List ℕ) → Each (Taken most) ms → drop at s ≡ joined ms ++ rest
    → length ms ≤ many
    → run_from most many s at ≡ after (map length ms) (run_from most (many - length ms) s (at + length (joined ms)))
unfolding flat_map
run_over most many s at [] rest none e h =
    ap₂ (λ (k p : ℕ). run_from most k s p) (omega arith) (omega arith)
run_over most zero s at (m ∷ ms) rest (more t ts) e h = absurd (omega arith)
run_over most (suc many) s at (m ∷ ms) rest (more t ts) e h =
    let split : drop at s ≡ m ++ (joined ms ++ rest) = e ∙ append_assoc m (joined ms) rest in
    let later = run_over most many s (at + length m) ms rest ts (next_rest s at m (joined ms ++ rest) split) (omega arith) in
    let place : at + length m + length (joined ms) ≡ at + length (m ++ joined ms) = omega (arith, length-append m (joined ms)) in
    let left : many - length ms ≡ suc many - suc (length ms) = omega arith in
    run_turn most many s at m (joined ms ++ rest) t split
    ∙ ap (longer (length m)) (later ∙ ap₂ (λ (k p : ℕ). after (map length ms) (run_from most k s p)) left place)

pub run_end : (most many : ℕ) (s : List ℕ) (at : ℕ) → length s ≤ at → run_from most many s at ≡ stopped at_end
unfolding run_from
run_end most zero s at h = simp (le-leb (length s) at h)
run_end most (suc many) s at h = simp (le-leb (length s) at h)

pub stretches_over : (s : List ℕ) (at : ℕ) (ms : List (List ℕ)) (rest : List ℕ) → drop at s ≡ joined ms ++ rest → stretches s at (map length ms) ≡ ms
unfolding flat_map stretches
stretches_over s at [] rest e = refl
stretches_over s at (m ∷ ms) rest e =
    let split : drop at s ≡ m ++ (joined ms ++ rest) = e ∙ append_assoc m (joined ms) rest in
    ap₂ ◌∷◌ (ap (take (length m)) split ∙ take_at m (joined ms ++ rest) (length m) refl)
    (stretches_over s (at + length m) ms rest (next_rest s at m (joined ms ++ rest) split))

-- stretches end to end are the bytes that they lie in, and as many as their lengths
pub stretches_joined : (s : List ℕ) (at : ℕ) (ns : List ℕ) → joined (stretches s at ns) ≡ take (total ns) (drop at s)
unfolding stretches total flat_map
stretches_joined s at [] = refl
stretches_joined s at (n ∷ ns) =
    ap (λ (l : List ℕ). take n (drop at s) ++ l)
    (stretches_joined s (at + n) ns ∙ ap (take (total ns)) (sym (drop-drop n at s)))
    ∙ sym (take-add n (total ns) (drop at s))

pub stretches_many : (s : List ℕ) (at : ℕ) (ns : List ℕ) → length (stretches s at ns) ≡ length ns
unfolding stretches
stretches_many s at [] = refl
stretches_many s at (n ∷ ns) = ap suc (stretches_many s (at + n) ns)

-- one message more in front of a run
run_more : (most many : ℕ) (s : List ℕ) (at n : ℕ) (r : Run) → Taken most (take n (drop at s)) → IsRun most many s (at + n) r
    → IsRun most (suc many) s at (longer n r)
unfolding stretches total
run_more most many s at n r t i =
    let few = i.few in
    let within = i.within in
    let place : at + n + total r.lengths ≡ at + (n + total r.lengths) = omega arith in
    record {
      each = more t i.each;
      few = omega arith;
      within = omega arith;
      why = why-more r.stop (subst (λ (p : ℕ). StoppedFor most many s (length r.lengths) p r.stop) place i.why);
    }
  where
    why-more : (w : Stop) → StoppedFor most many s (length r.lengths) (at + (n + total r.lengths)) w
        → StoppedFor most (suc many) s (suc (length r.lengths)) (at + (n + total r.lengths)) w
    why-more at_end h = h
    why-more at_most h = (h.0, ap suc h.1)
    why-more (at_fault k p) h = h

-- what comes of the front of the rest, where the run from any place on is one
run_front : (most many : ℕ) (s : List ℕ) (at : ℕ) → at < length s
    → ((n : ℕ) → at + n ≤ length s → IsRun most many s (at + n) (run_from most many s (at + n))) → (a : Answer ℕ) → front_length most (drop at s) ≡ a
    → IsRun most (suc many) s at (on_front at a (λ n. run_from most many s (at + n)))
unfolding stretches total
run_front most many s at l later (fine n) e =
    let f = front_there most (drop at s) n e in
    let short = f.0 in
    run_more most many s at n (run_from most many s (at + n)) f.1 (later n (omega (arith, length-drop at s)))
run_front most many s at l later (refused k p) e =
    record {
      each = none;
      few = omega arith;
      within = omega arith;
      why =
          rw add-zero
          (l, (p, refl, front_fault most (drop at s) k p e), λ n short t. not_fine (sym e ∙ found_taken most (drop at s) n (short, t)));
    }

pub run_is : (most many : ℕ) (s : List ℕ) (at : ℕ) → at ≤ length s → IsRun most many s at (run_from most many s at)
unfolding run_from stretches total
run_is most zero s at h = ended (leb (length s) at) refl
  where
    ended : (t : Bool) → leb (length s) at ≡ t → IsRun most 0 s at (unless_end t (λ u. stopped at_most))
    ended true e = record { each = none; few = omega arith; within = omega arith; why = omega (arith, leb-true (length s) at e) }
    ended false e = record { each = none; few = omega arith; within = omega arith; why = (omega (arith, leb-false (length s) at e), refl) }
run_is most (suc many) s at h = ended (leb (length s) at) refl (λ n k. run_is most many s (at + n) k)
  where
    ended : (t : Bool) → leb (length s) at ≡ t
        → ((n : ℕ) → at + n ≤ length s → IsRun most many s (at + n) (run_from most many s (at + n)))
        → IsRun most (suc many) s at (unless_end t (λ u. on_front at (front_length most (drop at s)) (λ n. run_from most many s (at + n))))
    ended true e later = record { each = none; few = omega arith; within = omega arith; why = omega (arith, leb-true (length s) at e) }
    ended false e later = run_front most many s at (leb-false (length s) at e) later (front_length most (drop at s)) refl
