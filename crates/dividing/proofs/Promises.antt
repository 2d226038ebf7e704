-- Request 5 holds of the definitions: the message at the front is found whatever follows it (FrontLaws), so no two
-- messages stand at one front, and a run over messages end to end takes each of them (RunLaws).
use Prim.Native.Nat.{ℕ, ◌+◌, ◌-◌, ◌≤◌, ◌<◌, zero-le}
use mathlib.Core.Path.{◌≡◌, refl, ap, ap₂, sym, ◌∙◌, subst}
use mathlib.Core.List.{List, [], ◌∷◌, ◌++◌, map, flat_map, append-nil}
use native.Mathlib.Omega.{arith}
use lib.ListN.{length, take, drop, length-append, length-take}
use lib.Seq.{take_at, drop_at, take_all}
use Rattle.sim0mq.specs.Answer.{refused}
use Rattle.sim0mq.specs.Message.{no_table, message}
use Rattle.sim0mq.specs.Allowed.{Each, none, more, joined}
use Rattle.sim0mq.proofs.Answers.{fine_eq}
use Rattle.dividing.specs.Front.{Taken, front_length}
use Rattle.dividing.specs.Run.{Stop, at_end, at_most, at_fault, Run, run_from, division, stretches, total}
use Rattle.dividing.specs.Promises.{ThirteenIsAMessageAndMore, NoMessageBeginsAnother, FrontIsFound, FaultIsOfReading, DividedInOneWay, DivisionIsFound, SaysOf, DivisionIsTold, StoppedFor, IsRun, RunIsOfMessages, RunIsLongest}
use Rattle.dividing.proofs.FrontLaws.{taken_long, front_after, front_there, found_taken, front_fault, thirteen_there, thirteen_found}
use Rattle.dividing.proofs.RunLaws.{after, run_over, run_end, stretches_over, stretches_joined, stretches_many, run_is}

pub thirteen_is_a_message_and_more : ThirteenIsAMessageAndMore
thirteen_is_a_message_and_more most s p = (thirteen_there most s p, thirteen_found most s p)

empty : (l : List ℕ) → length l ≡ 0 → l ≡ []
empty [] e = refl
empty (x ∷ l) e = absurd (omega arith)

pub no_message_begins_another : NoMessageBeginsAnother
no_message_begins_another most m rest a b =
    let e : length m ≡ length (m ++ rest)
    = fine_eq (sym (front_after most m rest a) ∙ ap (front_length most) (sym (append-nil (m ++ rest))) ∙ front_after most (m ++ rest) [] b) in
    empty rest (omega (arith, length-append m rest))

pub front_is_found : FrontIsFound
front_is_found most s n = (front_there most s n, found_taken most s n)

pub fault_is_of_reading : FaultIsOfReading
fault_is_of_reading = front_fault

pub divided_in_one_way : DividedInOneWay
unfolding flat_map
divided_in_one_way most [] [] none none e = refl
divided_in_one_way most [] (n ∷ ns) none (more b bs) e = absurd (omega (arith, taken_long most n b, length-append n (joined ns), ap length e))
divided_in_one_way most (m ∷ ms) [] (more a rest) none e = absurd (omega (arith, taken_long most m a, length-append m (joined ms), ap length e))
divided_in_one_way most (m ∷ ms) (n ∷ ns) (more a rest) (more b bs) e =
    let long : length m ≡ length n
    = fine_eq (sym (front_after most m (joined ms) a) ∙ ap (front_length most) e ∙ front_after most n (joined ns) b) in
    let first : m ≡ n
    = sym (take_at m (joined ms) (length n) long) ∙ ap (take (length n)) e ∙ take_at n (joined ns) (length n) refl in
    let others : joined ms ≡ joined ns
    = sym (drop_at m (joined ms) (length n) long) ∙ ap (drop (length n)) e ∙ drop_at n (joined ns) (length n) refl in
    ap₂ ◌∷◌ first (divided_in_one_way most ms ns rest bs others)

-- a fault is no end
no_fault : {k p : ℕ} → at_fault k p ≡ at_end → ⊥
no_fault e = let z : ◌≡◌ {A = ℕ} 0 1 = cc in omega arith

-- messages are no more than their bytes
few_messages : (most : ℕ) (ms : List (List ℕ)) → Each (Taken most) ms → length ms ≤ length (joined ms)
unfolding flat_map
few_messages most [] none = omega arith
few_messages most (m ∷ ms) (more t ts) =
    omega (arith, taken_long most m t, few_messages most ms ts, length-append m (joined ms))

-- the run over messages end to end, where as many may be taken
pub run_over_all : (most many : ℕ) (ms : List (List ℕ)) → Each (Taken most) ms → length ms ≤ many
    → run_from most many (joined ms) 0 ≡ record { lengths = map length ms; stop = at_end }
run_over_all most many ms each few =
    let whole : drop 0 (joined ms) ≡ joined ms ++ [] = sym (append-nil (joined ms)) in
    let end = run_end most (many - length ms) (joined ms) (0 + length (joined ms)) (omega arith) in
    run_over most many (joined ms) 0 ms [] each whole few
    ∙ ap (after (map length ms)) end
    ∙ ap (λ (ns : List ℕ). record { lengths = ns; stop = at_end }) (append-nil (map length ms))

pub division_is_found : DivisionIsFound
unfolding division
division_is_found most ms each = (
  run_over_all most (length (joined ms)) ms each (few_messages most ms each),
  stretches_over (joined ms) 0 ms [] (sym (append-nil (joined ms))),
)

-- a run of all of s that stopped for the most messages would have more messages than bytes
too_many : (most : ℕ) (s ns : List ℕ) → Each (Taken most) (stretches s 0 ns) → length ns ≡ length s → 0 + total ns < length s → ⊥
too_many most s ns each many left =
    let ms = stretches s 0 ns in
    let joins = stretches_joined s 0 ns in
    omega (
      arith,
      few_messages most ms each,
      ap length joins,
      length-take (total ns) s,
      stretches_many s 0 ns,
    )

pub division_is_told : DivisionIsTold
unfolding division
division_is_told most s = go (division most s) refl (run_is most (length s) s 0 zero-le)
  where
    FaultAt : ℕ → ℕ → ℕ → Type 0
    FaultAt k p end = (q : ℕ) × (p ≡ end + q) × (message most no_table (take most (drop end s)) ≡ refused k q)

    none-there : (r : Run) (k p : ℕ) → division most s ≡ r → r.stop ≡ at_fault k p
        → (ms : List (List ℕ)) → Each (Taken most) ms → joined ms ≡ s → ⊥
    none-there r k p e stop ms each joins =
        let found : division most s ≡ record { lengths = map length ms; stop = at_end }
        = ap (division most) (sym joins) ∙ (division_is_found most ms each).0 in
        no_fault (sym stop ∙ ap (λ (x : Run). x.stop) (sym e ∙ found))

    said : (r : Run) → division most s ≡ r → IsRun most (length s) s 0 r → (w : Stop) → r.stop ≡ w
        → StoppedFor most (length s) s (length r.lengths) (0 + total r.lengths) w → SaysOf most s r w
    said r e i at_end stop why =
        (i.each, stretches_joined s 0 r.lengths ∙ take_all (total r.lengths) s (omega arith))
    said r e i at_most stop why = too_many most s r.lengths i.each why.1 why.0
    said r e i (at_fault k p) stop why =
        let start : 0 + total r.lengths ≡ total r.lengths = omega arith in
        (none-there r k p e stop, subst (FaultAt k p) start why.1)

    go : (r : Run) → division most s ≡ r → IsRun most (length s) s 0 r → SaysOf most s r r.stop
    go r e i = said r e i r.stop refl i.why

pub run_is_of_messages : RunIsOfMessages
run_is_of_messages = run_is

pub run_is_longest : RunIsLongest
run_is_longest most many ms rest each few = (
  (run_from most (many - length ms) (joined ms ++ rest) (0 + length (joined ms))).lengths,
  ap (λ (r : Run). r.lengths) (run_over most many (joined ms ++ rest) 0 ms rest each refl few),
)
