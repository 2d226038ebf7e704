-- How a division goes on and stops: the run from the front is the messages kept so far, and then the run from here.
use Prim.Native.Nat.{ℕ, suc, ◌+◌, ◌-◌, ◌≤◌, ◌<◌}
use mathlib.Core.Path.{◌≡◌, refl, ap, sym, ◌∙◌, subst}
use mathlib.Core.List.{List, [], ◌∷◌, ◌++◌, append-nil, append_assoc}
use native.Mathlib.Omega.{arith}
use native.Mathlib.Numerals.{add-one}
use lib.ListN.{length, take, drop, set, length-take, length-drop, length-set, take-append-drop}
use lib.Seq.{take_all, take-suc-set, drop-set-lt, length-take-le, drop-drop}
use borrow.Author.Tests.{lt-leb}
use Rattle.sim0mq.specs.Answer.{Answer, fine, refused}
use Rattle.sim0mq.specs.Message.{limit, no_table, Reading}
use Rattle.sim0mq.specs.Table.{stored}
use Rattle.sim0mq.specs.declared.Refusal.{Refusal}
use Rattle.std.specs.Prelude.{Result, Ok, Err}
use Rattle.sim0mq.specs.Demand1.{judging_numbers}
use Rattle.sim0mq.specs.Views.{number_of, judged}
use Rattle.sim0mq.proofs.Refusals.{Held, message_placed}
use Rattle.dividing.specs.Front.{front_length}
use Rattle.dividing.specs.Run as R
use Rattle.dividing.specs.Run.{at_end, at_most, at_fault, Run, stopped, longer, run_from, total}
use Rattle.dividing.proofs.FrontLaws.{taken_short, front_there, front_fault}
use Rattle.dividing.proofs.RunLaws.{after, run_end}
use Rattle.recordings_fronts.specs.Fronts.{Divided, divided_of}

-- one turn of a run, and how it stops
run_taken : (most many : ℕ) (s : List ℕ) (at n : ℕ) → at < length s → front_length most (drop at s) ≡ fine n
    → run_from most (suc many) s at ≡ longer n (run_from most many s (at + n))
unfolding run_from
run_taken most many s at n h e = simp (lt-leb (length s) at h, e)

run_fault : (most many : ℕ) (s : List ℕ) (at k p : ℕ) → at < length s → front_length most (drop at s) ≡ refused k p
    → run_from most (suc many) s at ≡ stopped (at_fault k (at + p))
unfolding run_from
run_fault most many s at k p h e = simp (lt-leb (length s) at h, e)

run_full : (most : ℕ) (s : List ℕ) (at : ℕ) → at < length s → run_from most 0 s at ≡ stopped at_most
unfolding run_from
run_full most s at h = simp (lt-leb (length s) at h)

pub total_over : (ns ms : List ℕ) → total (ns ++ ms) ≡ total ns + total ms
unfolding total
total_over [] ms = omega arith
total_over (n ∷ ns) ms = let e = total_over ns ms in omega arith

-- a message at the front is no longer than the bytes and the limit; and a fault there lies in them
front_bounds : (s : List ℕ) (n : ℕ) → front_length limit s ≡ fine n → (n ≤ length s) × (n ≤ limit)
front_bounds s n e =
    let f = front_there limit s n e in
    let h = f.0 in
    (h, omega (arith, taken_short limit (take n s) f.1, length-take n s))

fault_bound : (s : List ℕ) (k p : ℕ) → front_length limit s ≡ refused k p → p ≤ length s
fault_bound s k p e =
    let cut = take limit s in
    let h
    =
    subst (λ (a : Answer Reading). Held judging_numbers (length cut) a) (front_fault limit s k p e)
    (message_placed limit no_table cut) in
    let l = h.1 in
    omega (arith, length-take limit s)

-- k messages were found, which end at `at`, and their lengths are kept at the front of what was lent
pub record Divides (s kept₀ kept : List ℕ) (at k : ℕ) : Type 0 where
  pub few : k ≤ length kept₀
  pub long : length kept ≡ length kept₀
  pub within : at ≤ length s
  pub ends : at ≡ total (take k kept)
  pub same : drop k kept ≡ drop k kept₀
  pub run : run_from limit (length kept₀) s 0 ≡ after (take k kept) (run_from limit (length kept₀ - k) s at)

pub divides_start : (s kept : List ℕ) → Divides s kept kept 0 0
unfolding total
divides_start s kept =
    record {
      few = omega arith;
      long = refl;
      within = omega arith;
      ends = refl;
      same = refl;
      run = ap (λ (m : ℕ). run_from limit m s 0) (omega arith);
    }

-- the three ways to stop: the answer, and what is kept
abbrev pub Stops : (s kept₀ kept : List ℕ) (at k : ℕ) → R.Stop → Type 0
Stops s kept₀ kept at k w =
    (◌≡◌ {A = Divided} (record { count = k; end = at; stop = w }) (divided_of (run_from limit (length kept₀) s 0)))
    × (kept ≡ stored kept₀ (run_from limit (length kept₀) s 0).lengths)

module _ {s kept₀ kept : List ℕ} {at k : ℕ} (d : Divides s kept₀ kept at k) where
  -- where the run from here is none
  stops : (w : R.Stop) → run_from limit (length kept₀ - k) s at ≡ stopped w → Stops s kept₀ kept at k w
  unfolding stored
  stops w e =
      let few = d.few in
      let long = d.long in
      let ns = take k kept in
      let count : length ns ≡ k = length-take-le k kept (omega arith) in
      let whole : run_from limit (length kept₀) s 0 ≡ record { lengths = ns; stop = w }
      = d.run ∙ ap (after ns) e ∙ ap (λ (l : List ℕ). record { lengths = l; stop = w }) (append-nil ns) in (
        sym (ap divided_of whole ∙ (λ i. record { count = count i; end = sym d.ends i; stop = w })),
        sym
            (ap (λ (r : Run). r.lengths ++ drop (length r.lengths) kept₀) whole
            ∙ ap (λ (n : ℕ). ns ++ drop n kept₀) count
            ∙ ap (λ (l : List ℕ). ns ++ l) (sym d.same)
            ∙ take-append-drop k kept),
      )

  pub stops_at_end : length s ≤ at → Stops s kept₀ kept at k at_end
  stops_at_end h = stops at_end (run_end limit (length kept₀ - k) s at h)

  module _ (h : at < length s) where
    pub stops-at-most : length kept ≤ k → Stops s kept₀ kept at k at_most
    stops-at-most j =
        let long = d.long in
        let left : length kept₀ - k ≡ 0 = omega arith in
        stops at_most (ap (λ (m : ℕ). run_from limit m s at) left ∙ run_full limit s at h)

    -- one more length has room
    module _ (j : k < length kept) where
      left : length kept₀ - k ≡ suc (length kept₀ - (k + 1))
      left = let long = d.long in omega arith

      fault-stops : (i p : ℕ) → front_length limit (drop at s) ≡ refused i p → Stops s kept₀ kept at k (at_fault i (at + p))
      fault-stops i p e =
          stops (at_fault i (at + p))
          (ap (λ (m : ℕ). run_from limit m s at) left ∙ run_fault limit (length kept₀ - (k + 1)) s at i p h e)

      divides-turn : (n : ℕ) → front_length limit (drop at s) ≡ fine n → Divides s kept₀ (set kept k n) (at + n) (k + 1)
      unfolding total
      divides-turn n e =
          let few = d.few in
          let long = d.long in
          let ends = d.ends in
          let within = d.within in
          let bound = (front_bounds (drop at s) n e).0 in
          let ns = take k kept in
          let front : take (k + 1) (set kept k n) ≡ ns ++ (n ∷ [])
          = ap (λ (i : ℕ). take i (set kept k n)) (add-one k) ∙ take-suc-set kept k n j in
          let rest = run_from limit (length kept₀ - (k + 1)) s (at + n) in
          let here : run_from limit (length kept₀ - k) s at ≡ longer n rest
          = ap (λ (m : ℕ). run_from limit m s at) left ∙ run_taken limit (length kept₀ - (k + 1)) s at n h e in
          let joins : after ns (longer n rest) ≡ after (take (k + 1) (set kept k n)) rest
          =
          ap (λ (l : List ℕ). record { lengths = l; stop = rest.stop })
          (sym (append_assoc ns (n ∷ []) rest.lengths) ∙ ap (λ (l : List ℕ). l ++ rest.lengths) (sym front)) in
          record {
            few = omega arith;
            long = length-set kept k n ∙ long;
            within = omega (arith, length-drop at s);
            ends = omega (arith, ap total front, total_over ns (n ∷ []));
            same =
                drop-set-lt (k + 1) kept k n (omega arith)
                ∙ sym (drop-drop 1 k kept)
                ∙ ap (drop 1) d.same
                ∙ drop-drop 1 k kept₀;
            run = d.run ∙ ap (after ns) here ∙ joins;
          }

  -- what the front's judge told of the part from `at` on
  module _ (j : Result ℕ Refusal) (said : judged j ≡ front_length limit (take (length s - at) (drop at s))) where
    from_here : front_length limit (drop at s) ≡ judged j
    from_here =
        sym (said ∙ ap (front_length limit) (take_all (length s - at) (drop at s) (omega (arith, length-drop at s))))

    -- a message: it lies in the bytes, and the division goes on after it
    pub taken-within : (n : ℕ) → j ≡ Ok n → (at + n ≤ length s) × (n ≤ limit)
    taken-within n e =
        let within = d.within in
        let bounds = front_bounds (drop at s) n (from_here ∙ ap judged e) in
        let short = bounds.0 in
        (omega (arith, length-drop at s), bounds.1)

    pub taken-turn : (n : ℕ) → j ≡ Ok n → at < length s → k < length kept → Divides s kept₀ (set kept k n) (at + n) (k + 1)
    taken-turn n e h room = divides-turn h room n (from_here ∙ ap judged e)

    -- or none
    pub fault-within : (r : Refusal) → j ≡ Err r → at + r.place ≤ length s
    fault-within r e =
        let within = d.within in
        let bound = fault_bound (drop at s) _ _ (from_here ∙ ap judged e) in
        omega (arith, length-drop at s)

    pub stops-at-fault : (r : Refusal) → j ≡ Err r → at < length s → k < length kept
        → Stops s kept₀ kept at k (at_fault (number_of r.reason) (at + r.place))
    stops-at-fault r e h room = fault-stops h room (number_of r.reason) r.place (from_here ∙ ap judged e)
