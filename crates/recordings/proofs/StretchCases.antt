-- How a message of a recording is judged: within the edition's limit it is judged as reading judges it, and its refusal
-- is moved to its place in the recording.
use Prim.Native.Nat.{ℕ, ◌+◌, ◌-◌, ◌≤◌, ◌<◌}
use mathlib.Core.Path.{◌≡◌, ap, sym, ◌∙◌, subst}
use mathlib.Core.List.{List}
use native.Mathlib.Omega.{arith}
use native.Mathlib.Nat.{add-zero}
use lib.ListN.{length, take, drop, length-take, length-drop}
use borrow.Author.Tests.{lt-leb, le-leb}
use Rattle.sim0mq.specs.Answer.{Answer, fine, refused, part_at}
use Rattle.sim0mq.specs.Message as M
use Rattle.sim0mq.specs.Message.{limit, no_table, message, reading}
use Rattle.sim0mq.specs.Demand1.{reading_numbers}
use Rattle.std.specs.Prelude.{Ok, Err}
use Rattle.sim0mq.specs.Views.{number_of}
use Rattle.sim0mq.specs.declared.Refusal.{Refusal}
use Rattle.sim0mq.proofs.Refusals.{Held, message_placed}
use Rattle.reading.specs.Answers.{answer_as, answered}
use Rattle.reading.proofs.SaidLaws.{found_at, fault_at}
use Rattle.reading.specs.declared.Found.{Found}
use Rattle.reading.specs.declared.Answer as A
use Rattle.recordings_format.specs.Judge.{stretch}
use Rattle.recordings.specs.Recordings.{size_of}

-- within both limits it is judged as reading judges it
pub stretch_read : (most : ℕ) (s : List ℕ) (at n : ℕ) → n ≤ most → most ≤ limit
    → stretch most s at n ≡ part_at at (reading no_table (take n (drop at s)))
unfolding stretch message reading
stretch_read most s at n h k =
    let m = take n (drop at s) in
    let short : length m ≤ n = omega (arith, length-take n (drop at s)) in
    simp (le-leb (length m) most (omega arith), le-leb (length m) limit (omega arith))

module _ (most : ℕ) (s : List ℕ) (at n : ℕ) (asked : (at + n ≤ length s) × (most ≤ limit)) where
  pub stretch_over : most < n → refused 8 at ≡ size_of (stretch most s at n)
  unfolding stretch message
  stretch_over h =
      let within = asked.0 in
      let m = take n (drop at s) in
      let long : length m ≡ n = omega (arith, length-take n (drop at s), length-drop at s) in
      sym (simp (lt-leb (length m) most (omega arith)) (ap (refused 8) (add-zero at)))

  module _ (fits : n ≤ most) where
    -- the part that is lent to reading
    cut : take (at + n - at) (drop at s) ≡ take n (drop at s)
    cut = let e : at + n - at ≡ n = omega arith in ap (λ (j : ℕ). take j (drop at s)) e

    alike : stretch most s at n ≡ part_at at (reading no_table (take n (drop at s)))
    alike = stretch_read most s at n fits asked.1

    -- a is what reading answers of that part
    module _ (a : A.Answer) (told : answer_as a ≡ answered (reading no_table (take (at + n - at) (drop at s)))) where
      here : answer_as a ≡ answered (reading no_table (take n (drop at s)))
      here = told ∙ ap (λ (l : List ℕ). answered (reading no_table l)) cut

      pub stretch-accepted : (f : Found) → a.said ≡ Ok f → fine f.length ≡ size_of (stretch most s at n)
      stretch-accepted f e =
          let m = found_at (reading no_table (take n (drop at s))) a here f e in
          ap (λ (g : Found). fine g.length) (sym m.2)
          ∙ sym (ap (λ (x : Answer M.Reading). size_of (part_at at x)) m.1)
          ∙ sym (ap size_of alike)

      module _ (r : Refusal) (e : a.said ≡ Err r) where
        fault : reading no_table (take n (drop at s)) ≡ refused (number_of r.reason) r.place
        fault = fault_at (reading no_table (take n (drop at s))) a here r e

        pub stretch-place : at + r.place ≤ length s
        unfolding reading
        stretch-place =
            let m = take n (drop at s) in
            let within = asked.0 in
            let h
            =
            subst (λ (x : Answer M.Reading). Held (reading_numbers no_table) (length m) x) fault
            (message_placed limit no_table m) in
            let place = h.1 in
            omega (arith, length-take n (drop at s), length-drop at s)

        pub stretch-refused : refused (number_of r.reason) (at + r.place) ≡ size_of (stretch most s at n)
        stretch-refused = sym (ap size_of (alike ∙ ap (part_at at) fault))
