-- How closing answers, case by case of what dividing the bytes written answered, and then putting the tail.
use Prim.Native.Nat.{ℕ, ◌≤◌}
use mathlib.Core.Path.{◌≡◌, refl, ap, ap₂, sym, ◌∙◌}
use mathlib.Core.Bool.{Bool, true, false}
use mathlib.Core.List.{List, ◌++◌}
use native.Mathlib.Omega.{arith}
use lib.ListN.{length, take, drop, length-append}
use lib.Seq.{take_at, length-take-le}
use borrow.Author.Tests.{eq-eqb, ne_eqb}
use Rattle.sim0mq.specs.Answer.{Answer, fine, refused}
use Rattle.sim0mq.specs.Table.{stored}
use Rattle.sim0mq.specs.Message.{limit}
use Rattle.sim0mq.proofs.Answers.{not_fine, fine_eq}
use Rattle.dividing.specs.Run as Run
use Rattle.dividing.specs.Run.{run_from}
use Rattle.recordings_fronts.specs.Fronts as F
use Rattle.recordings_fronts.specs.Fronts.{stop_of, divided_as, divided_of}
use Rattle.recordings_fronts.specs.declared.Divided.{Divided}
use Rattle.recordings_fronts.specs.declared.Stop.{Stop}
use Rattle.recordings_fronts.specs.declared.Stop.TheVariants.{AtEnd, AtMost, AtFault}
use Rattle.recordings_format.specs.Edition.{newest, most_messages}
use Rattle.recordings_format.specs.Text.{tail_text}
use Rattle.recordings_format.proofs.EditionLaws.{newest_most}
use Rattle.recordings_tails.specs.Tails.{room_for, come, tailing, length_after}
use Rattle.recordings_tails.proofs.TailLaws.{taken_come, tailing-room}
use Rattle.recordings_writing.specs.Recorder.{usable, ended, written_run, found, closing, closed_by}
use Rattle.recordings_writing.specs.declared.Recorder.{Recorder}
use Rattle.recordings_writing.proofs.StateLaws.{usable_true, run_divides}

-- a division that did not come to the end
not_ended : (s : Stop) → (s ≡ AtEnd → ⊥) → ended (stop_of s) ≡ false
not_ended AtEnd h = absurd (h refl)
not_ended AtMost h = refl
not_ended (AtFault r) h = refl

-- closing: d is what dividing the bytes written answered
module _ (w : Recorder) (out : List ℕ) where
  pub closing_state : usable w (length out) ≡ false → closing newest w out ≡ refused 15 0
  unfolding closing
  closing_state e = simp e

  module _ (good : usable w (length out) ≡ true) (many : ℕ) (most : many ≡ most_messages) (d : Divided)
      (says : divided_as d ≡ divided_of (run_from limit many (take w.written out) 0)) where
    same : run_from limit many (take w.written out) 0 ≡ written_run newest w out
    same = ap₂ (λ (n k : ℕ). run_from n k (take w.written out) 0) (sym newest_most) most

    counted : d.count ≡ length (written_run newest w out).lengths
    counted = ap (λ (x : F.Divided). x.count) (says ∙ ap divided_of same)

    stops : stop_of d.stop ≡ (written_run newest w out).stop
    stops = ap (λ (x : F.Divided). x.stop) (says ∙ ap divided_of same)

    not_found : found newest w out ≡ refused 15 0 → closing newest w out ≡ refused 15 0
    unfolding closing
    not_found e = simp (good, e)

    pub closing-count : (d.count ≡ w.messages → ⊥) → closing newest w out ≡ refused 15 0
    unfolding found
    closing-count h = not_found (go (ended (written_run newest w out).stop) refl)
      where
        go : (t : Bool) → ended (written_run newest w out).stop ≡ t → found newest w out ≡ refused 15 0
        go true e = simp (e, ne_eqb (length (written_run newest w out).lengths) w.messages (λ z. h (counted ∙ z)))
        go false e = simp e

    pub closing-stopped : (d.stop ≡ AtEnd → ⊥) → closing newest w out ≡ refused 15 0
    unfolding found
    closing-stopped h = not_found (simp (sym (ap ended stops) ∙ not_ended d.stop h))

    -- at the end the lengths kept are those of the messages, and come to what was written
    module _ (e : d.stop ≡ AtEnd) (n : d.count ≡ w.messages) (kept₀ kept : List ℕ)
        (k : kept ≡ stored kept₀ (run_from limit many (take w.written out) 0).lengths) where
      end : ended (written_run newest w out).stop ≡ true
      end = sym (ap ended stops) ∙ ap (λ (x : Stop). ended (stop_of x)) e

      kept-is : kept ≡ (written_run newest w out).lengths ++ drop (length (written_run newest w out).lengths) kept₀
      unfolding stored
      kept-is = k ∙ ap (λ (r : Run.Run). r.lengths ++ drop (length r.lengths) kept₀) same

      pub closing-there : w.messages ≤ length kept
      closing-there =
          let ns = (written_run newest w out).lengths in
          let many = counted in
          omega (arith, ap length kept-is, length-append ns (drop (length ns) kept₀))

      pub closing_end : closing newest w out ≡ tailing newest (take w.messages kept) w.written (length out)
      unfolding closing found
      closing_end =
          let ns = (written_run newest w out).lengths in
          let count : length ns ≡ w.messages = sym counted ∙ n in
          let d = run_divides newest most_messages (take w.written out) end in
          let within = (usable_true w (length out) good).1 in
          let comes : come newest ns w.written ≡ true
          = taken_come newest d.messages ns w.written d.each d.lengths (d.ends ∙ length-take-le w.written out within) in
          let kept_here : ns ≡ take w.messages kept
          = sym (ap (take w.messages) kept-is ∙ take_at ns (drop (length ns) kept₀) w.messages count) in
          let judged : closing newest w out ≡ room_for w.written (length out) (tail_text newest ns)
          = simp (good, end, eq-eqb (length ns) w.messages count) in
          judged
          ∙ sym (tailing-room newest ns w.written (length out) d.few comes)
          ∙ ap (λ (l : List ℕ). tailing newest l w.written (length out)) kept_here

-- the state after a tail that was put, or its refusal
module _ (w : Recorder) (a : Answer (List ℕ)) where
  pub finish_refused : {k p : ℕ} → refused k p ≡ length_after w.written a → refused k p ≡ closed_by w a
  finish_refused {k} {p} e = go a e
    where
      go : (x : Answer (List ℕ)) → refused k p ≡ length_after w.written x → refused k p ≡ closed_by w x
      go (fine text) q = absurd (not_fine q)
      go (refused j v) q = cc

  pub finish_closed : (n : ℕ) → fine n ≡ length_after w.written a
      → fine (record { written = n; messages = w.messages; closed = true }) ≡ closed_by w a
  finish_closed n e = go a e
    where
      go : (x : Answer (List ℕ)) → fine n ≡ length_after w.written x
          → fine (record { written = n; messages = w.messages; closed = true }) ≡ closed_by w x
      go (fine text) q = ap (λ (k : ℕ). fine (record { written = k; messages = w.messages; closed = true })) (fine_eq q)
      go (refused k p) q = absurd (not_fine (sym q))
