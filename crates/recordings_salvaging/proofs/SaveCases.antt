-- How salvage answers, by what putting the tail answered: lengths that dividing found are taken, so that it is refused
-- for room alone; and messages put before their tail are the new recording.
use Prim.Native.Nat.{ℕ, ◌+◌, ◌-◌, ◌≤◌}
use mathlib.Core.Path.{◌≡◌, refl, ap, ap₂, sym, ◌∙◌}
use mathlib.Core.Bool.{Bool, true, false}
use mathlib.Core.List.{List, ◌++◌, append_assoc}
use native.Mathlib.Omega.{arith}
use native.Mathlib.Nat.{zero-add}
use lib.ListN.{length, take, drop, length-append, length-take}
use lib.Seq.{take_at, drop_at, length-take-le}
use lib.Dec.{leb}
use borrow.Author.Tests.{leb-true}
use Rattle.sim0mq.specs.Answer.{Answer, fine, refused}
use Rattle.sim0mq.specs.Message.{limit}
use Rattle.sim0mq.specs.Table.{stored, placed}
use Rattle.sim0mq.proofs.Answers.{not_fine, fine_eq}
use Rattle.sim0mq.proofs.PlaceLaws.{placed_length}
use Rattle.sim0mq_buffers.specs.Placing.{put_in}
use Rattle.sim0mq_buffers.proofs.PlaceLaws.{put_fits}
use Rattle.writing_opening.specs.Opening.{buffer_after}
use Rattle.dividing.specs.Run.{Run, run_from, stretches, total}
use Rattle.dividing.proofs.RunLaws.{run_is}
use Rattle.recordings_fronts.specs.Fronts as F
use Rattle.recordings_fronts.specs.Fronts.{divided_as, divided_of}
use Rattle.recordings_fronts.specs.declared.Divided.{Divided}
use Rattle.recordings_format.specs.Edition.{newest, most_messages}
use Rattle.recordings_format.specs.Text.{tail_text}
use Rattle.recordings_format.proofs.EditionLaws.{newest_most}
use Rattle.recordings_format.proofs.SoundLaws.{stretches_long}
use Rattle.recordings_tails.specs.Tails.{room_for, tailing, length_after}
use Rattle.recordings_tails.proofs.TailLaws.{taken_come, tailing-room}
use Rattle.recordings_salvaging.specs.Salvage.{rescued, salvage_text, report, salvage, output_after}
use Rattle.recordings_salvaging.specs.Saving.{report_as, Saveable}

-- a text put before the one that stands where it ends
before_tail : (out one front tail : List ℕ) (end : ℕ) → length front ≡ end → one ≡ placed out end tail
    → end + length tail ≤ length out → put_in one 0 front ≡ stored out (front ++ tail)
unfolding placed stored
before_tail out one front tail end long is fits =
    let sized : length one ≡ length out = ap length is ∙ placed_length out end tail fits in
    let rest = tail ++ drop (end + length tail) out in
    let start : length (take end out) ≡ end = length-take-le end out (omega arith) in
    let after : drop (0 + length front) one ≡ rest
    =
    ap (λ (k : ℕ). drop k one) (zero-add (length front) ∙ long)
    ∙ ap (drop end) is
    ∙ drop_at (take end out) rest end start in
    let both : end + length tail ≡ length (front ++ tail) = omega (arith, length-append front tail) in
    put_fits one 0 front (omega arith)
    ∙ ap (λ (l : List ℕ). front ++ l) after
    ∙ sym (append_assoc front tail (drop (end + length tail) out))
    ∙ ap (λ (k : ℕ). (front ++ tail) ++ drop k out) both

-- what dividing the file found
pub save_found : (s : List ℕ) (d : Divided) (many : ℕ) (kept₀ kept : List ℕ) → many ≡ most_messages
    → divided_as d ≡ divided_of (run_from limit many s 0) → kept ≡ stored kept₀ (run_from limit many s 0).lengths → Saveable s d kept
unfolding stored
save_found s d many kept₀ kept m e k =
    let same : run_from limit many s 0 ≡ rescued newest s
    = ap₂ (λ (n j : ℕ). run_from n j s 0) (sym newest_most) m in
    let says : divided_as d ≡ divided_of (rescued newest s) = e ∙ ap divided_of same in
    let ns = (rescued newest s).lengths in
    record {
      says = says;
      kept =
          ap (take d.count) (k ∙ ap (λ (r : Run). r.lengths ++ drop (length r.lengths) kept₀) same)
          ∙ take_at ns (drop (length ns) kept₀) d.count (sym (ap (λ (x : F.Divided). x.count) says));
    }

module _ {s : List ℕ} {d : Divided} {lengths : List ℕ} (v : Saveable s d lengths) where
  abbrev ns : List ℕ
  ns = (rescued newest s).lengths

  counted : d.count ≡ length ns
  counted = ap (λ (x : F.Divided). x.count) v.says

  ended : d.end ≡ total ns
  ended = ap (λ (x : F.Divided). x.end) v.says

  pub save_within : d.end ≤ length s
  save_within = let e = ended in omega (arith, (run_is newest.most most_messages s 0 (omega arith)).within)

  pub save_there : d.count ≤ length lengths
  save_there = let e = counted in omega (arith, length-take d.count lengths, ap length v.kept)

  text_is : salvage_text newest s ≡ take d.end s ++ tail_text newest ns
  unfolding salvage_text
  text_is = ap (λ (n : ℕ). take n s ++ tail_text newest ns) (sym ended)

  text_long : length (salvage_text newest s) ≡ d.end + length (tail_text newest ns)
  text_long =
      omega (
        arith,
        ap length text_is,
        length-append (take d.end s) (tail_text newest ns),
        length-take-le d.end s save_within,
      )

  -- the tail is refused for room alone, exactly as the whole is
  module _ (room : ℕ) where
    tail-is : tailing newest (take d.count lengths) d.end room ≡ room_for d.end room (tail_text newest ns)
    tail-is =
        let run = run_is newest.most most_messages s 0 (omega arith) in
        let comes
        =
        taken_come newest (stretches s 0 ns) ns d.end run.each (stretches_long s 0 ns run.within) (sym ended) in
        ap (λ (l : List ℕ). tailing newest l d.end room) v.kept
        ∙ tailing-room newest ns d.end room run.few comes

    -- whether there is room for both
    abbrev roomy : Bool
    roomy = leb (d.end + length (tail_text newest ns)) room

    granted : roomy ≡ true
        → (tailing newest (take d.count lengths) d.end room ≡ fine (tail_text newest ns))
        × (salvage newest room s ≡ fine (report newest s))
    unfolding room_for salvage
    granted h = (tail-is ∙ simp h, simp (text_long, h))

    short : roomy ≡ false
        → (tailing newest (take d.count lengths) d.end room ≡ refused 14 0)
        × (salvage newest room s ≡ refused 14 0)
    unfolding room_for salvage
    short h = (tail-is ∙ simp h, simp (text_long, h))

  -- what putting the tail answered, and the buffer then
  module _ (out : List ℕ) {one : List ℕ}
      (left : one ≡ buffer_after out d.end (tailing newest (take d.count lengths) d.end (length out))) where
    abbrev tail : Answer (List ℕ)
    tail = tailing newest (take d.count lengths) d.end (length out)

    pub save-refused : {k p : ℕ} → refused k p ≡ length_after d.end tail
        → (refused k p ≡ salvage newest (length out) s) × (one ≡ output_after newest s out (salvage newest (length out) s))
    unfolding output_after
    save-refused {k} {p} said = go (roomy (length out)) refl
      where
        go : (t : Bool) → roomy (length out) ≡ t
            → (refused k p ≡ salvage newest (length out) s)
            × (one ≡ output_after newest s out (salvage newest (length out) s))
        go true h =
            let g = granted (length out) h in
            absurd (not_fine (said ∙ ap (length_after d.end) g.0))
        go false h =
            let g = short (length out) h in
            let same : ◌≡◌ {A = Answer ℕ} (refused k p) (refused 14 0) = said ∙ ap (length_after d.end) g.0 in
            let number : k ≡ 14 = cc in
            let place : p ≡ 0 = cc in (
              ap₂ refused number place ∙ sym g.1,
              left ∙ ap (buffer_after out d.end) g.0 ∙ sym (ap (output_after newest s out) g.1),
            )

    pub save-saved : {n : ℕ} {two : List ℕ} → fine n ≡ length_after d.end tail → two ≡ put_in one 0 (take d.end s)
        → (fine (report_as (record { length = n; kept = d.count; dropped = length s - d.end; stop = d.stop }))
        ≡ salvage newest (length out) s)
        × (two ≡ output_after newest s out (salvage newest (length out) s))
    unfolding output_after report
    save-saved {n} {two} said put = go (roomy (length out)) refl
      where
        go : (t : Bool) → roomy (length out) ≡ t
            → (fine (report_as (record { length = n; kept = d.count; dropped = length s - d.end; stop = d.stop }))
            ≡ salvage newest (length out) s)
            × (two ≡ output_after newest s out (salvage newest (length out) s))
        go false h =
            let g = short (length out) h in
            absurd (not_fine (sym (said ∙ ap (length_after d.end) g.0)))
        go true h =
            let g = granted (length out) h in
            let fits = leb-true (d.end + length (tail_text newest ns)) (length out) h in
            let placed_tail : one ≡ placed out d.end (tail_text newest ns) = left ∙ ap (buffer_after out d.end) g.0 in
            let long : length (take d.end s) ≡ d.end = length-take-le d.end s save_within in
            let sized : n ≡ length (salvage_text newest s) = fine_eq (said ∙ ap (length_after d.end) g.0) ∙ sym text_long in
            let whole : two ≡ stored out (salvage_text newest s)
            =
            put
            ∙ before_tail out one (take d.end s) (tail_text newest ns) d.end long placed_tail fits
            ∙ ap (stored out) (sym text_is) in (
              (λ i.
                  fine (record { bytes = sized i; kept = counted i; dropped = length s - ended i; stop = (v.says i).stop }))
                  ∙ sym g.1,
              whole ∙ sym (ap (output_after newest s out) g.1),
            )
