-- What request 7 promises holds of the definitions: a run is of messages, is the longest, and stops at a recording's
-- index.
use Prim.Native.Nat.{ℕ, ◌+◌, ◌<◌}
use mathlib.Core.Path.{◌≡◌, refl, ap, sym, ◌∙◌}
use mathlib.Core.Bool.{Bool, true, false}
use mathlib.Core.List.{List, ◌++◌, map}
use native.Mathlib.Omega.{arith}
use lib.Dec.{leb, ltb}
use lib.ListN.{length, take, length-map}
use lib.Seq.{take_at}
use borrow.Author.Tests.{leb-false, lt-leb, ltb-true, ltb-false}
use Rattle.sim0mq.specs.Answer.{Answer, refused}
use Rattle.sim0mq.specs.Allowed.{joined}
use Rattle.sim0mq.proofs.Answers.{not_fine}
use Rattle.dividing.specs.Run.{Run, stretches, total}
use Rattle.dividing.proofs.RunLaws.{run_is, stretches_joined}
use Rattle.dividing.proofs.Promises.{run_is_longest}
use Rattle.recordings_format.specs.Edition.{Edition, most_messages}
use Rattle.recordings_format.specs.Text.{tail_text, recording_text, IsRecording}
use Rattle.recordings_format.proofs.EditionLaws.{listed_row}
use Rattle.recordings_format.proofs.TextLaws.{joined_long}
use Rattle.recordings_format.proofs.SoundLaws.{stretches_long}
use Rattle.recordings_salvaging.specs.Salvage.{rescued, salvage_text, Report, report, salvage, output_after}
use Rattle.recordings_salvaging.specs.Promises.{SalvagedIsARecording, SalvageKeepsTheLongest, RecordingComesBack, IntactComesBack, IsShort, RefusedForRoomAlone}
use Rattle.recordings_salvaging.proofs.BackLaws.{back_long, back_index, back_most}

pub salvaged_is_a_recording : SalvagedIsARecording
unfolding salvage_text report
salvaged_is_a_recording e s listed =
    let run = run_is e.most most_messages s 0 (omega arith) in
    let ns = (rescued e s).lengths in
    let ms = stretches s 0 ns in
    let within = run.within in
    let lengths : map length ms ≡ ns = stretches_long s 0 ns within in
    let many : length ms ≡ length ns = sym (length-map ms length) ∙ ap length lengths in
    let few = run.few in
    let long : length (joined ms) ≡ total ns = joined_long ms ∙ ap total lengths in
    record {
      run = run;
      recording =
          record {
            listed = listed;
            each = run.each;
            few = omega arith;
            whole =
                ap (λ (l : List ℕ). joined ms ++ tail_text e l) lengths
                ∙ ap (λ (l : List ℕ). l ++ tail_text e ns) (stretches_joined s 0 ns);
          };
      bytes = refl;
      kept = sym many;
      dropped = omega arith;
    }

pub salvage_keeps_the_longest : SalvageKeepsTheLongest
salvage_keeps_the_longest e ms rest each few = run_is_longest e.most most_messages ms rest each few

-- whatever the run over a recording stopped for, it is over the messages
back : (e f : Edition) (ms : List (List ℕ)) (s : List ℕ) → IsRecording e ms s
    → length s ≡ total (map length ms) + length (tail_text e (map length ms)) → (rescued f s).lengths ≡ map length ms
    → (salvage_text f s ≡ recording_text f ms)
    × ((report f s).kept ≡ length ms)
    × ((report f s).dropped ≡ length (tail_text e (map length ms)))
unfolding salvage_text report
back e f ms s i sized q =
    let ns = map length ms in
    let front : take (total ns) s ≡ joined ms
    = ap (take (total ns)) (sym i.whole) ∙ take_at (joined ms) (tail_text e ns) (total ns) (joined_long ms) in (
      ap (λ (l : List ℕ). take (total l) s ++ tail_text f l) q ∙ ap (λ (l : List ℕ). l ++ tail_text f ns) front,
      ap length q ∙ length-map ms length,
      omega (arith, ap total q),
    )

pub recording_comes_back : RecordingComesBack
unfolding report
recording_comes_back e f ms s listed wide i =
    let some = (listed_row f listed).some in
    let index = back_index e f ms s wide some i in
    let most = back_most e f ms s wide some i in
    let b = back e f ms s i (back_long e f ms s wide some i) (either some (ltb (length ms) most_messages) refl) in
    record {
      text = b.0;
      kept = b.1;
      dropped = b.2;
      index = λ h. ap (λ (r : Run). r.stop) (index h);
      most = λ h. ap (λ (r : Run). r.stop) (most h);
    }
  where
    either : 0 < f.most → (t : Bool) → ltb (length ms) most_messages ≡ t → (rescued f s).lengths ≡ map length ms
    either some true h =
        ap (λ (r : Run). r.lengths) (back_index e f ms s wide some i (ltb-true (length ms) most_messages h))
    either some false h =
        let few = i.few in
        let over = ltb-false (length ms) most_messages h in
        ap (λ (r : Run). r.lengths) (back_most e f ms s wide some i (omega arith))

pub intact_comes_back : IntactComesBack
intact_comes_back e ms s i = (recording_comes_back e e ms s i.listed (omega arith) i).text ∙ i.whole

pub refused_for_room_alone : RefusedForRoomAlone
unfolding salvage output_after
refused_for_room_alone = (
  λ e room s out number place q. short e room s out number place (leb (length (salvage_text e s)) room) refl q,
  λ e room s h. simp (lt-leb (length (salvage_text e s)) room h),
)
  where
    short : (e : Edition) (room : ℕ) (s out : List ℕ) (number place : ℕ) (t : Bool) → leb (length (salvage_text e s)) room ≡ t
        → salvage e room s ≡ refused number place → IsShort e room s out number place
    short e room s out number place true h q = absurd (not_fine {a = report e s} (sym q ∙ simp h))
    short e room s out number place false h q =
        let same : ◌≡◌ {A = Answer Report} (refused 14 0) (refused number place) = sym (simp h) ∙ q in
        let number_is : 14 ≡ number = cc in
        let place_is : 0 ≡ place = cc in
        record {
          numbered = sym number_is;
          placed = sym place_is;
          short = leb-false (length (salvage_text e s)) room h;
          kept = simp h;
        }
