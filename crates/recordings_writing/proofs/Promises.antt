-- The promises of writing a recording hold: closing finds the messages again that were added, since they divide the
-- bytes written in one way.
use Prim.Native.Nat.{ℕ, ◌+◌}
use mathlib.Core.Path.{◌≡◌, ap, sym, ◌∙◌, subst}
use mathlib.Core.Bool.{Bool}
use mathlib.Core.List.{List, ◌++◌, map}
use native.Mathlib.Omega.{arith}
use lib.ListN.{length, take, drop, length-map}
use lib.Seq.{take_at}
use Rattle.sim0mq.specs.Answer.{Answer}
use Rattle.writing_opening.specs.Opening.{buffer_after}
use Rattle.recordings_format.specs.Text.{tail_text, recording_text}
use Rattle.recordings_writing.specs.Recorder.{closing, after_adding, after_closing}
use Rattle.recordings_writing.specs.Promises.{ClosedIsARecording, FinishedIsOfTheGiven, ClosingWantsOnlyRoom, RefusedCallChangesNothing, RefusalsOfAdding, RefusalsOfClosing}
use Rattle.recordings_writing.proofs.StateLaws.{closing_fine, written_after}
use Rattle.recordings_writing.proofs.RefusalLaws.{ToldAdding, adding_told, ToldClosing, closing_told}
use Rattle.recordings_writing.proofs.HistoryLaws.{content, known, closing_known}

pub closed_is_a_recording : ClosedIsARecording
closed_is_a_recording e w out text listed q =
    let c = closing_fine e w out text q in
    let d = c.divided in
    let ms = d.messages in
    let tail : tail_text e (map length ms) ≡ text = ap (tail_text e) d.lengths ∙ c.same in
    let many : length ms ≡ w.messages = sym (length-map ms length) ∙ ap length d.lengths ∙ c.many in
    let few = d.few in
    let placed : take (w.written + length text) (buffer_after out w.written (closing e w out)) ≡ take w.written out ++ text
    =
    ap (λ a. take (w.written + length text) (buffer_after out w.written a)) q ∙ written_after out w.written text c.within in
    let whole : recording_text e ms ≡ take w.written out ++ text
    = ap (λ (l : List ℕ). l ++ tail_text e (map length ms)) d.whole ∙ ap (λ (l : List ℕ). take w.written out ++ l) tail in
    record {
      messages = ms;
      divides = d.whole;
      many = many;
      recording =
          record {
            listed = listed;
            each = d.each;
            few = omega (arith, ap length d.lengths, length-map ms length);
            whole = whole ∙ sym placed;
          };
    }

pub finished_is_of_the_given : FinishedIsOfTheGiven
finished_is_of_the_given e out p s listed h f =
    let k = known e out p h in
    let w = p.recorder in
    let c = content e w.closed p.given in
    let front : take w.written p.buffer ≡ c
    = ap (take w.written) k.holds ∙ take_at c (drop w.written out) w.written (sym k.written) in
    let whole : c ≡ recording_text e p.given = ap (λ (b : Bool). content e b p.given) f.closed in
    record { listed = listed; each = k.each; few = k.few; whole = sym (f.bytes ∙ front ∙ whole) }

pub closing_wants_only_room : ClosingWantsOnlyRoom
closing_wants_only_room e out p h o = closing_known e out p (known e out p h) o

pub refused_call_changes_nothing : RefusedCallChangesNothing
refused_call_changes_nothing e w out m number place =
    record {
      added = λ q. (ap (buffer_after out w.written) q, ap (λ a. (after_adding w a).recorder) q);
      closed = λ q. (ap (buffer_after out w.written) q, ap (λ a. (after_closing w a).recorder) q);
    }

pub refusals_of_adding : RefusalsOfAdding
refusals_of_adding e w room m number place q = subst (λ (a : Answer (List ℕ)). ToldAdding m a) q (adding_told e w room m)

pub refusals_of_closing : RefusalsOfClosing
refusals_of_closing e w out number place q = subst (λ (a : Answer (List ℕ)). ToldClosing a) q (closing_told e w out)
