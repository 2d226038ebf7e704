-- How a state and a message are judged, case by case; what a granted call says of the state that it took, and what it
-- leaves in the buffer.
use Prim.Native.Nat.{ℕ, ◌+◌, ◌≤◌, ◌<◌}
use mathlib.Core.Path.{◌≡◌, ap, sym, ◌∙◌}
use mathlib.Core.Bool.{true, false, not, ◌&&◌, false≢true}
use mathlib.Core.List.{List, ◌++◌, map, append_assoc}
use native.Mathlib.Omega.{arith}
use lib.ListN.{length, take, drop, length-append, take-append-drop}
use lib.Seq.{take_at, take_all, length-take-le, drop-append-add, drop-drop}
use lib.Dec.{leb, ltb, eqb}
use borrow.Author.Tests.{leb-true, ltb-true, eqb-true, not-true, lt-ltb, le-ltb}
use Rattle.sim0mq.specs.Answer.{Answer, fine, refused}
use Rattle.sim0mq.specs.Table.{placed}
use Rattle.sim0mq.specs.Message.{no_table, message, reading}
use Rattle.std.specs.Prelude.{Ok, Err}
use Rattle.sim0mq.specs.Views.{number_of}
use Rattle.sim0mq.specs.declared.Refusal.{Refusal}
use Rattle.sim0mq.specs.Allowed.{Each, joined}
use Rattle.sim0mq.proofs.Answers.{guarded, bind_fine, fine_eq, and_true}
use Rattle.writing_opening.specs.Opening.{buffer_after}
use Rattle.reading.specs.Answers.{answer_as, answered}
use Rattle.reading.proofs.SaidLaws.{found_at, fault_at}
use Rattle.reading.specs.declared.Answer as R
use Rattle.reading.specs.declared.Found.{Found}
use Rattle.dividing.specs.Front.{Taken}
use Rattle.dividing.specs.Run.{Stop, at_end, at_most, at_fault, run_from, stretches, total}
use Rattle.dividing.specs.Promises.{StoppedFor}
use Rattle.dividing.proofs.RunLaws.{stretches_joined, run_is}
use Rattle.recordings_format.specs.Edition.{Edition, newest, most_messages}
use Rattle.recordings_format.specs.Text.{tail_text}
use Rattle.recordings_format.proofs.EditionLaws.{newest_most}
use Rattle.recordings_format.proofs.SoundLaws.{stretches_long}
use Rattle.recordings_tails.specs.Tails.{room_for}
use Rattle.recordings_writing.specs.declared.Recorder.{Recorder}
use Rattle.recordings_writing.specs.Recorder.{usable, adding, ended, written_run, found, closing}

-- what a call tells of an answer, it tells of the one that is the same
pub told : (f : Answer (List ℕ) → Answer Recorder) (out last : List ℕ) (at : ℕ) (r : Answer Recorder) {a b : Answer (List ℕ)} → a ≡ b
    → r ≡ f b → last ≡ buffer_after out at b → (r ≡ f a) × (last ≡ buffer_after out at a)
told f out last at r e said left = (said ∙ sym (ap f e), left ∙ sym (ap (buffer_after out at) e))

-- adding: a is what judging the message answered
module _ (w : Recorder) (room : ℕ) (m : List ℕ) where
  pub adding_state : usable w room ≡ false → adding newest w room m ≡ refused 15 0
  unfolding adding
  adding_state e = simp e

  module _ (good : usable w room ≡ true) where
    pub adding-many : most_messages ≤ w.messages → adding newest w room m ≡ refused 15 0
    unfolding adding
    adding-many h = simp (good, le-ltb w.messages most_messages h)

    module _ (few : w.messages < most_messages) (a : R.Answer) (told : answer_as a ≡ answered (reading no_table m)) where
      read : message newest.most no_table m ≡ reading no_table m
      unfolding reading
      read = ap (λ (most : ℕ). message most no_table m) newest_most

      pub adding-fault : (r : Refusal) → a.said ≡ Err r → adding newest w room m ≡ refused (number_of r.reason) r.place
      unfolding adding
      adding-fault r e =
          simp (good, lt-ltb w.messages most_messages few, read ∙ fault_at (reading no_table m) a told r e)

      pub adding_text : (f : Found) → a.said ≡ Ok f → adding newest w room m ≡ room_for w.written room m
      unfolding adding
      adding_text f e =
          simp (good, lt-ltb w.messages most_messages few, read ∙ (found_at (reading no_table m) a told f e).1)

-- the room
pub room_fine : (written room : ℕ) (text v : List ℕ) → room_for written room text ≡ fine v
    → (text ≡ v) × (written + length text ≤ room)
unfolding room_for
room_fine written room text v q =
    let a = guarded (leb (written + length text) room) _ _ _ q in
    (fine_eq a.1, leb-true _ _ a.0)

pub usable_true : (w : Recorder) (room : ℕ) → usable w room ≡ true → (w.closed ≡ false) × (w.written ≤ room)
unfolding usable
usable_true w room q =
    let a = and_true (not w.closed) (leb w.written room) q in
    (not-true w.closed a.0, leb-true _ _ a.1)

pub record Added (e : Edition) (w : Recorder) (room : ℕ) (m text : List ℕ) : Type 0 where
  pub opened : w.closed ≡ false
  pub within : w.written ≤ room
  pub few : w.messages < most_messages
  pub taken : Taken e.most m
  pub same : m ≡ text
  pub fits : w.written + length m ≤ room

pub adding_fine : (e : Edition) (w : Recorder) (room : ℕ) (m text : List ℕ) → adding e w room m ≡ fine text
    → Added e w room m text
unfolding adding
adding_fine e w room m text q =
    let a = guarded (usable w room && ltb w.messages most_messages) _ _ _ q in
    let b = and_true (usable w room) (ltb w.messages most_messages) a.0 in
    let u = usable_true w room b.0 in
    let c = bind_fine (message e.most no_table m) _ a.1 in
    let r = room_fine w.written room m text c.2 in
    record {
      opened = u.0;
      within = u.1;
      few = ltb-true _ _ b.1;
      taken = (c.0, c.1);
      same = r.0;
      fits = r.1;
    }

-- a run that came to the end: its lengths come to all of the bytes, which are its messages
at_end_lem : (most many : ℕ) (s : List ℕ) (count end : ℕ) (w : Stop) → ended w ≡ true → StoppedFor most many s count end w
    → end ≡ length s
at_end_lem most many s count end at_end h k = k
at_end_lem most many s count end at_most h k = absurd (false≢true h)
at_end_lem most many s count end (at_fault j p) h k = absurd (false≢true h)

pub record Divided (e : Edition) (many : ℕ) (s : List ℕ) (ns : List ℕ) : Type 0 where
  pub few : length ns ≤ many
  pub ends : total ns ≡ length s
  pub messages : List (List ℕ)
  pub each : Each (Taken e.most) messages
  pub whole : joined messages ≡ s
  pub lengths : map length messages ≡ ns

pub run_divides : (e : Edition) (many : ℕ) (s : List ℕ) → ended (run_from e.most many s 0).stop ≡ true
    → Divided e many s (run_from e.most many s 0).lengths
run_divides e many s h =
    let r = run_from e.most many s 0 in
    let i = run_is e.most many s 0 (omega arith) in
    let ns = r.lengths in
    let end = at_end_lem e.most many s (length ns) (0 + total ns) r.stop h i.why in
    record {
      few = i.few;
      ends = omega arith;
      messages = stretches s 0 ns;
      each = i.each;
      whole = stretches_joined s 0 ns ∙ take_all (total ns) s (omega arith);
      lengths = stretches_long s 0 ns i.within;
    }

pub record Closed (e : Edition) (w : Recorder) (out text : List ℕ) : Type 0 where
  pub opened : w.closed ≡ false
  pub within : w.written ≤ length out
  pub lengths : List ℕ
  pub divided : Divided e most_messages (take w.written out) lengths
  pub many : length lengths ≡ w.messages
  pub same : tail_text e lengths ≡ text
  pub fits : w.written + length text ≤ length out

pub closing_fine : (e : Edition) (w : Recorder) (out text : List ℕ) → closing e w out ≡ fine text → Closed e w out text
unfolding closing found
closing_fine e w out text q =
    let run = written_run e w out in
    let a = guarded (usable w (length out)) _ _ _ q in
    let u = usable_true w (length out) a.0 in
    let b = bind_fine (found e w out) (λ ns. room_for w.written (length out) (tail_text e ns)) a.1 in
    let c = guarded (ended run.stop) _ _ _ b.1 in
    let d = guarded (eqb (length run.lengths) w.messages) _ _ _ c.1 in
    let r = room_fine w.written (length out) (tail_text e b.0) text b.2 in
    let fits = r.1 in
    record {
      opened = u.0;
      within = u.1;
      lengths = run.lengths;
      divided = run_divides e most_messages (take w.written out) c.0;
      many = eqb-true _ _ d.0;
      same = ap (tail_text e) (fine_eq d.1) ∙ r.0;
      fits = omega (arith, ap length r.0);
    }

-- a text placed after what was written
pub placed_after : (content out text : List ℕ) (at : ℕ) → at ≡ length content
    → placed (content ++ drop at out) at text ≡ (content ++ text) ++ drop (at + length text) out
unfolding placed
placed_after content out text at e =
    let whole = content ++ drop at out in
    let front : take at whole ≡ content = take_at content (drop at out) at (sym e) in
    let back : drop (at + length text) whole ≡ drop (at + length text) out
    =
    ap (λ (k : ℕ). drop (k + length text) whole) e
    ∙ drop-append-add content (drop at out) (length text)
    ∙ drop-drop (length text) at out in
    ap (λ (l : List ℕ). l ++ (text ++ drop (at + length text) whole)) front
    ∙ ap (λ (l : List ℕ). content ++ (text ++ l)) back
    ∙ sym (append_assoc content text (drop (at + length text) out))

pub written_after : (out : List ℕ) (at : ℕ) (text : List ℕ) → at ≤ length out
    → take (at + length text) (placed out at text) ≡ take at out ++ text
written_after out at text h =
    let before = take at out in
    let long : length before ≡ at = length-take-le at out h in
    ap (λ (l : List ℕ). take (at + length text) (placed l at text)) (sym (take-append-drop at out))
    ∙ ap (take (at + length text)) (placed_after before out text at (sym long))
    ∙ take_at (before ++ text) (drop (at + length text) out) (at + length text) (omega (arith, length-append before text))
