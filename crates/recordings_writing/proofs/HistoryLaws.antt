-- What is known at each point of a history: the buffer holds the messages given, and after closing the recording of
-- them; beyond it, what it held before.
use Prim.Native.Nat.{ℕ, ◌+◌, ◌≤◌}
use mathlib.Core.Path.{◌≡◌, refl, ap, sym, ◌∙◌}
use mathlib.Core.Bool.{Bool, false, cond}
use mathlib.Core.List.{List, [], ◌∷◌, ◌++◌, map, flat_map, append_assoc, append-nil}
use native.Mathlib.Omega.{arith}
use lib.ListN.{length, take, drop, length-append, length-drop, length-map}
use lib.Seq.{take_at}
use borrow.Author.Tests.{le-leb, eq-eqb}
use Rattle.sim0mq.specs.Answer.{Answer, fine, refused}
use Rattle.sim0mq.specs.Allowed.{Each, none, more, joined}
use Rattle.writing_opening.specs.Opening.{buffer_after}
use Rattle.dividing.specs.Front.{Taken}
use Rattle.dividing.specs.Run.{at_end, run_from}
use Rattle.dividing.proofs.Promises.{run_over_all}
use Rattle.recordings_format.specs.Edition.{Edition, most_messages}
use Rattle.recordings_format.specs.Text.{tail_text, recording_text}
use Rattle.recordings_tails.specs.Tails.{room_for}
use Rattle.recordings_writing.specs.Recorder.{usable, adding, found, closing, after_adding, after_closing}
use Rattle.recordings_writing.specs.History.{Point, adds, closes, given_after, next, History, began, called}
use Rattle.recordings_writing.proofs.StateLaws.{room_fine, Added, adding_fine, closing_fine, placed_after}

-- what a point's buffer holds of the recording
abbrev pub content : Edition → Bool → List (List ℕ) → List ℕ
content e closed ms = cond closed (recording_text e ms) (joined ms)

pub record Known (e : Edition) (out : List ℕ) (p : Point) : Type 0 where
  pub each : Each (Taken e.most) p.given
  pub few : length p.given ≤ most_messages
  pub many : p.recorder.messages ≡ length p.given
  pub written : p.recorder.written ≡ length (content e p.recorder.closed p.given)
  pub within : p.recorder.written ≤ length out
  pub holds : p.buffer ≡ content e p.recorder.closed p.given ++ drop p.recorder.written out

-- one message more at the end
pub joined_more : (ms : List (List ℕ)) (m : List ℕ) → joined (ms ++ (m ∷ [])) ≡ joined ms ++ m
unfolding flat_map
joined_more [] m = append-nil m
joined_more (x ∷ ms) m = ap (λ (l : List ℕ). x ++ l) (joined_more ms m) ∙ sym (append_assoc x (joined ms) m)

each_more : {P : List ℕ → Type 0} (ms : List (List ℕ)) (m : List ℕ) → Each P ms → P m → Each P (ms ++ (m ∷ []))
each_more [] m none t = more t none
each_more (x ∷ ms) m (more a b) t = more a (each_more ms m b t)

-- the buffer is as long as it was
pub known_long : {e : Edition} {out : List ℕ} {p : Point} → Known e out p → length p.buffer ≡ length out
known_long {e} {out} {p} k =
    let within = k.within in
    let written = k.written in
    let c = content e p.recorder.closed p.given in
    omega (arith, ap length k.holds, length-append c (drop p.recorder.written out), length-drop p.recorder.written out)

-- at an open point it holds the messages given
pub known_open : (e : Edition) (out : List ℕ) (p : Point) → Known e out p → p.recorder.closed ≡ false
    → (p.recorder.written ≡ length (joined p.given)) × (p.buffer ≡ joined p.given ++ drop p.recorder.written out)
known_open e out p k o =
    let same : content e p.recorder.closed p.given ≡ joined p.given = ap (λ (b : Bool). content e b p.given) o in
    (k.written ∙ ap length same, k.holds ∙ ap (λ (l : List ℕ). l ++ drop p.recorder.written out) same)

-- closing finds the messages again
pub closing_known : (e : Edition) (out : List ℕ) (p : Point) → Known e out p → p.recorder.closed ≡ false
    → closing e p.recorder p.buffer
    ≡ room_for p.recorder.written (length p.buffer) (tail_text e (map length p.given))
unfolding closing found usable
closing_known e out p k o =
    let w = p.recorder in
    let ms = p.given in
    let opened = known_open e out p k o in
    let front : take w.written p.buffer ≡ joined ms
    =
    ap (take w.written) opened.1
    ∙ take_at (joined ms) (drop w.written out) w.written (sym opened.0) in
    let run : run_from e.most most_messages (take w.written p.buffer) 0
    ≡ record { lengths = map length ms; stop = at_end }
    =
    ap (λ (l : List ℕ). run_from e.most most_messages l 0) front
    ∙ run_over_all e.most most_messages ms k.each k.few in
    let many = k.many in
    let within = k.within in
    let long = known_long k in
    simp (
      o,
      le-leb w.written (length p.buffer) (omega arith),
      run,
      eq-eqb (length (map length ms)) w.messages (omega (arith, length-map ms length)),
    )

-- the points after a call that was answered so
abbrev added_to : Point → List ℕ → Answer (List ℕ) → Point
added_to p m a =
    record {
      recorder = (after_adding p.recorder a).recorder;
      buffer = buffer_after p.buffer p.recorder.written a;
      given = given_after p.given m a;
    }

abbrev closed_by : Point → Answer (List ℕ) → Point
closed_by p a =
    record {
      recorder = (after_closing p.recorder a).recorder;
      buffer = buffer_after p.buffer p.recorder.written a;
      given = p.given;
    }

-- a text that was written after the messages of an open point
held_after : (e : Edition) (out : List ℕ) (p : Point) (text whole : List ℕ) → Known e out p → p.recorder.closed ≡ false
    → joined p.given ++ text ≡ whole
    → (p.recorder.written + length text ≡ length whole)
    × (buffer_after p.buffer p.recorder.written (fine text) ≡ whole ++ drop (p.recorder.written + length text) out)
held_after e out p text whole k o joins =
    let at = p.recorder.written in
    let ms = p.given in
    let opened = known_open e out p k o in
    let written = opened.0 in (
      omega (arith, ap length joins, length-append (joined ms) text),
      ap (λ (l : List ℕ). buffer_after l at (fine text)) opened.1
          ∙ placed_after (joined ms) out text at written
          ∙ ap (λ (l : List ℕ). l ++ drop (at + length text) out) joins,
    )

-- each call that was granted
known_added : (e : Edition) (out : List ℕ) (p : Point) (m text : List ℕ) → Known e out p
    → Added e p.recorder (length p.buffer) m text → Known e out (added_to p m (fine text))
known_added e out p m text k a =
    let ms = p.given in
    let joins : joined ms ++ text ≡ joined (ms ++ (m ∷ []))
    = sym (joined_more ms m ∙ ap (λ (l : List ℕ). joined ms ++ l) a.same) in
    let after = held_after e out p text (joined (ms ++ (m ∷ []))) k a.opened joins in
    let sized = ap length a.same in
    let long = known_long k in
    let fits = a.fits in
    let few = a.few in
    let many = k.many in
    record {
      each = each_more ms m k.each a.taken;
      few = omega (arith, length-append ms (m ∷ []));
      many = omega (arith, length-append ms (m ∷ []));
      written = after.0;
      within = omega arith;
      holds = after.1;
    }

known_closed : (e : Edition) (out : List ℕ) (p : Point) (text : List ℕ) → Known e out p → p.recorder.closed ≡ false
    → tail_text e (map length p.given) ≡ text → p.recorder.written + length text ≤ length p.buffer
    → Known e out (closed_by p (fine text))
known_closed e out p text k o same fits =
    let joins : joined p.given ++ text ≡ recording_text e p.given
    = ap (λ (l : List ℕ). joined p.given ++ l) (sym same) in
    let after = held_after e out p text (recording_text e p.given) k o joins in
    let long = known_long k in
    record {
      each = k.each;
      few = k.few;
      many = k.many;
      written = after.0;
      within = omega arith;
      holds = after.1;
    }

-- each call
after_adding_lem : (e : Edition) (out : List ℕ) (p : Point) (m : List ℕ) → Known e out p → (a : Answer (List ℕ))
    → adding e p.recorder (length p.buffer) m ≡ a → Known e out (added_to p m a)
after_adding_lem e out p m k (fine text) q =
    known_added e out p m text k (adding_fine e p.recorder (length p.buffer) m text q)
after_adding_lem e out p m k (refused j i) q = k

after_closing_lem : (e : Edition) (out : List ℕ) (p : Point) → Known e out p → (a : Answer (List ℕ))
    → closing e p.recorder p.buffer ≡ a → Known e out (closed_by p a)
after_closing_lem e out p k (fine text) q =
    let w = p.recorder in
    let c = closing_fine e w p.buffer text q in
    let tail = tail_text e (map length p.given) in
    let r = room_fine w.written (length p.buffer) tail text (sym (closing_known e out p k c.opened) ∙ q) in
    known_closed e out p text k c.opened r.0 c.fits
after_closing_lem e out p k (refused j i) q = k

pub known : (e : Edition) (out : List ℕ) (p : Point) → History e out p → Known e out p
unfolding next flat_map most_messages
known e out p began =
    record { each = none; few = omega arith; many = refl; written = refl; within = omega arith; holds = refl }
known e out p (called {p = q} h (adds m)) =
    after_adding_lem e out q m (known e out q h) (adding e q.recorder (length q.buffer) m) refl
known e out p (called {p = q} h closes) =
    after_closing_lem e out q (known e out q h) (closing e q.recorder q.buffer) refl
