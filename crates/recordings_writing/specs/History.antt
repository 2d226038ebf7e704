-- What adding and closing can lead to: a history begins with a new recorder, and each further call takes the state last
-- handed back and one same buffer, granted or refused.
use Rattle.std.specs.Prelude.{ℕ, ◌≡◌, true, List, [], ◌∷◌, ◌++◌, length, take}
use Rattle.sim0mq.specs.Answer.{Answer, fine, refused}
use Rattle.writing_opening.specs.Opening.{buffer_after}
use Rattle.recordings_format.specs.Edition.{Edition}
use Rattle.recordings_writing.specs.Recorder.{empty, adding, closing, after_adding, after_closing}
use Rattle.recordings_writing.specs.declared.Recorder.{Recorder}

-- A point of a history: the state last handed back, the buffer then, and the messages whose adding was granted, in
-- order.
pub record Point : Type 0 where
  pub recorder : Recorder
  pub buffer : List ℕ
  pub given : List (List ℕ)

abbrev pub start : List ℕ → Point
start out = record { recorder = empty; buffer = out; given = [] }

pub data Call : Type 0 where
  adds : List ℕ → Call
  closes : Call

abbrev pub given_after : List (List ℕ) → List ℕ → Answer (List ℕ) → List (List ℕ)
given_after ms m (fine text) = ms ++ (m ∷ [])
given_after ms m (refused k p) = ms

-- The point after a call.
unfoldable pub next : Edition → Point → Call → Point
next e p (adds m) =
    let answer = adding e p.recorder (length p.buffer) m in
    record {
      recorder = (after_adding p.recorder answer).recorder;
      buffer = buffer_after p.buffer p.recorder.written answer;
      given = given_after p.given m answer;
    }
next e p closes =
    let answer = closing e p.recorder p.buffer in
    record {
      recorder = (after_closing p.recorder answer).recorder;
      buffer = buffer_after p.buffer p.recorder.written answer;
      given = p.given;
    }

-- The points that a new recorder in the buffer `out` can lead to.
pub data History (e : Edition) (out : List ℕ) : Point → Type 0 where
  began : History e out (start out)
  called : {p : Point} → History e out p → (c : Call) → History e out (next e p c)

-- A point has a finished recording where its state is closed: the bytes written.
pub record Finished (p : Point) (s : List ℕ) : Type 0 where
  pub closed : p.recorder.closed ≡ true
  pub bytes : s ≡ take p.recorder.written p.buffer
