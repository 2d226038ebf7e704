-- Request 1, of the definitions: what writing a recording promises. Each statement here is proved in
-- proofs/Promises.antt.
use Rattle.std.specs.Prelude.{ℕ, ◌+◌, ◌≤◌, ◌≡◌, true, false, List, [], ◌∷◌, map, length, take}
use Rattle.sim0mq.specs.Answer.{fine, refused}
use Rattle.sim0mq.specs.Allowed.{joined}
use Rattle.sim0mq.specs.Demand1.{judging_numbers}
use Rattle.sim0mq.specs.Header.{among}
use Rattle.writing_opening.specs.Opening.{buffer_after}
use Rattle.recordings_format.specs.Edition.{Edition, editions, Listed}
use Rattle.recordings_format.specs.Text.{tail_text, IsRecording}
use Rattle.recordings_tails.specs.Tails.{room_for}
use Rattle.recordings_writing.specs.Recorder.{adding, closing, after_adding, after_closing}
use Rattle.recordings_writing.specs.declared.Recorder.{Recorder}
use Rattle.recordings_writing.specs.History.{Point, History, Finished}

-- Whatever state is handed in with whatever buffer: if closing is granted, the bytes then written are a recording of
-- the messages that divide what was written.
pub record IsClosed (e : Edition) (w : Recorder) (out text : List ℕ) : Type 0 where
  pub messages : List (List ℕ)
  pub divides : joined messages ≡ take w.written out
  pub many : length messages ≡ w.messages
  pub recording : IsRecording e messages (take (w.written + length text) (buffer_after out w.written (closing e w out)))

abbrev pub ClosedIsARecording : Type 0
ClosedIsARecording =
    (e : Edition) (w : Recorder) (out text : List ℕ) → Listed e editions → closing e w out ≡ fine text → IsClosed e w out text

-- What a history finished is the recording of the messages that were added, in order.
abbrev pub FinishedIsOfTheGiven : Type 0
FinishedIsOfTheGiven =
    (e : Edition) (out : List ℕ) (p : Point) (s : List ℕ) → Listed e editions → History e out p → Finished p s
    → IsRecording e p.given s

-- At an open point of a history closing is never refused by 15: the index and the trailer of the messages given are
-- written where they have room, and else it is refused by 14.
abbrev pub ClosingWantsOnlyRoom : Type 0
ClosingWantsOnlyRoom =
    (e : Edition) (out : List ℕ) (p : Point) → History e out p → p.recorder.closed ≡ false
    → closing e p.recorder p.buffer
    ≡ room_for p.recorder.written (length p.buffer) (tail_text e (map length p.given))

-- A refused call changes no byte, and hands back the state that it took.
pub record RefusalKeeps (e : Edition) (w : Recorder) (out m : List ℕ) (number place : ℕ) : Type 0 where
  pub added : adding e w (length out) m ≡ refused number place
      → (buffer_after out w.written (adding e w (length out) m) ≡ out)
      × ((after_adding w (adding e w (length out) m)).recorder ≡ w)
  pub closed : closing e w out ≡ refused number place
      → (buffer_after out w.written (closing e w out) ≡ out)
      × ((after_closing w (closing e w out)).recorder ≡ w)

abbrev pub RefusedCallChangesNothing : Type 0
RefusedCallChangesNothing =
    (e : Edition) (w : Recorder) (out m : List ℕ) (number place : ℕ) → RefusalKeeps e w out m number place

-- Demand 1: the numbers whose place is 0. Every refusal of adding bears one of them, or one that judging a message
-- bears at a place no greater than that message's length; and every refusal of closing bears one of them.
abbrev pub state_numbers : List ℕ
state_numbers = 15 ∷ 14 ∷ []

pub record IsOfAdding (m : List ℕ) (number place : ℕ) : Type 0 where
  pub numbered : among number (15 ∷ 14 ∷ judging_numbers) ≡ true
  pub within : place ≤ length m
  pub own : among number state_numbers ≡ true → place ≡ 0

abbrev pub RefusalsOfAdding : Type 0
RefusalsOfAdding =
    (e : Edition) (w : Recorder) (room : ℕ) (m : List ℕ) (number place : ℕ) → adding e w room m ≡ refused number place
    → IsOfAdding m number place

abbrev pub RefusalsOfClosing : Type 0
RefusalsOfClosing =
    (e : Edition) (w : Recorder) (out : List ℕ) (number place : ℕ) → closing e w out ≡ refused number place
    → (among number state_numbers ≡ true) × (place ≡ 0)
