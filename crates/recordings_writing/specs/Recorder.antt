-- Writing a recording, message by message (02, Ticket 1): what adding and closing answer, and the state that each hands
-- back. The state is small: how many bytes and messages were written, and whether it is closed. Closing finds the
-- messages again in the buffer, since they divide it in one way only (Ticket 5).
use Rattle.std.specs.Prelude.{ℕ, ◌+◌, Bool, true, false, not, ◌&&◌, List, leb, ltb, eqb, length, take, Result}
use Rattle.sim0mq.specs.Answer.{Answer, fine, refused, ◌>>=◌, ◌>>◌, guard}
use Rattle.sim0mq.specs.Message.{no_table, message}
use Rattle.sim0mq.specs.Views.{said_as}
use Rattle.sim0mq.specs.declared.Refusal.{Refusal}
use Rattle.dividing.specs.Run.{Stop, at_end, at_most, at_fault, Run, run_from}
use Rattle.recordings_format.specs.Edition.{Edition, most_messages}
use Rattle.recordings_format.specs.Text.{tail_text}
use Rattle.recordings_tails.specs.Tails.{room_for}
use Rattle.recordings_writing.specs.declared.Recorder.{Recorder}
use Rattle.recordings_writing.specs.declared.Recorded.{Recorded}

-- A new one.
abbrev pub empty : Recorder
empty = record { written = 0; messages = 0; closed = false }

-- Is this state open, and within a buffer of `room` bytes (15)?
unfoldable pub usable : Recorder → ℕ → Bool
usable w room = not w.closed && leb w.written room

-- Adding a message: the state, and that one more may be added (15); the message's own refusals, placed within it; room
-- (14). The answer is its bytes.
unfoldable pub adding : Edition → Recorder → ℕ → List ℕ → Answer (List ℕ)
adding e w room m = do
  guard (usable w room && ltb w.messages most_messages) 15 0
  r ← message e.most no_table m
  room_for w.written room m

-- Did a run of messages come to the end of the bytes?
abbrev pub ended : Stop → Bool
ended at_end = true
ended at_most = false
ended (at_fault k p) = false

-- The messages found again in the bytes written.
abbrev pub written_run : Edition → Recorder → List ℕ → Run
written_run e w out = run_from e.most most_messages (take w.written out) 0

-- The lengths of the messages that a state says were written, found in the buffer; 15 where the bytes written are not
-- so many messages end to end.
unfoldable pub found : Edition → Recorder → List ℕ → Answer (List ℕ)
found e w out = do
  guard (ended (written_run e w out).stop) 15 0
  guard (eqb (length (written_run e w out).lengths) w.messages) 15 0
  fine (written_run e w out).lengths

-- Closing, in the buffer `out`: the state (15); room for the index and the trailer (14). The answer is their bytes.
unfoldable pub closing : Edition → Recorder → List ℕ → Answer (List ℕ)
closing e w out = do
  guard (usable w (length out)) 15 0
  ns ← found e w out
  room_for w.written (length out) (tail_text e ns)

-- The state after a call that was granted these bytes; or the refusal.
abbrev pub added : Recorder → Answer (List ℕ) → Answer Recorder
added w (fine text) = fine (record { written = w.written + length text; messages = w.messages + 1; closed = false })
added w (refused k p) = refused k p

abbrev pub closed_by : Recorder → Answer (List ℕ) → Answer Recorder
closed_by w (fine text) = fine (record { written = w.written + length text; messages = w.messages; closed = true })
closed_by w (refused k p) = refused k p

-- What each call hands back: its answer, which where it is granted is the number of bytes written so far, and the
-- state. A refused call hands back the state that it took.
pub record Told : Type 0 where
  pub said : Answer ℕ
  pub recorder : Recorder

abbrev pub handed_back : Recorder → Answer Recorder → Told
handed_back w (fine v) = record { said = fine v.written; recorder = v }
handed_back w (refused k p) = record { said = refused k p; recorder = w }

abbrev pub after_adding : Recorder → Answer (List ℕ) → Told
after_adding w a = handed_back w (added w a)

abbrev pub after_closing : Recorder → Answer (List ℕ) → Told
after_closing w a = handed_back w (closed_by w a)

-- The code's answers, as the definitions have them.
abbrev pub states : Result Recorder Refusal → Answer Recorder
states r = said_as (λ w. w) r

abbrev pub told_as : Recorded → Told
told_as r = record { said = said_as (λ n. n) r.said; recorder = r.recorder }
