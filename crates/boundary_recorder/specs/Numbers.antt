-- The numbers in which the recorder's answers and its state cross to C and Rust, and back; what each of its calls
-- answers in them, and the buffer that it leaves.
use Rattle.std.specs.Prelude.{ℕ, cond, not, List, [], ◌∷◌, ◌++◌, eqb, length}
use Rattle.writing_opening.specs.Opening.{buffer_after}
use Rattle.recordings_format.specs.Edition.{newest}
use Rattle.recordings_writing.specs.Recorder.{Told, adding, closing, after_adding, after_closing}
use Rattle.recordings_writing.specs.declared.Recorder.{Recorder}
use Rattle.boundary_crossing.specs.Numbers.{length_numbers}

-- The recorder's state, 3 numbers: written, messages, and 1 where it is closed; and the state of such numbers, which is
-- closed by any but 0.
abbrev pub state_numbers : Recorder → List ℕ
state_numbers w = w.written ∷ w.messages ∷ cond w.closed 1 0 ∷ []

abbrev pub recorder_of : ℕ → ℕ → ℕ → Recorder
recorder_of written messages closed = record { written = written; messages = messages; closed = not (eqb closed 0) }

-- A call of the recorder, 6 numbers: number, place, bytes written so far, and the state that is handed back.
abbrev pub recorded_numbers : Told → List ℕ
recorded_numbers t = length_numbers t.said ++ state_numbers t.recorder

-- Adding a message to this state, in a buffer of so many bytes; and the buffer after it.
unfoldable pub add_numbers : Recorder → ℕ → List ℕ → List ℕ
add_numbers w room m = recorded_numbers (after_adding w (adding newest w room m))

unfoldable pub added_in : Recorder → List ℕ → List ℕ → List ℕ
added_in w out m = buffer_after out w.written (adding newest w (length out) m)

-- Closing this state, in this buffer; and the buffer after it.
unfoldable pub close_numbers : Recorder → List ℕ → List ℕ
close_numbers w out = recorded_numbers (after_closing w (closing newest w out))

unfoldable pub closed_in : Recorder → List ℕ → List ℕ
closed_in w out = buffer_after out w.written (closing newest w out)
