-- What each call of the writer answers in numbers, and the buffer that it leaves.
use Rattle.std.specs.Prelude.{ℕ, List, length}
use Rattle.writing_opening.specs.Opening.{buffer_after}
use Rattle.writing.specs.Writing.{Opening, opening, after_opening, Given, adding, after_adding, closing, after_closing}
use Rattle.writing.specs.declared.Writer.{Writer}
use Rattle.boundary_writer_crossing.specs.States.{wrote_numbers}

-- Opening, in a buffer of so many bytes; and the buffer after it.
unfoldable pub open_numbers : Opening → ℕ → List ℕ
open_numbers o room = wrote_numbers (after_opening o (opening o room))

unfoldable pub opened_in : Opening → List ℕ → List ℕ
opened_in o out = buffer_after out 0 (opening o (length out))

-- Adding to this state, in a buffer of so many bytes; and the buffer after it.
unfoldable pub add_numbers : Writer → ℕ → Given → List ℕ
add_numbers w room g = wrote_numbers (after_adding w (adding w room g))

unfoldable pub added_in : Writer → List ℕ → Given → List ℕ
added_in w out g = buffer_after out w.written (adding w (length out) g)

-- Closing this state.
unfoldable pub close_numbers : Writer → List ℕ
close_numbers w = wrote_numbers (after_closing w (closing w))
