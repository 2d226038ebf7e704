-- The numbers in which the writer's answers and its state cross to C and Rust, and back.
use Rattle.std.specs.Prelude.{ℕ, cond, not, List, [], ◌∷◌, ◌++◌, eqb, Option, None, Some}
use Rattle.writing.specs.declared.Writer.{Writer}
use Rattle.writing.specs.Writing.{Handed}
use Rattle.boundary_crossing.specs.Numbers.{length_numbers}

-- The writer's state, 4 numbers: written, declared, added, and 1 where it is closed; and the state of such numbers,
-- which is closed by any but 0.
abbrev pub state_numbers : Writer → List ℕ
state_numbers w = w.written ∷ w.declared ∷ w.added ∷ cond w.closed 1 0 ∷ []

abbrev pub writer_of : ℕ → ℕ → ℕ → ℕ → Writer
writer_of written declared added closed = record { written = written; declared = declared; added = added; closed = not (eqb closed 0) }

-- A call of the writer, 7 numbers: number, place, bytes written so far, and the state that is handed back.
abbrev pub wrote_numbers : Handed → List ℕ
wrote_numbers w = length_numbers w.said ++ state_numbers w.writer

-- The type of the declared count: `kind`, where it is stated.
unfoldable pub count_type : ℕ → ℕ → Option ℕ
count_type stated kind = cond (eqb stated 0) None (Some kind)
