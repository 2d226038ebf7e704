-- The text of an answer (01, "Examples"): its pieces in order, each a string of bytes. Assumes nothing.
use Rattle.std.specs.Prelude.{ℕ, zero, suc, ◌*◌, cond, List, [], ◌∷◌, ◌++◌, length, take, drop, Result, Ok, Err}
use Prim.Native.Char.{code}
use Prim.Native.String.{String, [] as done, ◌∷◌ as ◌then◌}
use Rattle.programs_pieces.specs.Decimal.{decimal}
use Rattle.sim0mq.specs.Table.{row_size}
use Rattle.sim0mq.specs.Message.{enough, table as table_of}
use Rattle.sim0mq.specs.declared.Refusal.{Refusal}
use Rattle.sim0mq.specs.Views.{number_of}
use Rattle.reading.specs.declared.Found.{Found}

-- the bytes of a word in ASCII
abbrev pub ascii : String → List ℕ
ascii done = []
ascii (c then s) = code c ∷ ascii s

-- the line of an accepted message
unfoldable pub accepted_text : Found → List (List ℕ)
accepted_text f =
    ascii "SIM01 fields " ∷ decimal f.fields
    ∷ ascii " steps " ∷ decimal f.steps
    ∷ ascii " length " ∷ decimal f.length
    ∷ ascii "\n"
    ∷ []

-- the line of a refusal
unfoldable pub refused_text : Refusal → List (List ℕ)
refused_text r = ascii "refused " ∷ decimal (number_of r.reason) ∷ ascii " at " ∷ decimal r.place ∷ ascii "\n" ∷ []

-- numbers, each after a space
unfoldable pub numbers_text : List ℕ → List (List ℕ)
numbers_text [] = []
numbers_text (x ∷ xs) = ascii " " ∷ decimal x ∷ numbers_text xs

-- the row of field i, whose numbers these are
unfoldable pub row_text : ℕ → List ℕ → List (List ℕ)
row_text i numbers = decimal i ∷ (numbers_text numbers ++ (ascii "\n" ∷ []))

-- the rows of the first n fields of a table
unfoldable pub rows_text : List ℕ → ℕ → List (List ℕ)
rows_text table zero = []
rows_text table (suc n) = rows_text table n ++ row_text n (take row_size (drop (row_size * n) table))

-- the first line of what reading answered
abbrev pub line_text : Result Found Refusal → List (List ℕ)
line_text (Ok f) = accepted_text f
line_text (Err r) = refused_text r

-- the whole text: after the first line the rows of an accepted message; no text where the table is too short for them
abbrev pub whole_text : Result Found Refusal → List ℕ → List (List ℕ)
whole_text (Ok f) table = cond (enough (table_of (length table)) f.fields) (accepted_text f ++ rows_text table f.fields) []
whole_text (Err r) table = refused_text r
