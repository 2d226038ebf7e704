-- The field table: six numbers for each field (01, "What reading returns"; the sixth by 02, Ticket 4).
use Rattle.std.specs.Prelude.{ℕ, ◌+◌, List, [], ◌∷◌, ◌++◌, length, take, drop}
use Rattle.sim0mq.specs.Field.{Field}

-- A field's numbers: code, place of the code byte, place of the first value byte, number of value bytes, number of
-- marks, number of values (characters, elements, rows times columns, 1 for a scalar).
unfoldable pub row : Field → List ℕ
row f = f.code ∷ f.place ∷ f.first ∷ f.size ∷ f.marked ∷ f.values ∷ []

unfoldable pub row_size : ℕ
row_size = 6

unfoldable pub rows : List Field → List ℕ
rows [] = []
rows (f ∷ fs) = row f ++ rows fs

-- A table once these numbers are stored in it: they, and after them what it held.
unfoldable pub stored : List ℕ → List ℕ → List ℕ
stored table numbers = numbers ++ drop (length numbers) table

-- A buffer with a text in it from `at` on: what stands before it and after it stays.
unfoldable pub placed : List ℕ → ℕ → List ℕ → List ℕ
placed out at text = take at out ++ (text ++ drop (at + length text) out)
