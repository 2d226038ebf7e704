-- The field codes 0 to 32 (01, "Payload fields"; 000, 2.1): a row of 33 numbers for each column of 01's table, and a
-- line for each of its lines.
use Rattle.std.specs.Prelude.{ℕ, Bool, false, ◌||◌, List, [], ◌∷◌, get_or, leb, eqb}

-- Is k one of these numbers?
unfoldable pub among : ℕ → List ℕ → Bool
among k [] = false
among k (x ∷ xs) = eqb k x || among k xs

-- Is c a field code (01, refusal 9)?
unfoldable pub code_known : ℕ → Bool
code_known c = leb c 32

-- How many counts follow the code: characters or elements is one, rows and columns are two.
abbrev pub count_row : List ℕ
count_row =
    0 ∷ 0 ∷ 0 ∷ 0 ∷ 0 ∷ 0 ∷ 0 ∷ 0 ∷ 0  -- 0 to 8
    ∷ 1 ∷ 1  -- 9, 10
    ∷ 1 ∷ 1 ∷ 1 ∷ 1 ∷ 1 ∷ 1 ∷ 1  -- 11 to 17
    ∷ 2 ∷ 2 ∷ 2 ∷ 2 ∷ 2 ∷ 2 ∷ 2  -- 18 to 24
    ∷ 0 ∷ 0  -- 25, 26
    ∷ 1 ∷ 1  -- 27, 28
    ∷ 2 ∷ 2  -- 29, 30
    ∷ 2 ∷ 2  -- 31, 32
    ∷ []

-- Its marks: 0 for none, 1 for one, 2 for one per column.
abbrev pub mark_row : List ℕ
mark_row =
    0 ∷ 0 ∷ 0 ∷ 0 ∷ 0 ∷ 0 ∷ 0 ∷ 0 ∷ 0  -- 0 to 8
    ∷ 0 ∷ 0  -- 9, 10
    ∷ 0 ∷ 0 ∷ 0 ∷ 0 ∷ 0 ∷ 0 ∷ 0  -- 11 to 17
    ∷ 0 ∷ 0 ∷ 0 ∷ 0 ∷ 0 ∷ 0 ∷ 0  -- 18 to 24
    ∷ 1 ∷ 1  -- 25, 26
    ∷ 1 ∷ 1  -- 27, 28
    ∷ 1 ∷ 1  -- 29, 30
    ∷ 2 ∷ 2  -- 31, 32
    ∷ []

-- Bytes per value.
abbrev pub width_row : List ℕ
width_row =
    1 ∷ 2 ∷ 4 ∷ 8 ∷ 4 ∷ 8 ∷ 1 ∷ 1 ∷ 2  -- 0 to 8
    ∷ 1 ∷ 2  -- 9, 10
    ∷ 1 ∷ 2 ∷ 4 ∷ 8 ∷ 4 ∷ 8 ∷ 1  -- 11 to 17
    ∷ 1 ∷ 2 ∷ 4 ∷ 8 ∷ 4 ∷ 8 ∷ 1  -- 18 to 24
    ∷ 4 ∷ 8  -- 25, 26
    ∷ 4 ∷ 8  -- 27, 28
    ∷ 4 ∷ 8  -- 29, 30
    ∷ 4 ∷ 8  -- 31, 32
    ∷ []

-- The three rows, looked up.
unfoldable pub counts_of : ℕ → ℕ
counts_of c = get_or count_row c 0

unfoldable pub marking_of : ℕ → ℕ
marking_of c = get_or mark_row c 0

unfoldable pub width_of : ℕ → ℕ
width_of c = get_or width_row c 0

-- Are the values of code c Booleans?
unfoldable pub boolean : ℕ → Bool
boolean c = eqb c 6 || eqb c 17 || eqb c 24
