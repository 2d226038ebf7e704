-- What the judge of commands promises. Each statement here is proved in proofs/: the first two in Places.antt and
-- Parts.antt, the third in Refusals.antt, the fourth in Verdict.antt.
use Rattle.std.specs.Prelude.{ℕ, ◌+◌, ◌-◌, ◌<◌, ◌≡◌, ◌↔◌, ◌⊎◌, List, length, get_or}
use Rattle.sim0mq.specs.Answer.{fine, refused, byte}
use Rattle.sim0mq.specs.Message.{limit, no_table, Reading, reading}
use Rattle.sim0mq.specs.Allowed.{Allowed}
use Rattle.sim0mq.specs.Demand3.{SameBuild}
use Rattle.commands_page.specs.Page.{one_of, Row, page, row_at}
use Rattle.commands_page.specs.Judging.{want_in, no_field, looks, number_at, commanded}
use Rattle.commands_page.specs.Places.{CommandAt}
use Rattle.commands_page.specs.Parts.{IsCommandOf}

-- A message is taken for command k exactly when the manual allows it as a message, and the page's row k its parts.
abbrev pub AcceptsCommands : Type 0
AcceptsCommands =
    (s : List ℕ) (k : ℕ) → (commanded s ≡ fine k)
    ↔ ((k < length page) × ((a : Allowed limit s) × IsCommandOf (row_at k) a.parts))

-- The same, said of the places that reading finds.
abbrev pub AcceptsByPlaces : Type 0
AcceptsByPlaces = (s : List ℕ) (k : ℕ) → (commanded s ≡ fine k) ↔ CommandAt s k

-- Where a refusal stands: 20 and 21 at the type frame, 22 and 23 at the code byte of a field.
pub data Placed (m : Reading) : ℕ → ℕ → Type 0 where
  at_type : (n : ℕ) → (n ≡ 20) ⊎ (n ≡ 21) → Placed m n (looks m.frames).kind
  at_field : (n i : ℕ) → (n ≡ 22) ⊎ (n ≡ 23) → i < length m.fields → Placed m n (get_or m.fields i no_field).place

-- Every refusal is reading's, or is placed so.
abbrev pub RefusalsArePlaced : Type 0
RefusalsArePlaced =
    (s : List ℕ) (n p : ℕ) → commanded s ≡ refused n p
    → (reading no_table s ≡ refused n p) ⊎ ((m : Reading) × (reading no_table s ≡ fine m) × Placed m n p)

-- Place i of a message, read as m, is that of a value byte that the verdict for this row may hang on: of a string that
-- is to be one of a set of words, or of the number of pairs.
pub data Weighed (m : Reading) (row : Row) : ℕ → Type 0 where
  of_word : (j i : ℕ) (ws : List (List ℕ)) → j < length m.fields → (want_in row j).rule ≡ one_of ws
      → i < (get_or m.fields j no_field).size → Weighed m row ((get_or m.fields j no_field).first + i)
  of_number : (i : ℕ) → i < 4 → (length row.turns ≡ 0 → ⊥)
      → Weighed m row ((get_or m.fields (length row.fields - 1) no_field).first + i)

-- The row that the type id of a message, read as m, names.
abbrev pub row_named : List ℕ → Reading → Row
row_named s m = row_at (number_at s (looks m.frames))

-- Two accepted messages of the same build that agree in those value bytes get the same verdict.
abbrev pub VerdictHangsOnFewBytes : Type 0
VerdictHangsOnFewBytes =
    (s t : List ℕ) (m n : Reading) → reading no_table s ≡ fine m → reading no_table t ≡ fine n → SameBuild m.fields s t
    → ((i : ℕ) → Weighed m (row_named s m) i → byte s i ≡ byte t i) → commanded s ≡ commanded t
