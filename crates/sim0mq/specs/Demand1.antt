-- Demand 1, of the definitions: bad input gets a numbered refusal with its place. Each statement here is proved in
-- proofs/Demand1.antt.
use Rattle.std.specs.Prelude.{ℕ, ◌*◌, ◌≤◌, ◌<◌, ◌≡◌, true, ◌↔◌, List, [], ◌∷◌, ◌++◌, length}
use Rattle.sim0mq.specs.Answer.{fine, refused}
use Rattle.sim0mq.specs.Table.{row_size}
use Rattle.sim0mq.specs.Header.{among}
use Rattle.sim0mq.specs.Message.{limit, Lent, no_table, table, Reading, reading, table_after}
use Rattle.sim0mq.specs.Blank.{blanked, blanking, output_after}
use Rattle.sim0mq.specs.Allowed.{HeaderParts, header_bytes, IsHeader}

-- The numbers that 01 and 02 (19, Ticket 2) list for judging a message; and those for reading, with 14 only where a
-- table is lent.
abbrev pub judging_numbers : List ℕ
judging_numbers = 1 ∷ 2 ∷ 3 ∷ 4 ∷ 5 ∷ 6 ∷ 7 ∷ 8 ∷ 9 ∷ 10 ∷ 11 ∷ 12 ∷ 13 ∷ 19 ∷ []

abbrev pub reading_numbers : Lent → List ℕ
reading_numbers no_table = judging_numbers
reading_numbers (table r) = 14 ∷ judging_numbers

-- Every refusal of reading bears one of those numbers, at a place no greater than the message's length.
abbrev pub RefusalsArePlaced : Type 0
RefusalsArePlaced =
    (lent : Lent) (s : List ℕ) (number place : ℕ) → reading lent s ≡ refused number place
    → (among number (reading_numbers lent) ≡ true) × (place ≤ length s)

-- After a good header for n fields, a table too short for n rows is refused by 14 at 0, whatever bytes follow the
-- header.
abbrev pub ShortTableIsRefused : Type 0
ShortTableIsRefused =
    (h : HeaderParts) (n r : ℕ) (rest : List ℕ) → IsHeader n h → length (header_bytes h ++ rest) ≤ limit
    → r < row_size * n
    → reading (table r) (header_bytes h ++ rest) ≡ refused 14 0

-- Blanking with room for so many bytes is refused as reading is; where reading accepts, by 14 at 0 exactly where the
-- room is less than the message's length, and by no other number; else it is granted. No other blanking is refused by
-- 14.
pub record BlanksAsItReads (room : ℕ) (s : List ℕ) : Type 0 where
  pub refuses : (number place : ℕ) → reading no_table s ≡ refused number place → blanking room s ≡ refused number place
  pub fourteen : (place : ℕ)
      → blanking room s ≡ refused 14 place
      ↔ (((m : Reading) × (reading no_table s ≡ fine m)) × (room < length s) × (place ≡ 0))
  pub grants : (m : Reading) → reading no_table s ≡ fine m → length s ≤ room → blanking room s ≡ fine (blanked s m.fields)

abbrev pub BlankingAgreesWithReading : Type 0
BlankingAgreesWithReading = (room : ℕ) (s : List ℕ) → BlanksAsItReads room s

-- A refusal changes no lent buffer: not the table of reading, and not the output of blanking.
abbrev pub RefusalKeepsTheTable : Type 0
RefusalKeepsTheTable =
    (lent : Lent) (s t : List ℕ) (number place : ℕ) → reading lent s ≡ refused number place
    → table_after t (reading lent s) ≡ t

abbrev pub RefusalKeepsTheOutput : Type 0
RefusalKeepsTheOutput =
    (room : ℕ) (s out : List ℕ) (number place : ℕ) → blanking room s ≡ refused number place
    → output_after out (blanking room s) ≡ out
