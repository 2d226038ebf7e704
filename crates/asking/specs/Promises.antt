-- What asking promises: it answers as reading does, and a view is the part that the reading's row names.
-- Each statement here is proved in proofs/Promises.antt.
use Rattle.std.specs.Prelude.{ℕ, ◌*◌, ◌≤◌, ◌<◌, ◌≡◌, ◌↔◌, List, length, take, drop}
use Rattle.sim0mq.specs.Answer.{fine, refused}
use Rattle.sim0mq.specs.Field.{Field}
use Rattle.sim0mq.specs.Table.{row, row_size, rows}
use Rattle.sim0mq.specs.Message.{Lent, no_table, Reading, reading}
use Rattle.asking.specs.Asking.{asked, view_of}

-- Asking for field k is refused as reading is; where reading accepts, it is refused with 16 at 0 exactly past the last
-- field, and else answered.
pub record AsksAsItReads (s : List ℕ) (k : ℕ) : Type 0 where
  pub refuses : (n p : ℕ) → reading no_table s ≡ refused n p → asked s k ≡ refused n p
  pub past : (m : Reading) → reading no_table s ≡ fine m → (asked s k ≡ refused 16 0) ↔ (length m.fields ≤ k)
  pub finds : (m : Reading) → reading no_table s ≡ fine m → k < length m.fields → (f : Field) × (asked s k ≡ fine f)

-- Asking agrees with reading.
abbrev pub AskingAgreesWithReading : Type 0
AskingAgreesWithReading = (s : List ℕ) (k : ℕ) → AsksAsItReads s k

-- The numbers of row k of the reading's table are the field's, and the field's value bytes all lie in the message.
pub record IsRow (s : List ℕ) (k : ℕ) (m : Reading) (f : Field) : Type 0 where
  pub numbers : take row_size (drop (row_size * k) (rows m.fields)) ≡ row f
  pub bytes : length (view_of s (fine f)) ≡ f.size

-- The field asked for is row k of what reading, with any table that is long enough, stores, so its view begins and ends
-- where that row says.
abbrev pub ViewIsRowK : Type 0
ViewIsRowK =
    (lent : Lent) (s : List ℕ) (k : ℕ) (m : Reading) (f : Field) → reading lent s ≡ fine m → asked s k ≡ fine f
    → IsRow s k m f
