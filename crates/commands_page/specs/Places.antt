-- What chapter 4 of the manual allows, said of the places that reading finds, with no order of judging.
use Rattle.std.specs.Prelude.{ℕ, ◌+◌, ◌-◌, ◌*◌, ◌<◌, ◌≡◌, true, List, [], ◌∷◌, length, get_or}
use Rattle.sim0mq.specs.Answer.{fine, byte, big, not_negative}
use Rattle.sim0mq.specs.Field.{Field}
use Rattle.sim0mq.specs.Message.{no_table, Reading, reading}
use Rattle.commands_page.specs.Page.{Want, Row, page, row_at}
use Rattle.commands_page.specs.Judging.{is_word, code_right, text_right, want_in, no_field, looks}

-- As many fields as the row has; or, where some follow by turns, two more for each that the last of the row's says.
pub record TurnsAllowed (s : List ℕ) (row : Row) (last : Field) (n : ℕ) : Type 0 where
  pub code : code_right s (want_in row (length row.fields - 1)) last ≡ true
  pub sign : not_negative (byte s last.first) ≡ true
  pub many : n ≡ length row.fields + 2 * big s last.first 4

abbrev pub NumberAllowed : List ℕ → Row → List Want → List Field → Type 0
NumberAllowed s row [] fs = length fs ≡ length row.fields
NumberAllowed s row (t ∷ ts) fs = TurnsAllowed s row (get_or fs (length row.fields - 1) no_field) (length fs)

-- The `size` bytes of the type frame's string, which stands after its code and its count.
abbrev pub id_size : Reading → ℕ
id_size m = (looks m.frames).next - ((looks m.frames).kind + 5)

-- The message s, read as m, is the command of this row.
pub record IsCommand (s : List ℕ) (m : Reading) (row : Row) : Type 0 where
  pub string : (looks m.frames).code ≡ 9
  pub id : is_word s ((looks m.frames).kind + 5) (id_size m) row.id ≡ true
  pub status : byte s (looks m.frames).status ≡ row.status
  pub number : NumberAllowed s row row.turns m.fields
  pub codes : (i : ℕ) → i < length m.fields → code_right s (want_in row i) (get_or m.fields i no_field) ≡ true
  pub strings : (i : ℕ) → i < length m.fields → text_right s (want_in row i) (get_or m.fields i no_field) ≡ true

-- The message s is the command of the page's row k.
pub record CommandAt (s : List ℕ) (k : ℕ) : Type 0 where
  pub reads : Reading
  pub is_message : reading no_table s ≡ fine reads
  pub listed : k < length page
  pub is_command : IsCommand s reads (row_at k)
