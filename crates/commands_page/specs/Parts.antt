-- What chapter 4 of the manual allows, said of a message's parts: strings of bytes, with no place and no order of
-- judging.
use Rattle.std.specs.Prelude.{ℕ, ◌+◌, ◌-◌, ◌*◌, ◌<◌, ◌≡◌, true, length, get_or}
use mathlib.Core.List.{List, [], ◌∷◌, Memᴰ}
use Rattle.sim0mq.specs.Answer.{not_negative}
use Rattle.sim0mq.specs.Allowed.{number, FieldParts, joined, MessageParts}
use Rattle.commands_page.specs.Page.{Rule, any, filled, one_of, Want, Row}
use Rattle.commands_page.specs.Judging.{code_taken, want_in}

abbrev pub no_part : FieldParts
no_part = record { code = 0; counts = []; marks = []; values = [] }

-- A field's unit type: the first byte of its marks.
abbrev pub unit_in : FieldParts → ℕ
unit_in f = get_or (joined f.marks) 0 0

-- A string's bytes are as the rule asks.
abbrev pub TextAllowed : Rule → List ℕ → Type 0
TextAllowed any v = Unit {0}
TextAllowed filled v = 0 < length v
TextAllowed (one_of ws) v = Memᴰ v ws

-- A field is as wanted.
pub record IsWanted (w : Want) (f : FieldParts) : Type 0 where
  pub code : code_taken w.codes f.code (unit_in f) ≡ true
  pub text : TextAllowed w.rule f.values

-- The last of the row's fields says, not negative, how many pairs follow.
pub record PairsFollow (row : Row) (last : FieldParts) (n : ℕ) : Type 0 where
  pub sign : not_negative (get_or last.values 0 0) ≡ true
  pub many : n ≡ length row.fields + 2 * number last.values

abbrev pub ManyAllowed : Row → List Want → List FieldParts → Type 0
ManyAllowed row [] fs = length fs ≡ length row.fields
ManyAllowed row (t ∷ ts) fs = PairsFollow row (get_or fs (length row.fields - 1) no_part) (length fs)

-- The message of these parts is the command of this row.
pub record IsCommandOf (row : Row) (p : MessageParts) : Type 0 where
  pub string : p.header.kind.code ≡ 9
  pub id : p.header.kind.values ≡ row.id
  pub status : p.header.status.values ≡ row.status ∷ []
  pub many : ManyAllowed row row.turns p.fields
  pub fields : (i : ℕ) → i < length p.fields → IsWanted (want_in row i) (get_or p.fields i no_part)
