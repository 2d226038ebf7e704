-- Demand 2, of the definitions: a message is accepted exactly when the manual allows it, and its fields cover the
-- payload. Each statement here is proved in proofs/Demand2.antt.
use Rattle.std.specs.Prelude.{ℕ, ◌+◌, ◌<◌, ◌≡◌, true, ◌↔◌, List, [], ◌∷◌, length}
use Rattle.sim0mq.specs.Answer.{fine}
use Rattle.sim0mq.specs.Field.{Field, after}
use Rattle.sim0mq.specs.Table.{rows}
use Rattle.sim0mq.specs.Header.{Frame, Header, header}
use Rattle.sim0mq.specs.Message.{limit, Lent, no_table, enough, Reading, steps_of, reading}
use Rattle.sim0mq.specs.Allowed.{FieldParts, joined, field_bytes, values_asked, header_bytes, header_frames, MessageParts, message_bytes, IsMessage, Allowed}

-- What is lent has room for the fields that s declares, if s has a good header.
abbrev pub Room : Lent → List ℕ → Type 0
Room lent s = (h : Header) → header s ≡ fine h → enough lent h.fields ≡ true

abbrev pub Accepted : Lent → List ℕ → Type 0
Accepted lent s = (m : Reading) × (reading lent s ≡ fine m)

-- A long enough table changes no answer: what is said of reading with none is said of reading with such a table.
abbrev pub RoomIsAllThatCounts : Type 0
RoomIsAllThatCounts = (lent : Lent) (s : List ℕ) → Room lent s → reading lent s ≡ reading no_table s

-- With a long enough table, or with none, reading accepts exactly what the manual allows.
abbrev pub AcceptsWhatIsAllowed : Type 0
AcceptsWhatIsAllowed = (lent : Lent) (s : List ℕ) → Room lent s → Accepted lent s ↔ Allowed limit s

-- The table numbers of fields that begin at `at`, read off their parts: code, place, first value byte, value bytes,
-- marks, and the values that its counts ask for. Each field begins where the one before ends.
unfoldable pub cut_rows : ℕ → List FieldParts → List ℕ
cut_rows at [] = []
cut_rows at (f ∷ fs) =
    f.code
    ∷ at
    ∷ (at + 1 + length (joined f.counts) + length (joined f.marks))
    ∷ length f.values
    ∷ length f.marks
    ∷ values_asked f.counts
    ∷ cut_rows (at + length (field_bytes f)) fs

-- The frames that begin at `at`, read off their parts.
unfoldable pub cut_frames : ℕ → List FieldParts → List Frame
cut_frames at [] = []
cut_frames at (f ∷ fs) = record { place = at; code = f.code } ∷ cut_frames (at + length (field_bytes f)) fs

-- What reading finds in a message is the message's own cut: its length, its frames, its rows, as many fields as its
-- parts have.
pub record IsCut (p : MessageParts) (m : Reading) : Type 0 where
  pub bytes : m.bytes ≡ length (message_bytes p)
  pub frames : m.frames ≡ record { place = 0; code = 9 } ∷ cut_frames 10 (header_frames p.header)
  pub rows : rows m.fields ≡ cut_rows (length (header_bytes p.header)) p.fields
  pub fields : length m.fields ≡ length p.fields

abbrev pub ReadsTheCut : Type 0
ReadsTheCut = (lent : Lent) (s : List ℕ) (m : Reading) (a : Allowed limit s) → reading lent s ≡ fine m → IsCut a.parts m

-- These fields fill the bytes from `at` to `end`: the first begins at `at`, each next where the one before ends, the
-- last ends at `end`.
unfoldable pub Tiles : ℕ → List Field → ℕ → Type 0
Tiles at [] end = at ≡ end
Tiles at (f ∷ fs) end = (f.place ≡ at) × (at < f.first) × Tiles (after f) fs end

-- The fields of an accepted message fill it from its header's end to its own, without gap or overlap, and are as many
-- as declared.
pub record Covers (s : List ℕ) (m : Reading) : Type 0 where
  pub head : Header
  pub reads : header s ≡ fine head
  pub tiles : Tiles head.next m.fields (length s)
  pub declared : length m.fields ≡ head.fields

abbrev pub FieldsCoverThePayload : Type 0
FieldsCoverThePayload = (lent : Lent) (s : List ℕ) (m : Reading) → reading lent s ≡ fine m → Covers s m

-- A string of bytes is a message in one way only.
abbrev pub CutIsUnique : Type 0
CutIsUnique = (p q : MessageParts) → IsMessage p → IsMessage q → message_bytes p ≡ message_bytes q → p ≡ q

-- How many marks fields have.
unfoldable pub marks_in : List FieldParts → ℕ
marks_in [] = 0
marks_in (f ∷ fs) = length f.marks + marks_in fs

-- The steps are 8, and one for each field and each mark.
abbrev pub StepsAreCounted : Type 0
StepsAreCounted =
    (lent : Lent) (s : List ℕ) (m : Reading) (a : Allowed limit s) → reading lent s ≡ fine m
    → steps_of m ≡ 8 + length a.parts.fields + marks_in a.parts.fields
