-- The eight header frames (01, "The eight header frames"; 000, 2.3).
use Rattle.std.specs.Prelude.{ℕ, ◌+◌, Bool, ◌&&◌, List, [], ◌∷◌, leb, eqb}
use Rattle.sim0mq.specs.Answer.{Answer, fine, ◌>>=◌, ◌>>◌, guard, need, byte, big, not_negative}
use Rattle.sim0mq.specs.Field.{Field, field, after}
unfoldable pub use Rattle.sim0mq.specs.Codes.{among}

-- Frame 0 before its digits: 9 0 0 0 5 S I M.
abbrev pub magic_bytes : List ℕ
magic_bytes = 9 ∷ 0 ∷ 0 ∷ 0 ∷ 5 ∷ 83 ∷ 73 ∷ 77 ∷ []

-- The type codes allowed in frames 1 to 4, in 5, in 6, and in 7.
abbrev pub id_codes : List ℕ
id_codes = 9 ∷ 10 ∷ 1 ∷ 2 ∷ []

abbrev pub number_codes : List ℕ
number_codes = 3 ∷ []

abbrev pub status_codes : List ℕ
status_codes = 0 ∷ []

abbrev pub count_codes : List ℕ
count_codes = 0 ∷ 1 ∷ 2 ∷ []

-- Is x a status: new, change or delete (000, 2.3.5)?
unfoldable pub status_taken : ℕ → Bool
status_taken x = leb 1 x && leb x 3

-- The most fields of a message (01, frame 7).
abbrev pub most_fields : ℕ
most_fields = 256

-- May a message have n fields?
unfoldable pub fields_taken : ℕ → Bool
fields_taken n = leb n most_fields

-- These bytes stand from `at` on, each there (1) and the right one (2). The answer is the place after them.
unfoldable pub literal : List ℕ → List ℕ → ℕ → Answer ℕ
literal s [] at = fine at
literal s (b ∷ bs) at = do
  there ← need s at 1
  pass ← guard (eqb (byte s at) b) 2 at
  literal s bs (at + 1)

-- An ASCII digit: there (1), and a digit (2).
unfoldable pub digit : List ℕ → ℕ → Answer ℕ
digit s at = do
  need s at 1
  guard (leb 48 (byte s at) && leb (byte s at) 57) 2 at
  fine (byte s at)

-- Frame 0: its eight bytes, two digits, and, both being there, that they are 0 and 1 in ASCII (3).
unfoldable pub magic : List ℕ → Answer ℕ
magic s = do
  p ← literal s magic_bytes 0
  a ← digit s 8
  b ← digit s 9
  guard (eqb a 48 && eqb b 49) 3 8
  fine 10

-- A frame after 0 is a field of an allowed type (4), which has no mark and no Boolean: its code, its count if it has
-- one, its value bytes.
unfoldable pub frame : List ℕ → List ℕ → ℕ → Answer Field
frame s codes at = do
  need s at 1
  guard (among (byte s at) codes) 4 at
  field s at

-- Frame 6: its value is a status (6).
unfoldable pub status : List ℕ → ℕ → Answer Field
status s at = do
  f ← frame s status_codes at
  guard (status_taken (byte s f.first)) 6 f.first
  fine f

-- Frame 7: its value, the declared number of fields, is not negative (5) and not too large (7).
unfoldable pub declared : List ℕ → ℕ → Answer Field
declared s at = do
  f ← frame s count_codes at
  guard (not_negative (byte s f.first)) 5 f.first
  guard (fields_taken (big s f.first f.size)) 7 f.first
  fine f

-- A frame's place, which is that of its first byte, and its type code.
pub record Frame : Type 0 where
  pub place : ℕ
  pub code : ℕ

abbrev pub frame_of : Field → Frame
frame_of f = record { place = f.place; code = f.code }

-- The frames, the declared number of fields, and the place after the header.
pub record Header : Type 0 where
  pub frames : List Frame
  pub fields : ℕ
  pub next : ℕ

abbrev pub header_of : List ℕ → (run sender receiver kind number status count : Field) → Header
header_of s run sender receiver kind number status count =
    record {
      frames =
          record { place = 0; code = 9 }
          ∷ frame_of run
          ∷ frame_of sender
          ∷ frame_of receiver
          ∷ frame_of kind
          ∷ frame_of number
          ∷ frame_of status
          ∷ frame_of count
          ∷ [];
      fields = big s count.first count.size;
      next = after count;
    }

-- The header: frame 0; run, sender, receiver and message type; message number; status; number of fields.
unfoldable pub header : List ℕ → Answer Header
header s = do
  p ← magic s
  run ← frame s id_codes p
  sender ← frame s id_codes (after run)
  receiver ← frame s id_codes (after sender)
  kind ← frame s id_codes (after receiver)
  number ← frame s number_codes (after kind)
  stat ← status s (after number)
  count ← declared s (after stat)
  fine (header_of s run sender receiver kind number stat count)
