-- The starred examples of 01, "Examples", in its order, as one table; and that the definitions answer each of them so.
use Rattle.std.specs.Prelude.{ℕ, ◌*◌, ◌≡◌, refl, List, [], ◌∷◌, ◌++◌, map, take, set}
use Rattle.sim0mq.specs.Answer.{Answer, fine, refused, big, not_negative}
use Rattle.sim0mq.specs.Codes.{code_known, counts_of, marking_of, width_of, boolean}
use Rattle.sim0mq.specs.Mark.{kind_of, currency_taken, display_taken, currency, display, mark_rest, mark, marks}
use Rattle.sim0mq.specs.Field.{count, counts, mark_count, head_rest, head, booleans, booleans_of, after, outline, field}
use Rattle.sim0mq.specs.Payload.{payload_from, payload, moved, steps}
use Rattle.sim0mq.specs.Table.{row, row_size, rows}
use Rattle.sim0mq.specs.Header.{most_fields, among, status_taken, fields_taken, literal, digit, magic, frame, status, declared, header}
use Rattle.sim0mq.specs.Message.{limit, table, enough, Reading, steps_of, message_rest, message, reading}
use Rattle.sim0mq.specs.Blank.{zeroed, blanked, blanking}

-- S's header, 68 bytes: frame 0, IDVV.14.2, MC.1, MM1.4, DSOL.3, 124, change, one field (000, 2.3.6).
unfoldable pub header_of_s : List ℕ
header_of_s =
    9 ∷ 0 ∷ 0 ∷ 0 ∷ 5 ∷ 83 ∷ 73 ∷ 77 ∷ 48 ∷ 49
    ∷ 9 ∷ 0 ∷ 0 ∷ 0 ∷ 9 ∷ 73 ∷ 68 ∷ 86 ∷ 86 ∷ 46 ∷ 49 ∷ 52 ∷ 46 ∷ 50
    ∷ 9 ∷ 0 ∷ 0 ∷ 0 ∷ 4 ∷ 77 ∷ 67 ∷ 46 ∷ 49
    ∷ 9 ∷ 0 ∷ 0 ∷ 0 ∷ 5 ∷ 77 ∷ 77 ∷ 49 ∷ 46 ∷ 52
    ∷ 9 ∷ 0 ∷ 0 ∷ 0 ∷ 6 ∷ 68 ∷ 83 ∷ 79 ∷ 76 ∷ 46 ∷ 51
    ∷ 3 ∷ 0 ∷ 0 ∷ 0 ∷ 0 ∷ 0 ∷ 0 ∷ 0 ∷ 124
    ∷ 0 ∷ 2
    ∷ 1 ∷ 0 ∷ 1
    ∷ []

-- S, whose payload is the double 0.2.
unfoldable pub sample : List ℕ
unfolding header_of_s
sample = header_of_s ++ (5 ∷ 63 ∷ 201 ∷ 153 ∷ 153 ∷ 153 ∷ 153 ∷ 153 ∷ 154 ∷ [])

-- What is done to some bytes: they are read, with a table that is long enough for every message, or blanked.
pub data Deed : Type 0 where
  read : List ℕ → Deed
  blank : List ℕ → Deed

-- What comes of it: a refusal; the steps and the table's rows; or the copy.
pub data Outcome : Type 0 where
  refusal : ℕ → ℕ → Outcome
  accepted : ℕ → List ℕ → Outcome
  copy : List ℕ → Outcome

abbrev pub read_outcome : Answer Reading → Outcome
read_outcome (fine m) = accepted (steps_of m) (rows m.fields)
read_outcome (refused k p) = refusal k p

abbrev pub blank_outcome : Answer (List ℕ) → Outcome
blank_outcome (fine c) = copy c
blank_outcome (refused k p) = refusal k p

-- What is lent is long enough for every message: a table for the most fields (02, Ticket 4), and as many bytes as one
-- has.
unfoldable pub outcome : Deed → Outcome
outcome (read s) = read_outcome (reading (table (most_fields * row_size)) s)
outcome (blank s) = blank_outcome (blanking limit s)

pub record Example : Type 0 where
  pub deed : Deed
  pub gives : Outcome

infix 5 ◌gives◌
abbrev pub ◌gives◌ : Deed → Outcome → Example
d gives o = record { deed = d; gives = o }

unfoldable pub starred : List Example
unfolding header_of_s sample
starred =
    (read [] gives refusal 1 0)
    ∷ (read sample gives accepted 9 (5 ∷ 68 ∷ 69 ∷ 8 ∷ 0 ∷ 1 ∷ []))
    ∷ (read (take 76 sample) gives refusal 1 76)
    ∷ (read (sample ++ (0 ∷ [])) gives refusal 13 77)
    ∷ (read (set sample 9 50) gives refusal 3 8)
    ∷ (read (set sample 64 4) gives refusal 6 64)
    ∷ (read (set sample 67 0) gives refusal 13 68)
    ∷ (read (set sample 66 1) gives refusal 7 66)
    ∷ (read (set sample 66 0x80) gives refusal 5 66)
    ∷ (read (set sample 68 33) gives refusal 9 68)
    ∷ (read (header_of_s ++ (24 ∷ 0 ∷ 0 ∷ 0 ∷ 0 ∷ 127 ∷ 255 ∷ 255 ∷ 255 ∷ [])) gives accepted 9 (24 ∷ 68 ∷ 77 ∷ 0 ∷ 0 ∷ 0 ∷ []))
    ∷ (read (header_of_s ++ (23 ∷ 127 ∷ 255 ∷ 255 ∷ 255 ∷ 127 ∷ 255 ∷ 255 ∷ 255 ∷ [])) gives refusal 1 77)
    ∷ (read (header_of_s ++ (26 ∷ 101 ∷ 0x03 ∷ 0xD2 ∷ 21 ∷ 0x40 ∷ 0xA3 ∷ 0x88 ∷ 0 ∷ 0 ∷ 0 ∷ 0 ∷ 0 ∷ [])) gives accepted 10 (26 ∷ 68 ∷ 73 ∷ 8 ∷ 1 ∷ 1 ∷ []))
    ∷ (blank sample gives copy (header_of_s ++ (5 ∷ 0 ∷ 0 ∷ 0 ∷ 0 ∷ 0 ∷ 0 ∷ 0 ∷ 0 ∷ [])))
    ∷ []

-- Each example's deed comes to what the example gives.
pub examples_hold : map (λ (e : Example). outcome e.deed) starred ≡ map (λ (e : Example). e.gives) starred
unfolding
    starred header_of_s sample outcome blanking blanked zeroed reading message message_rest enough limit steps_of
    header declared status frame magic digit literal among status_taken fields_taken row rows row_size payload payload_from moved steps
    field outline after booleans booleans_of head head_rest counts count mark_count mark marks mark_rest display currency kind_of currency_taken
    display_taken code_known counts_of marking_of width_of boolean big not_negative
examples_hold = refl
