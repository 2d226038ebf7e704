-- The slowest message of its length: short ids, and one field of code 31 with no rows, whose marks of two bytes fill
-- it. Where the length is odd the number of fields has two bytes.
use Prim.Native.Nat.{ℕ, zero, suc, ◌+◌, ◌*◌, ◌/◌, ◌%◌, ◌<◌}
use mathlib.Core.Path.{◌≡◌, refl, ap, sym, ◌∙◌}
use mathlib.Core.Bool.{Bool, true, false, false≢true}
use mathlib.Core.List.{List, [], ◌∷◌, ◌++◌, flat_map}
use native.Mathlib.Omega.{arith}
use native.Mathlib.Nat.{zero-mul}
use lib.ListN.{length, get_or, replicate, length-append, length-replicate}
use lib.Dec.{ltb}
use borrow.Author.Tests.{ltb-true}
use Rattle.sim0mq.specs.Answer.{not_negative}
use Rattle.sim0mq.specs.Codes.{code_known, counts_of, marking_of, width_of, boolean}
use Rattle.sim0mq.specs.Mark.{kind_of, display_taken}
use Rattle.sim0mq.specs.Header.{id_codes, number_codes, status_codes, count_codes, among, status_taken, fields_taken}
use Rattle.sim0mq.specs.Allowed.{number, number_after, Each, none, more, IsCount, IsMark, with_display, FieldParts, joined, field_bytes, values_asked, columns_asked, marks_asked, IsField, IsFrame, HeaderParts, header_bytes, IsHeader, MessageParts, message_bytes, IsMessage}
use Rattle.sim0mq.specs.Demand2.{marks_in}
use Rattle.sim0mq.proofs.Answers.{and_true}
use Rattle.sim0mq.proofs.Rows.{all_pass}

-- a frame of one value
value_frame : ℕ → List ℕ → FieldParts
value_frame c bytes = record { code = c; counts = []; marks = []; values = bytes }

value_frame_lem : (codes : List ℕ) (c : ℕ) (bytes : List ℕ) → code_known c ≡ true → counts_of c ≡ 0 → marking_of c ≡ 0 → length bytes ≡ 1 * width_of c
    → boolean c ≡ false → among c codes ≡ true → IsFrame codes (value_frame c bytes)
unfolding value_frame values_asked marks_asked
value_frame_lem codes c bytes known counted marked sized other allowed =
    record {
      is_field =
          record {
            known = known;
            counted = sym counted;
            is_counts = none;
            marked = ap (λ (k : ℕ). marks_asked k []) (sym marked);
            is_marks = none;
            sized = sized;
            is_boolean = λ b. absurd (false≢true (sym other ∙ b));
          };
      allowed = allowed;
    }

-- the count 1, in one byte or in two
count_frame : Bool → FieldParts
count_frame false = value_frame 0 (1 ∷ [])
count_frame true = value_frame 1 (0 ∷ 1 ∷ [])

short_id : FieldParts
short_id = value_frame 1 (0 ∷ 0 ∷ [])

short_header : Bool → HeaderParts
short_header wide =
    record {
      run = short_id;
      sender = short_id;
      receiver = short_id;
      kind = short_id;
      message = value_frame 3 (replicate 8 0);
      status = value_frame 0 (1 ∷ []);
      count = count_frame wide;
    }

short_header_lem : (wide : Bool) → IsHeader 1 (short_header wide)
unfolding short_header short_id value_frame count_frame code_known counts_of marking_of width_of boolean among status_taken not_negative number_after fields_taken
short_header_lem wide =
    record {
      is_run = id;
      is_sender = id;
      is_receiver = id;
      is_kind = id;
      is_number = value_frame_lem number_codes 3 (replicate 8 0) refl refl refl refl refl refl;
      is_status = value_frame_lem status_codes 0 (1 ∷ []) refl refl refl refl refl refl;
      is_count = count wide;
      known = refl;
      sign = sign wide;
      declares = declares wide;
      taken = refl;
    }
  where
    id : IsFrame id_codes short_id
    id = value_frame_lem id_codes 1 (0 ∷ 0 ∷ []) refl refl refl refl refl refl

    count : (wide : Bool) → IsFrame count_codes (count_frame wide)
    count false = value_frame_lem count_codes 0 (1 ∷ []) refl refl refl refl refl refl
    count true = value_frame_lem count_codes 1 (0 ∷ 1 ∷ []) refl refl refl refl refl refl

    sign : (wide : Bool) → not_negative (get_or (count_frame wide).values 0 0) ≡ true
    sign false = refl
    sign true = refl

    declares : (wide : Bool) → number (count_frame wide).values ≡ 1
    declares false = refl
    declares true = refl

-- a mark: unit type 0 and its display code 0; and k of them
no_unit : List ℕ
no_unit = 0 ∷ 0 ∷ []

unit_marks : (k : ℕ) → Each IsMark (replicate k no_unit)
unfolding no_unit kind_of display_taken
unit_marks zero = none
unit_marks (suc k) = more (with_display refl refl) (unit_marks k)

marks_long : (k : ℕ) → length (joined (replicate k no_unit)) ≡ 2 * k
unfolding flat_map no_unit
marks_long zero = refl
marks_long (suc k) = let later = marks_long k in omega arith

-- k columns, below 65,536, each with its mark, and no rows
column_count : ℕ → List ℕ
column_count k = 0 ∷ 0 ∷ (k / 256) ∷ (k % 256) ∷ []

no_rows : ℕ → FieldParts
no_rows k = record { code = 31; counts = (0 ∷ 0 ∷ 0 ∷ 0 ∷ []) ∷ column_count k ∷ []; marks = replicate k no_unit; values = [] }

column_count_lem : (k : ℕ) → number (column_count k) ≡ k
unfolding column_count number_after
column_count_lem k = omega arith

columns_count : (k : ℕ) → IsCount (column_count k)
unfolding column_count not_negative
columns_count k = record { long = refl; sign = refl }

no_rows_lem : (k : ℕ) → IsField (no_rows k)
unfolding no_rows code_known counts_of not_negative marks_asked columns_asked marking_of values_asked width_of boolean number_after
no_rows_lem k =
    record {
      known = refl;
      counted = refl;
      is_counts = more (record { long = refl; sign = refl }) (more (columns_count k) none);
      marked = length-replicate k no_unit ∙ sym (column_count_lem k);
      is_marks = unit_marks k;
      sized = simp zero-mul;
      is_boolean = λ b. absurd (false≢true b);
    }

-- the message: its parts are a message's, and it has 35 or 36 bytes of header, nine of the field's head, two a mark
pub slowest : Bool → ℕ → MessageParts
slowest wide k = record { header = short_header wide; fields = no_rows k ∷ [] }

pub slowest_is : (wide : Bool) (k : ℕ) → IsMessage (slowest wide k)
unfolding slowest
slowest_is wide k = record { is_header = short_header_lem wide; is_fields = more (no_rows_lem k) none }

abbrev pub header_size : Bool → ℕ
header_size false = 35
header_size true = 36

pub slowest_long : (wide : Bool) (k : ℕ) → length (message_bytes (slowest wide k)) ≡ header_size wide + 9 + 2 * k
unfolding slowest short_header short_id value_frame count_frame no_rows column_count flat_map
slowest_long false k = let marks = marks_long k in simp length-append (omega arith)
slowest_long true k = let marks = marks_long k in simp length-append (omega arith)

-- each of its bytes is below 256
abbrev pub Bytes : List ℕ → Type 0
Bytes l = Each (λ (b : ℕ). b < 256) l

bytes_join : (l m : List ℕ) → Bytes l → Bytes m → Bytes (l ++ m)
bytes_join [] m none b = b
bytes_join (x ∷ l) m (more h a) b = more h (bytes_join l m a b)

small : ℕ → Bool
small b = ltb b 256

bytes_tested : (l : List ℕ) → all_pass small l ≡ true → Bytes l
unfolding all_pass small
bytes_tested [] t = none
bytes_tested (x ∷ l) t =
    let both = and_true (small x) (all_pass small l) t in more (ltb-true x 256 both.0) (bytes_tested l both.1)

marks_bytes : (k : ℕ) → Bytes (joined (replicate k no_unit))
unfolding flat_map no_unit all_pass small
marks_bytes zero = none
marks_bytes (suc k) = bytes_join no_unit (joined (replicate k no_unit)) (bytes_tested no_unit refl) (marks_bytes k)

header_tested : (wide : Bool) → all_pass small (header_bytes (short_header wide)) ≡ true
unfolding short_header short_id value_frame count_frame flat_map all_pass small
header_tested false = refl
header_tested true = refl

field_bytes_lem : (k : ℕ) → k < 65536 → Bytes (field_bytes (no_rows k))
unfolding no_rows column_count flat_map all_pass small
field_bytes_lem k h =
    let high : k / 256 < 256 = omega arith in
    let low : k % 256 < 256 = omega arith in
    bytes_join (31 ∷ 0 ∷ 0 ∷ 0 ∷ 0 ∷ 0 ∷ 0 ∷ []) _ (bytes_tested _ refl)
    (more high (more low (bytes_join (joined (replicate k no_unit)) [] (marks_bytes k) none)))

pub slowest_bytes : (wide : Bool) (k : ℕ) → k < 65536 → Bytes (message_bytes (slowest wide k))
unfolding slowest flat_map
slowest_bytes wide k h =
    bytes_join (header_bytes (short_header wide)) _ (bytes_tested _ (header_tested wide))
    (bytes_join (field_bytes (no_rows k)) [] (field_bytes_lem k h) none)

-- it has one field, with k marks
pub slowest_steps : (wide : Bool) (k : ℕ) → length (slowest wide k).fields + marks_in (slowest wide k).fields ≡ 1 + k
unfolding slowest no_rows marks_in
slowest_steps wide k = let marks = length-replicate k no_unit in omega arith
