-- What the manual allows (000, chapter 2, with 01's rulings), as strings of bytes: no refusal, no place and no order of
-- judging. With the judges it shares the rows of the tables and the tests of a single number, and nothing else.
use Rattle.std.specs.Prelude.{ℕ, zero, suc, ◌+◌, ◌*◌, ◌≤◌, ◌<◌, ◌≡◌, true, length, get_or}
use mathlib.Core.List.{List, [], ◌∷◌, ◌++◌, flat_map}
use Rattle.sim0mq.specs.Answer.{not_negative}
use Rattle.sim0mq.specs.Codes.{code_known, counts_of, marking_of, width_of, boolean}
use Rattle.sim0mq.specs.Mark.{kind_of, plain, money, money_per, currency_taken, display_taken}
use Rattle.sim0mq.specs.Header.{magic_bytes, id_codes, number_codes, status_codes, count_codes, among, status_taken, fields_taken}

-- The number that bytes write in big-endian order, after those that write n.
unfoldable pub number_after : ℕ → List ℕ → ℕ
number_after n [] = n
number_after n (b ∷ bs) = number_after (n * 256 + b) bs

abbrev pub number : List ℕ → ℕ
number bs = number_after 0 bs

-- Each of these is a P.
pub data Each {A : Type 0} (P : A → Type 0) : List A → Type 0 where
  none : Each P []
  more : {x : A} {xs : List A} → P x → Each P xs → Each P (x ∷ xs)

-- The bytes of a count: four, not negative (01, "Payload fields").
pub record IsCount (bytes : List ℕ) : Type 0 where
  pub long : length bytes ≡ 4
  pub sign : not_negative (get_or bytes 0 0) ≡ true

-- The bytes of a mark: unit type and display code; unit type and currency code; or unit type, currency code and display
-- code (000, 2.2 and 2.2.9).
pub data IsMark : List ℕ → Type 0 where
  with_display : {u t d : ℕ} → kind_of u ≡ plain t → display_taken t d ≡ true → IsMark (u ∷ d ∷ [])
  with_currency : {u h l : ℕ} → kind_of u ≡ money → currency_taken (number (h ∷ l ∷ [])) ≡ true → IsMark (u ∷ h ∷ l ∷ [])
  with_both : {u t h l d : ℕ} → kind_of u ≡ money_per t → currency_taken (number (h ∷ l ∷ [])) ≡ true → display_taken t d ≡ true
      → IsMark (u ∷ h ∷ l ∷ d ∷ [])

-- The strings that a field is made of, and the field's bytes: the code, the counts, the marks, the values.
pub record FieldParts : Type 0 where
  pub code : ℕ
  pub counts : List (List ℕ)
  pub marks : List (List ℕ)
  pub values : List ℕ

-- Strings end to end.
abbrev pub joined : List (List ℕ) → List ℕ
joined strings = flat_map (λ (l : List ℕ). l) strings

abbrev pub field_bytes : FieldParts → List ℕ
field_bytes f = f.code ∷ (joined f.counts ++ (joined f.marks ++ f.values))

-- How many values counts ask for: one without a count, as many as the count says, or rows times columns (000, 2.1.1 to
-- 2.1.3).
unfoldable pub values_asked : List (List ℕ) → ℕ
values_asked [] = 1
values_asked (n ∷ []) = number n
values_asked (r ∷ c ∷ others) = number r * number c

-- How many columns counts say: the second count.
unfoldable pub columns_asked : List (List ℕ) → ℕ
columns_asked [] = 1
columns_asked (n ∷ []) = 1
columns_asked (r ∷ c ∷ others) = number c

-- How many marks a marking of 01's table asks for: none, one, or one per column (000, 2.2.1 to 2.2.8).
unfoldable pub marks_asked : ℕ → List (List ℕ) → ℕ
marks_asked zero counts = 0
marks_asked (suc zero) counts = 1
marks_asked (suc (suc k)) counts = columns_asked counts

-- These parts are a field's (01, "Payload fields").
pub record IsField (f : FieldParts) : Type 0 where
  pub known : code_known f.code ≡ true
  pub counted : length f.counts ≡ counts_of f.code
  pub is_counts : Each IsCount f.counts
  pub marked : length f.marks ≡ marks_asked (marking_of f.code) f.counts
  pub is_marks : Each IsMark f.marks
  pub sized : length f.values ≡ values_asked f.counts * width_of f.code
  pub is_boolean : boolean f.code ≡ true → (i : ℕ) → i < length f.values → get_or f.values i 0 ≤ 1

-- A header frame after frame 0 is a field whose code is one of these (01, "The eight header frames").
pub record IsFrame (codes : List ℕ) (f : FieldParts) : Type 0 where
  pub is_field : IsField f
  pub allowed : among f.code codes ≡ true

-- The frames 1 to 7 of a header, and the header's bytes. Frame 0 is 9 0 0 0 5 S I M, then 0 and 1 in ASCII.
pub record HeaderParts : Type 0 where
  pub run : FieldParts
  pub sender : FieldParts
  pub receiver : FieldParts
  pub kind : FieldParts
  pub message : FieldParts
  pub status : FieldParts
  pub count : FieldParts

abbrev pub frame0 : List ℕ
frame0 = magic_bytes ++ (48 ∷ 49 ∷ [])

abbrev pub header_frames : HeaderParts → List FieldParts
header_frames h = h.run ∷ h.sender ∷ h.receiver ∷ h.kind ∷ h.message ∷ h.status ∷ h.count ∷ []

abbrev pub header_bytes : HeaderParts → List ℕ
header_bytes h = frame0 ++ flat_map field_bytes (header_frames h)

-- These parts are those of a header that declares n fields (01, "The eight header frames"; 000, 2.3).
pub record IsHeader (n : ℕ) (h : HeaderParts) : Type 0 where
  pub is_run : IsFrame id_codes h.run
  pub is_sender : IsFrame id_codes h.sender
  pub is_receiver : IsFrame id_codes h.receiver
  pub is_kind : IsFrame id_codes h.kind
  pub is_number : IsFrame number_codes h.message
  pub is_status : IsFrame status_codes h.status
  pub is_count : IsFrame count_codes h.count
  pub known : status_taken (get_or h.status.values 0 0) ≡ true
  pub sign : not_negative (get_or h.count.values 0 0) ≡ true
  pub declares : number h.count.values ≡ n
  pub taken : fields_taken n ≡ true

-- The parts of a message, a header and the payload's fields; and the message's bytes.
pub record MessageParts : Type 0 where
  pub header : HeaderParts
  pub fields : List FieldParts

abbrev pub message_bytes : MessageParts → List ℕ
message_bytes m = header_bytes m.header ++ flat_map field_bytes m.fields

-- These parts are a message's: a header, and as many fields as it declares.
pub record IsMessage (m : MessageParts) : Type 0 where
  pub is_header : IsHeader (length m.fields) m.header
  pub is_fields : Each IsField m.fields

-- The manual allows s as a message of at most `most` bytes, cut into these parts.
pub record Allowed (most : ℕ) (s : List ℕ) : Type 0 where
  pub parts : MessageParts
  pub is_message : IsMessage parts
  pub whole : message_bytes parts ≡ s
  pub short : length s ≤ most
