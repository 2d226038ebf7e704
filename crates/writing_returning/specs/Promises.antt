-- What writing promises: what the writer finished reads back as it was given, and rewriting an accepted message gives
-- the same bytes (demand 2); a refusal bears a listed number at its place, and changes nothing (demand 1).
-- Each statement here is proved in proofs/Promises.antt.
use Rattle.std.specs.Prelude.{ℕ, ◌+◌, ◌-◌, ◌<◌, ◌≤◌, ◌^◌, ◌≡◌, true, ◌⊎◌, T, ℤ, pos, negsuc, length, take, drop, get_or, Some}
use mathlib.Core.List.{List, [], ◌∷◌, ◌++◌, map, flat_map}
use Rattle.std.specs.Float.{binary32, binary64}
use Rattle.std.specs.Float.Ieee.{fits}
use Rattle.sim0mq.specs.Answer.{fine, refused, byte, big}
use Rattle.sim0mq.specs.Codes.{among, width_of}
use Rattle.sim0mq.specs.Field.{Field}
use Rattle.sim0mq.specs.Header.{Frame}
use Rattle.sim0mq.specs.Message.{Lent, Reading, reading}
use Rattle.sim0mq.specs.Demand2.{Room}
use Rattle.asking_scalars.specs.Promises.{own_bytes}
use Rattle.sim0mq_signed.specs.Signed.{twos}
use Rattle.asking_scalars.specs.Scalars.{value}
use Rattle.sim0mq_kinds.specs.declared.Scalar.{Scalar}
use Rattle.sim0mq_kinds.specs.declared.Scalar.TheVariants.{Byte, Short, Int, Long, Float, Double, Boolean, Char8, Char16, FloatUnit, DoubleUnit, NotNumber}
use Rattle.writing_opening.specs.Opening.{buffer_after}
use Rattle.writing.specs.Writing.{Opening, count_code, header_text, opening, after_opening, Given, encoded, scalar, adding, after_adding, closing, after_closing}
use Rattle.writing_returning.specs.History.{Point, start, adds, closes, History, after_calls, Finished, bytes_of}
use Rattle.writing.specs.declared.Writer.{Writer}

-- A signed number of w bits; and a scalar whose numbers lie in their widths, as the types of the code see to.
abbrev pub InWidth : ℕ → ℤ → Type 0
InWidth w (pos n) = n < 2 ^ (w - 1)
InWidth w (negsuc n) = n < 2 ^ (w - 1)

abbrev pub Held : Scalar → Type 0
Held (Byte z) = InWidth 8 z
Held (Short z) = InWidth 16 z
Held (Int z) = InWidth 32 z
Held (Long z) = InWidth 64 z
Held (Float x) = T (fits binary32 x)
Held (Double x) = T (fits binary64 x)
Held (Boolean b) = Unit {0}
Held (Char8 n) = n < 256
Held (Char16 n) = n < 65536
Held (FloatUnit x m) = T (fits binary32 x)
Held (DoubleUnit x m) = T (fits binary64 x)
Held (NotNumber c) = Unit {0}

-- The place of frame k that reading found.
abbrev pub frame_place : Reading → ℕ → ℕ
frame_place m k = get_or (map (λ (f : Frame). f.place) m.frames) k 0

-- The header that reading found in s is the one that opening was asked for: the four ids from frame 1 to frame 5, the
-- message number, the status, the declared number of fields with its type.
pub record SaysHeader (o : Opening) (s : List ℕ) (m : Reading) : Type 0 where
  pub ids : take (frame_place m 5 - frame_place m 1) (drop (frame_place m 1) s) ≡ o.ids
  pub number : InWidth 64 o.number → twos 64 (big s (frame_place m 5 + 1) 8) ≡ o.number
  pub status : byte s (frame_place m 6 + 1) ≡ o.status
  pub kind : byte s (frame_place m 7) ≡ count_code o.kind
  pub count : big s (frame_place m 7 + 1) (width_of (count_code o.kind)) ≡ o.fields

-- The message s is accepted, with any table that is long enough and with none, and reads back as the header and exactly
-- the fields that were given, in order: each field's bytes, and each scalar as the value that asking returns.
pub record ReadsBack (o : Opening) (gs : List Given) (s : List ℕ) : Type 0 where
  pub found : Reading
  pub accepted : (lent : Lent) → Room lent s → reading lent s ≡ fine found
  pub header : SaysHeader o s found
  pub fields : map (own_bytes s) found.fields ≡ map bytes_of gs
  pub scalars : (before after : List Given) (v : Scalar) → gs ≡ before ++ (scalar v ∷ after) → Held v → value s (length before) ≡ fine v

abbrev pub FinishedReadsBack : Type 0
FinishedReadsBack = (o : Opening) (out : List ℕ) (p : Point) (s : List ℕ) → History o out p → Finished p s → ReadsBack o p.given s

-- At every point of a history the buffer holds the header and the added fields, and beyond them what it held before.
pub record Holds (o : Opening) (out : List ℕ) (p : Point) : Type 0 where
  pub buffer : p.buffer ≡ header_text o ++ (flat_map bytes_of p.given ++ drop p.writer.written out)
  pub written : p.writer.written ≡ length (header_text o) + length (flat_map bytes_of p.given)
  pub room : p.writer.written ≤ length out
  pub declared : p.writer.declared ≡ o.fields
  pub added : p.writer.added ≡ length p.given

abbrev pub BufferHoldsWhatWasWritten : Type 0
BufferHoldsWhatWasWritten = (o : Opening) (out : List ℕ) (p : Point) → History o out p → Holds o out p

-- Without a granted closing there is no finished message.
abbrev pub NoMessageWithoutClosing : Type 0
NoMessageWithoutClosing = (o : Opening) (out : List ℕ) (p : Point) (s : List ℕ) → History o out p → p.closings ≡ 0 → Finished p s → ⊥

-- What opening is asked for to rewrite a message: its four id frames, number, status and count, with its own count
-- type.
abbrev pub own_opening : List ℕ → Reading → Opening
own_opening s m =
    record {
      ids = take (frame_place m 5 - frame_place m 1) (drop (frame_place m 1) s);
      number = twos 64 (big s (frame_place m 5 + 1) 8);
      status = byte s (frame_place m 6 + 1);
      fields = length m.fields;
      kind = Some (byte s (frame_place m 7));
    }

-- Its fields, as encoded fields.
abbrev pub own_fields : List ℕ → Reading → List Given
own_fields s m = map (λ (f : Field). encoded (own_bytes s f)) m.fields

-- The point after rewriting it: each field is added in turn, then the message is closed.
abbrev pub rewritten : List ℕ → Reading → List ℕ → Point
rewritten s m out = after_calls (start (own_opening s m) out) (map adds (own_fields s m) ++ (closes ∷ []))

-- The opening, every adding and the closing are granted, and the finished message is s.
pub record Rewrites (s : List ℕ) (m : Reading) (out : List ℕ) : Type 0 where
  pub opens : opening (own_opening s m) (length out) ≡ fine (header_text (own_opening s m))
  pub adds : (rewritten s m out).given ≡ own_fields s m
  pub closes : (rewritten s m out).closings ≡ 1
  pub same : Finished (rewritten s m out) s

-- Rewriting an accepted message, in a buffer with room, gives the same bytes.
abbrev pub RewritingGivesTheSame : Type 0
RewritingGivesTheSame =
    (lent : Lent) (s out : List ℕ) (m : Reading) → ((i : ℕ) → byte s i < 256) → reading lent s ≡ fine m
    → length s ≤ length out → Rewrites s m out

-- A refusal bears one of these numbers, at a place within the bytes l that were handed over; or one of those, at 0.
abbrev pub PlacedIn : List ℕ → List ℕ → List ℕ → ℕ → ℕ → Type 0
PlacedIn numbers l others number place =
    ((among number numbers ≡ true) × (place ≤ length l)) ⊎ ((among number others ≡ true) × (place ≡ 0))

-- The numbers that 01 lists, with 19 (02, Ticket 2), for each call of the writer. Opening: those of the ids; then
-- status, count type, count, length, room. Adding: those of a payload of one field; then the state, length, room, and
-- 17 for a scalar. Closing: the state.
abbrev pub id_numbers : List ℕ
id_numbers = 1 ∷ 4 ∷ 5 ∷ 13 ∷ []

abbrev pub open_numbers : List ℕ
open_numbers = 6 ∷ 4 ∷ 7 ∷ 8 ∷ 14 ∷ []

abbrev pub field_numbers : List ℕ
field_numbers = 9 ∷ 1 ∷ 5 ∷ 11 ∷ 12 ∷ 19 ∷ 10 ∷ 13 ∷ []

abbrev pub add_numbers : List ℕ
add_numbers = 15 ∷ 8 ∷ 14 ∷ []

-- Every refusal of the writer bears one of them: within the ids, within the field, else at 0.
pub record WriterPlaces (o : Opening) (w : Writer) (room number place : ℕ) : Type 0 where
  pub opens : opening o room ≡ refused number place → PlacedIn id_numbers o.ids open_numbers number place
  pub adds : (l : List ℕ) → adding w room (encoded l) ≡ refused number place → PlacedIn field_numbers l add_numbers number place
  pub scalars : (v : Scalar) → adding w room (scalar v) ≡ refused number place
      → (among number (17 ∷ add_numbers) ≡ true) × (place ≡ 0)
  pub closes : closing w ≡ refused number place → (number ≡ 15) × (place ≡ 0)

abbrev pub WriterRefusalsArePlaced : Type 0
WriterRefusalsArePlaced = (o : Opening) (w : Writer) (room number place : ℕ) → WriterPlaces o w room number place

-- A refused call changes no byte, and hands back the state that it took; a refused opening, a closed state with every
-- number 0.
pub record RefusalKeeps (o : Opening) (w : Writer) (out : List ℕ) (g : Given) (number place : ℕ) : Type 0 where
  pub opened : opening o (length out) ≡ refused number place → buffer_after out 0 (opening o (length out)) ≡ out
  pub shut : opening o (length out) ≡ refused number place
      → (after_opening o (opening o (length out))).writer ≡ record { written = 0; declared = 0; added = 0; closed = true }
  pub added : adding w (length out) g ≡ refused number place → buffer_after out w.written (adding w (length out) g) ≡ out
  pub kept : adding w (length out) g ≡ refused number place → (after_adding w (adding w (length out) g)).writer ≡ w
  pub unclosed : closing w ≡ refused number place → (after_closing w (closing w)).writer ≡ w

abbrev pub RefusedCallChangesNothing : Type 0
RefusedCallChangesNothing = (o : Opening) (w : Writer) (out : List ℕ) (g : Given) (number place : ℕ) → RefusalKeeps o w out g number place
