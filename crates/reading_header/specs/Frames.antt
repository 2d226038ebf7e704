-- What the header's functions answer, over the definitions of the format.
use Rattle.std.specs.Prelude.{ℕ, zero, suc, ◌+◌, ◌≡◌, Bool, true, false, cond, ◌&&◌, List, [], ◌∷◌, ◌++◌, map, length, leb, eqb, ltb, Result}
use Rattle.sim0mq.specs.Answer.{Answer, fine, refused, ◌>>=◌, byte, big}
use Rattle.sim0mq.specs.Codes.{boolean}
use Rattle.sim0mq.specs.Field.{Field, after}
use Rattle.sim0mq.specs.Header as H
use Rattle.sim0mq.specs.Header.{id_codes, number_codes, frame, status, declared, frame_of, among}
use Rattle.sim0mq.specs.declared.Refusal.{Refusal}
use Rattle.sim0mq.specs.Views.{number_of, said_as}
use Rattle.reading_fields.specs.Items.{seen}
use Rattle.reading_header.specs.declared.Frame.{Frame}
use Rattle.reading_header.specs.declared.Answer as A
use Rattle.reading_header.specs.declared.End.{End}
use Rattle.reading_header.specs.declared.Count.{Count}

-- None of these codes is a Boolean's.
abbrev pub NoBoolean : List ℕ → Type 0
NoBoolean codes = (c : ℕ) → among c codes ≡ true → boolean c ≡ false

-- Is this a string of bytes that is all there, in bytes so few that its count is not negative?
unfoldable pub is_text : List ℕ → ℕ → Bool
is_text s at = ltb (length s) 2147483648 && eqb (byte s at) 9 && leb (at + 5 + big s (at + 1) 4) (length s)

-- Frame k, one of 1 to 6.
unfoldable pub nth_frame : List ℕ → ℕ → ℕ → Answer Field
nth_frame s k at = cond (leb k 4) (frame s id_codes at) (cond (eqb k 5) (frame s number_codes at) (status s at))

-- Frame 7, with the number that it declares.
pub record Declares : Type 0 where
  pub field : Field
  pub number : ℕ

abbrev pub declares : List ℕ → Field → Declares
declares s f = record { field = f; number = big s f.first f.size }

unfoldable pub declared_number : List ℕ → ℕ → Answer Declares
declared_number s at = do
  f ← declared s at
  fine (declares s f)

-- The header that ends with frame 7, after the frames `done`.
abbrev pub header_ending : List H.Frame → Declares → H.Header
header_ending done d = record { frames = done ++ (frame_of d.field ∷ []); fields = d.number; next = after d.field }

-- The header from frame k on, n frames before frame 7, after the frames `done`.
unfoldable pub header_from : List ℕ → ℕ → ℕ → List H.Frame → ℕ → Answer H.Header
header_from s zero k done at = do
  d ← declared_number s at
  fine (header_ending done d)
header_from s (suc n) k done at = do
  f ← nth_frame s k at
  header_from s n (k + 1) (done ++ (frame_of f ∷ [])) (after f)

-- The header after frame 0, which ends at `at`.
abbrev pub header_rest : List ℕ → ℕ → Answer H.Header
header_rest s at = header_from s 6 1 (record { place = 0; code = 9 } ∷ []) at

-- Each case of an answer, as an answer of the definitions; and the whole answer, told by the definition and by the
-- frames that went in.
abbrev pub declares_as : Count → Declares
declares_as c = record { field = seen c.field; number = c.number }

abbrev pub counted : Result Count Refusal → Answer Declares
counted r = said_as declares_as r

abbrev pub framed : H.Frame → Frame
framed f = record { place = f.place; code = f.code }

abbrev pub shown : Frame → H.Frame
shown f = record { place = f.place; code = f.code }

-- What the header's reader tells, and the frames beside it.
pub record Told : Type 0 where
  pub said : Answer End
  pub frames : List Frame

abbrev pub told_as : A.Answer → Told
told_as a = record { said = said_as (λ e. e) a.said; frames = a.frames }

abbrev pub told : List Frame → Answer H.Header → Told
told frames (fine h) = record { said = fine (record { fields = h.fields; next = h.next }); frames = map framed h.frames }
told frames (refused k p) = record { said = refused k p; frames = frames }

-- A refusal of the code, as an answer of the definitions.
abbrev pub refused_as : Refusal → Answer H.Header
refused_as r = refused (number_of r.reason) r.place
