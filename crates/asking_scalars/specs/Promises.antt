-- What asking for a value promises: it is refused as asking for the field is, or by 17; a NaN is told; and a value is
-- that of its field's bytes and gives them back. Each statement here is proved in proofs/Promises.antt.
use Rattle.std.specs.Prelude.{ℕ, ◌+◌, ◌-◌, ◌<◌, ◌≡◌, true, false, ◌↔◌, ◌⊎◌, List, [], ◌∷◌, take, drop}
use Rattle.std.specs.Float.{binary32, binary64}
use Rattle.std.specs.Float.Ieee.{nan_bits}
use Rattle.sim0mq.specs.Answer.{Answer, fine, refused, ◌>>=◌, byte, big}
use Rattle.sim0mq.specs.Codes.{among}
use Rattle.sim0mq.specs.Field.{Field, after, field}
use Rattle.asking.specs.Asking.{asked, view_of}
use Rattle.asking_scalars.specs.Scalars.{scalar_of, value}
use Rattle.asking_scalars.specs.Bytes.{scalar_bytes, mark_bytes}
use Rattle.sim0mq_kinds.specs.declared.Scalar.{Scalar}
use Rattle.sim0mq_kinds.specs.declared.Scalar.TheVariants.{NotNumber}

-- The codes of the fields that have a scalar value (01, "What reading returns").
abbrev pub scalar_codes : List ℕ
scalar_codes = 0 ∷ 1 ∷ 2 ∷ 3 ∷ 4 ∷ 5 ∷ 6 ∷ 7 ∷ 8 ∷ 25 ∷ 26 ∷ []

-- Asking for the value of field k is refused as asking for the field is; where a field is found, it is answered exactly
-- where the field's code is one of these, and by 17 at 0 where it is not. No other value is refused by 17.
pub record ValuesAsItAsks (s : List ℕ) (k : ℕ) : Type 0 where
  pub refuses : (number place : ℕ) → asked s k ≡ refused number place → value s k ≡ refused number place
  pub seventeen : (place : ℕ)
      → value s k ≡ refused 17 place
      ↔ (((f : Field) × (asked s k ≡ fine f) × (among f.code scalar_codes ≡ false)) × (place ≡ 0))
  pub finds : (f : Field) → asked s k ≡ fine f → among f.code scalar_codes ≡ true → (v : Scalar) × (value s k ≡ fine v)

abbrev pub ValueAgreesWithAsking : Type 0
ValueAgreesWithAsking = (s : List ℕ) (k : ℕ) → ValuesAsItAsks s k

-- The value bytes of this field are those of a float or a double, with or without a mark, and their bits are a NaN's
-- (IEEE 754).
abbrev pub HoldsNaN : List ℕ → Field → Type 0
HoldsNaN s f =
    (((f.code ≡ 4) ⊎ (f.code ≡ 25)) × (nan_bits binary32 (big s f.first 4) ≡ true))
    ⊎ (((f.code ≡ 5) ⊎ (f.code ≡ 26)) × (nan_bits binary64 (big s f.first 8) ≡ true))

-- The value is told to be no number, with the field's code, exactly where its bits are a NaN's.
abbrev pub NotANumberExactly : Type 0
NotANumberExactly =
    (s : List ℕ) (f : Field) (c : ℕ) → (scalar_of s f ≡ fine (NotNumber c)) ↔ ((c ≡ f.code) × HoldsNaN s f)

-- The bytes of a field, and the value that these bytes have by themselves: they are judged as a field, and its value is
-- told.
abbrev pub own_bytes : List ℕ → Field → List ℕ
own_bytes s f = take (after f - f.place) (drop f.place s)

abbrev pub value_alone : List ℕ → Answer Scalar
value_alone l = do
  f ← field l 0
  scalar_of l f

-- A value is determined by its field's bytes: it is the one that they have by themselves, whatever else the message
-- holds.
abbrev pub ValueIsItsBytes : Type 0
ValueIsItsBytes =
    (s : List ℕ) (k : ℕ) (f : Field) → asked s k ≡ fine f → scalar_of s f ≡ value_alone (own_bytes s f)

-- The value's bytes are those of the field's view, and its mark's bytes are those that stand between the field's code
-- and its first value byte.
pub record WritesBack (s : List ℕ) (f : Field) (v : Scalar) : Type 0 where
  pub itself : scalar_bytes v ≡ view_of s (fine f)
  pub mark : mark_bytes v ≡ take (f.first - (f.place + 1)) (drop (f.place + 1) s)

-- A value, unless it is told to be no number, gives back the bytes that it was read from.
abbrev pub ValueGivesBackItsBytes : Type 0
ValueGivesBackItsBytes =
    (s : List ℕ) (k : ℕ) (f : Field) (v : Scalar) → ((i : ℕ) → byte s i < 256) → value s k ≡ fine v
    → asked s k ≡ fine f → ((c : ℕ) → v ≡ NotNumber c → ⊥) → WritesBack s f v
