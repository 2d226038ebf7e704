-- A scalar in numbers: its kind, its bits, and the three numbers of its mark.
use Rattle.std.specs.Prelude.{ℕ, cond, ◌&&◌, List, [], ◌∷◌, leb, eqb, replicate}
use Rattle.std.specs.Float.{binary32, binary64}
use Rattle.std.specs.Float.Ieee.{to_bits}
use Rattle.sim0mq.specs.Answer.{Answer, fine, refused}
use Rattle.sim0mq_signed.specs.Signed.{twos, bits_of}
use Rattle.sim0mq_kinds.specs.Kinds.{float_of, double_of, with_float, with_double}
use Rattle.sim0mq_kinds.specs.declared.Mark.{Mark}
use Rattle.sim0mq_kinds.specs.declared.Scalar.{Scalar}
use Rattle.sim0mq_kinds.specs.declared.Scalar.TheVariants.{Byte, Short, Int, Long, Float, Double, Boolean, Char8, Char16, FloatUnit, DoubleUnit, NotNumber}

-- Of a scalar with a mark: kind, bits, unit type, currency and display.
abbrev pub with_mark : ℕ → ℕ → Mark → List ℕ
with_mark kind bits m = kind ∷ bits ∷ m.unit ∷ m.currency ∷ m.display ∷ []

-- Of a scalar with none.
abbrev pub with_none : ℕ → ℕ → List ℕ
with_none kind bits = kind ∷ bits ∷ 0 ∷ 0 ∷ 0 ∷ []

-- The kind, and the bits: two's complement of the value's own width, IEEE 754's bits, 1 for true, the character; of
-- what is not a number, the code.
unfoldable pub scalar_numbers : Scalar → List ℕ
scalar_numbers (Byte z) = with_none 0 (bits_of 8 z)
scalar_numbers (Short z) = with_none 1 (bits_of 16 z)
scalar_numbers (Int z) = with_none 2 (bits_of 32 z)
scalar_numbers (Long z) = with_none 3 (bits_of 64 z)
scalar_numbers (Float x) = with_none 4 (to_bits binary32 x)
scalar_numbers (Double x) = with_none 5 (to_bits binary64 x)
scalar_numbers (Boolean b) = with_none 6 (cond b 1 0)
scalar_numbers (Char8 n) = with_none 7 n
scalar_numbers (Char16 n) = with_none 8 n
scalar_numbers (FloatUnit x m) = with_mark 9 (to_bits binary32 x) m
scalar_numbers (DoubleUnit x m) = with_mark 10 (to_bits binary64 x) m
scalar_numbers (NotNumber c) = with_none 11 c

-- A value, 7 numbers: number, place, and the scalar's five.
abbrev pub value_numbers : Answer Scalar → List ℕ
value_numbers (fine v) = 0 ∷ 0 ∷ scalar_numbers v
value_numbers (refused k p) = k ∷ p ∷ replicate 5 0

-- The other way, the scalar of a kind, of bits and of a mark: the kinds of 8 bits; those of 16; those of 32; and all.
-- What is of no kind, or has more bits than its kind, and a NaN, is not a number, which adding refuses by 17.
unfoldable pub from8 : ℕ → ℕ → Scalar
from8 kind x =
    cond (eqb kind 0) (Byte (twos 8 x))
    (cond (eqb kind 7) (Char8 x)
    (cond (eqb kind 6 && leb x 1) (Boolean (eqb x 1))
    (NotNumber 0)))

unfoldable pub from16 : ℕ → ℕ → Scalar
from16 kind x =
    cond (eqb kind 1) (Short (twos 16 x))
    (cond (eqb kind 8) (Char16 x)
    (cond (leb x 255) (from8 kind x)
    (NotNumber 0)))

unfoldable pub from32 : ℕ → ℕ → Mark → Scalar
from32 kind x m =
    cond (eqb kind 2) (Int (twos 32 x))
    (cond (eqb kind 4) (float_of x)
    (cond (eqb kind 9) (with_float x m)
    (cond (leb x 65535) (from16 kind x)
    (NotNumber 0))))

unfoldable pub scalar_from : ℕ → ℕ → Mark → Scalar
scalar_from kind x m =
    cond (eqb kind 3) (Long (twos 64 x))
    (cond (eqb kind 5) (double_of x)
    (cond (eqb kind 10) (with_double x m)
    (cond (leb x 4294967295) (from32 kind x m)
    (NotNumber 0))))

abbrev pub mark_from : ℕ → ℕ → ℕ → Mark
mark_from unit currency display = record { unit = unit; currency = currency; display = display }
