-- The bytes that a scalar value is written in (000, 2.1 and 2.2): the other way round from specs/Scalars, so that
-- reading can be held against it.
use Rattle.std.specs.Prelude.{ℕ, cond, List, [], ◌∷◌, ◌++◌}
use Rattle.std.specs.Float.{binary32, binary64}
use Rattle.std.specs.Float.Ieee.{to_bits}
use Rattle.sim0mq.specs.Mark.{Kind, plain, money, money_per, unknown, kind_of}
use Rattle.sim0mq_numbers.specs.Bytes.{big_bytes}
use Rattle.sim0mq_signed.specs.Signed.{bits_of}
use Rattle.sim0mq_kinds.specs.declared.Mark.{Mark}
use Rattle.sim0mq_kinds.specs.declared.Scalar.{Scalar}
use Rattle.sim0mq_kinds.specs.declared.Scalar.TheVariants.{Byte, Short, Int, Long, Float, Double, Boolean, Char8, Char16, FloatUnit, DoubleUnit, NotNumber}

-- The bytes of the value itself; a NaN has none of its own.
unfoldable pub scalar_bytes : Scalar → List ℕ
scalar_bytes (Byte z) = big_bytes 1 (bits_of 8 z)
scalar_bytes (Short z) = big_bytes 2 (bits_of 16 z)
scalar_bytes (Int z) = big_bytes 4 (bits_of 32 z)
scalar_bytes (Long z) = big_bytes 8 (bits_of 64 z)
scalar_bytes (Float x) = big_bytes 4 (to_bits binary32 x)
scalar_bytes (Double x) = big_bytes 8 (to_bits binary64 x)
scalar_bytes (Boolean b) = cond b 1 0 ∷ []
scalar_bytes (Char8 n) = big_bytes 1 n
scalar_bytes (Char16 n) = big_bytes 2 n
scalar_bytes (FloatUnit x m) = big_bytes 4 (to_bits binary32 x)
scalar_bytes (DoubleUnit x m) = big_bytes 8 (to_bits binary64 x)
scalar_bytes (NotNumber c) = []

-- The bytes of a mark whose unit type is of this kind: the unit type, then the two bytes of a currency and then a
-- display code, where it has one.
unfoldable pub bytes_of_mark : Mark → Kind → List ℕ
bytes_of_mark m (plain t) = m.unit ∷ m.display ∷ []
bytes_of_mark m money = m.unit ∷ big_bytes 2 m.currency
bytes_of_mark m (money_per t) = m.unit ∷ (big_bytes 2 m.currency ++ (m.display ∷ []))
bytes_of_mark m unknown = m.unit ∷ []

-- The bytes of the value's mark; none where it has no mark.
unfoldable pub mark_bytes : Scalar → List ℕ
mark_bytes (Byte z) = []
mark_bytes (Short z) = []
mark_bytes (Int z) = []
mark_bytes (Long z) = []
mark_bytes (Float x) = []
mark_bytes (Double x) = []
mark_bytes (Boolean b) = []
mark_bytes (Char8 n) = []
mark_bytes (Char16 n) = []
mark_bytes (FloatUnit x m) = bytes_of_mark m (kind_of m.unit)
mark_bytes (DoubleUnit x m) = bytes_of_mark m (kind_of m.unit)
mark_bytes (NotNumber c) = []
