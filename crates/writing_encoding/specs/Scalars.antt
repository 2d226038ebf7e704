-- The field that a scalar is written as, and which scalars may be written (01, "The writer"; 000, 2.1 and 2.2).
use Rattle.std.specs.Prelude.{ℕ, Bool, true, false, not, ◌&&◌, List, ◌∷◌, ◌++◌, eqb}
use Rattle.std.specs.Float.Ieee.{is_nan}
use Rattle.sim0mq.specs.Answer.{Answer, fine, ◌>>◌, guard}
use Rattle.sim0mq.specs.Mark.{Kind, plain, money, money_per, unknown, kind_of, currency_taken, display_taken}
use Rattle.asking_scalars.specs.Bytes.{scalar_bytes, mark_bytes}
use Rattle.sim0mq_kinds.specs.declared.Mark.{Mark}
use Rattle.sim0mq_kinds.specs.declared.Scalar.{Scalar}
use Rattle.sim0mq_kinds.specs.declared.Scalar.TheVariants.{Byte, Short, Int, Long, Float, Double, Boolean, Char8, Char16, FloatUnit, DoubleUnit, NotNumber}

-- The code of the field that holds it.
unfoldable pub code_of : Scalar → ℕ
code_of (Byte z) = 0
code_of (Short z) = 1
code_of (Int z) = 2
code_of (Long z) = 3
code_of (Float x) = 4
code_of (Double x) = 5
code_of (Boolean b) = 6
code_of (Char8 n) = 7
code_of (Char16 n) = 8
code_of (FloatUnit x m) = 25
code_of (DoubleUnit x m) = 26
code_of (NotNumber c) = c

-- The field's bytes: the code, the mark where it has one, the value.
unfoldable pub scalar_text : Scalar → List ℕ
scalar_text v = code_of v ∷ (mark_bytes v ++ scalar_bytes v)

-- Does reading take a mark, whose unit type is of this kind, and give just these numbers for it? Where a kind has no
-- currency or no display code, 0 stands.
unfoldable pub mark_taken : Mark → Kind → Bool
mark_taken m (plain t) = eqb m.currency 0 && display_taken t m.display
mark_taken m money = currency_taken m.currency && eqb m.display 0
mark_taken m (money_per t) = currency_taken m.currency && display_taken t m.display
mark_taken m unknown = false

-- May a scalar be written (01, refusal 17)? Not "not a number", no NaN, and no mark that reading would refuse or never
-- gives.
unfoldable pub writable : Scalar → Bool
writable (Byte z) = true
writable (Short z) = true
writable (Int z) = true
writable (Long z) = true
writable (Float x) = not (is_nan x)
writable (Double x) = not (is_nan x)
writable (Boolean b) = true
writable (Char8 n) = true
writable (Char16 n) = true
writable (FloatUnit x m) = not (is_nan x) && mark_taken m (kind_of m.unit)
writable (DoubleUnit x m) = not (is_nan x) && mark_taken m (kind_of m.unit)
writable (NotNumber c) = false

-- The field that a scalar gives, or 17 at 0.
unfoldable pub scalar_given : Scalar → Answer (List ℕ)
scalar_given v = do
  guard (writable v) 17 0
  fine (scalar_text v)
