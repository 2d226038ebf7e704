-- The sum and the difference of two scalars (02, Ticket 12).
use Rattle.std.specs.Prelude.{ℕ, ◌≡◌, refl, Bool, true, false, ◌&&◌, Float}
use Rattle.std.specs.Float.{nan, inf, fin}
use Rattle.sim0mq.specs.Answer.{Answer, fine, refused, ◌>>=◌, ◌>>◌, guard}
use Rattle.sim0mq.specs.Mark.{kind_of, display_taken}
use Rattle.sim0mq_kinds.specs.declared.Mark.{Mark}
use Rattle.sim0mq_kinds.specs.declared.Scalar.{Scalar}
use Rattle.sim0mq_kinds.specs.declared.Scalar.TheVariants.{Byte, Short, Int, Long, Float as Single, Double, Boolean, Char8, Char16, FloatUnit, DoubleUnit, NotNumber}
use Rattle.writing_encoding.specs.Scalars.{mark_taken}
use Rattle.sums_quantities.specs.declared.shown.Shown.{Shown}
use Rattle.sums_pairs.specs.Pairs.{Quantity, unit_of, number_of, quantity_in, quantity_at, quantity_sum, quantity_difference}

-- A double with its unit: the unit type, and the number with its display code.
pub record Measured : Type 0 where
  pub unit : ℕ
  pub number : Shown

-- The double with its unit that a scalar is; 17 where it is none, or its mark is none that reading gives.
unfoldable pub measured : Scalar → Answer Measured
measured (Byte z) = refused 17 0
measured (Short z) = refused 17 0
measured (Int z) = refused 17 0
measured (Long z) = refused 17 0
measured (Single x) = refused 17 0
measured (Double x) = refused 17 0
measured (Boolean b) = refused 17 0
measured (Char8 n) = refused 17 0
measured (Char16 n) = refused 17 0
measured (FloatUnit x m) = refused 17 0
measured (DoubleUnit x m) = do
  guard (mark_taken m (kind_of m.unit)) 17 0
  fine (record { unit = m.unit; number = record { value = x; display = m.display } })
measured (NotNumber c) = refused 17 0

-- The scalar that a quantity is; its mark has no currency.
abbrev pub as_scalar : Quantity → Scalar
as_scalar q = DoubleUnit (number_of q).value (record { unit = unit_of q; currency = 0; display = (number_of q).display })

-- Neither infinite nor a NaN.
unfoldable pub finite : Float → Bool
finite nan = false
finite (inf s) = false
finite (fin s m e) = true

abbrev pub is_finite : Quantity → Bool
is_finite q = finite (number_of q).value

-- The answer for two doubles with their units by a rule: 24, then 25 where an operand or the result is infinite or
-- holds a NaN.
abbrev pub answer_of : (Quantity → Quantity → Answer Quantity) → Measured → Measured → Answer Scalar
answer_of rule m n = do
  x ← quantity_at m.unit m.number
  y ← quantity_at n.unit n.number
  r ← rule x y
  guard (is_finite x && is_finite y && is_finite r) 25 0
  fine (as_scalar r)

-- And for two scalars: 17 for each, before all else.
unfoldable pub answer : (Quantity → Quantity → Answer Quantity) → Scalar → Scalar → Answer Scalar
answer rule a b = do
  m ← measured a
  n ← measured b
  answer_of rule m n

abbrev pub sum_of : Scalar → Scalar → Answer Scalar
sum_of = answer quantity_sum

abbrev pub difference_of : Scalar → Scalar → Answer Scalar
difference_of = answer quantity_difference

-- The order on the smallest cases: 17 of the second operand comes before 24 of the first, which is a speed and of no
-- pair; and 24 of two positions before 25, though they hold a NaN.
abbrev marked : ℕ → Mark
marked u = record { unit = u; currency = 0; display = 0 }

pub seventeen_first : (x : Float) → sum_of (DoubleUnit x (marked 22)) (Double x) ≡ refused 17 0
unfolding answer measured mark_taken kind_of display_taken
seventeen_first x = refl

pub twenty_four_next : sum_of (DoubleUnit nan (marked 17)) (DoubleUnit nan (marked 17)) ≡ refused 24 0
unfolding answer measured mark_taken kind_of display_taken quantity_in quantity_sum
twenty_four_next = refl
