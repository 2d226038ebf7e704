-- What the code's parts answer, over the definitions of the sums.
use Rattle.std.specs.Prelude.{ℕ, Result}
use Rattle.sim0mq.specs.Answer.{Answer, fine, refused, ◌>>=◌, ◌>>◌, guard}
use Rattle.sim0mq.specs.declared.Refusal.{Refusal}
use Rattle.sim0mq.specs.Views.{said_as}
use Rattle.sim0mq_kinds.specs.declared.Scalar.{Scalar}
use Rattle.sim0mq_kinds.specs.declared.Scalar.TheVariants.{DoubleUnit}
use Rattle.sums_quantities.specs.declared.shown.Shown.{Shown}
use Rattle.sums_pairs.specs.Pairs.{Quantity, quantity_at}
use Rattle.sums_pairs.specs.Views.{seen, combined}
use Rattle.sums_pairs.specs.declared.Quantity as C
use Rattle.sums.specs.Sums.{measured, finite, is_finite, as_scalar}

-- What a scalar is read as: a quantity, which may be of no pair, or 17.
abbrev pub known_as : Result C.Quantity Refusal → Answer (Answer Quantity)
known_as r = said_as seen r

unfoldable pub read_of : Scalar → Answer (Answer Quantity)
read_of a = do
  m ← measured a
  fine (quantity_at m.unit m.number)

-- What two scalars are read as, combined by a rule.
unfoldable pub combined_of : (Quantity → Quantity → Answer Quantity) → Scalar → Scalar → Answer Quantity
combined_of rule a b = do
  x ← read_of a
  y ← read_of b
  combined rule x y

-- A number of this unit type as a scalar, where it is finite (25); and so what was combined.
unfoldable pub shown_as : ℕ → Shown → Answer Scalar
shown_as u x = do
  guard (finite x.value) 25 0
  fine (DoubleUnit x.value (record { unit = u; currency = 0; display = x.display }))

unfoldable pub resulting : Answer Quantity → Answer Scalar
resulting a = do
  r ← a
  guard (is_finite r) 25 0
  fine (as_scalar r)
