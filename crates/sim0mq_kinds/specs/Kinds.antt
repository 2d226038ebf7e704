-- The scalar that some bits write (01, "What reading returns"; 000, 2.1 and 2.2): floats and doubles.
use Rattle.std.specs.Prelude.{ℕ, cond}
use Rattle.std.specs.Float.{binary32, binary64}
use Rattle.std.specs.Float.Ieee.{nan_bits, of_bits}
use Rattle.sim0mq_kinds.specs.declared.Mark.{Mark}
use Rattle.sim0mq_kinds.specs.declared.Scalar.{Scalar}
use Rattle.sim0mq_kinds.specs.declared.Scalar.TheVariants.{Float, Double, FloatUnit, DoubleUnit, NotNumber}

-- The float or double of some bits (IEEE 754), exactly where they are no NaN.
unfoldable pub float_of : ℕ → Scalar
float_of x = cond (nan_bits binary32 x) (NotNumber 4) (Float (of_bits binary32 x))

unfoldable pub double_of : ℕ → Scalar
double_of x = cond (nan_bits binary64 x) (NotNumber 5) (Double (of_bits binary64 x))

unfoldable pub with_float : ℕ → Mark → Scalar
with_float x m = cond (nan_bits binary32 x) (NotNumber 25) (FloatUnit (of_bits binary32 x) m)

unfoldable pub with_double : ℕ → Mark → Scalar
with_double x m = cond (nan_bits binary64 x) (NotNumber 26) (DoubleUnit (of_bits binary64 x) m)
