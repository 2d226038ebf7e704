-- A float differs from itself exactly where it is a NaN.
use mathlib.Core.Path.{◌≡◌, refl, sym, ap, ◌∙◌}
use mathlib.Core.Bool.{true, false}
use lib.Ieee.{Float, nan, inf, fin, is_nan, ne}
use lib.Ieee.Bits.{nan_bits_above}
use borrow.Author.Tests.{lt-ltb, le-ltb}
use lib.Ieee.Compare.{nan_differs, differs_from_itself}

pub no_nan : (x : Float) → ne x x ≡ false → is_nan x ≡ false
unfolding is_nan
no_nan nan e = sym nan_differs ∙ e
no_nan (inf s) e = refl
no_nan (fin s m k) e = refl

pub is_nan_lem : (x : Float) → ne x x ≡ true → is_nan x ≡ true
unfolding is_nan
is_nan_lem x e = ap is_nan (differs_from_itself x (rw e tt))

-- the code's test is that of the NaN bits: without the sign they are above infinity's
pub ruleset nan_tests = (nan_bits_above, lt-ltb, le-ltb)
