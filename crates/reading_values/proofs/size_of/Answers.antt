-- The values are there exactly when they fit into the bytes from the first on.
use native.Mathlib.Omega.{arith}
use Prim.Native.Nat.{◌≤◌, ℕ, ◌<◌, ◌^◌}
use mathlib.Core.Path.{ap, sym, ◌∙◌, ◌≡◌}
use mathlib.Core.Bool.{true}
use lib.Dec.{leb}
use borrow.Author.Tests.{leb-true}
use Rattle.sim0mq.specs.Views.{judged}
use Rattle.reading_values.proofs.ValueCases.{size_fits, size_short}
use Rattle.reading_values.proofs.size_of.Goals as goal

-- what is at most the room left fits a machine's number, since the room does
fits_in : (z room : ℕ) → leb z room ≡ true → room < 2 ^ 64 → z < 2 ^ 64
fits_in z room e h = let l : z ≤ room = leb-true _ _ e in omega arith

pub overflow_mul-result : goal.overflow_mul-result
overflow_mul-result c = record { fits = fits_in _ _ (sym c.fits.ensures ∙ c.if-fits.true) (omega arith) }

pub returns-then-fits : goal.returns-then-fits
returns-then-fits c = sym (size_fits _ _ _ _ (omega arith) (sym c.fits.ensures ∙ c.if-fits.true))

pub returns : goal.returns
returns c = ap judged c.refuse.ensures ∙ sym (size_short _ _ _ _ (omega arith) (sym c.fits.ensures ∙ c.if-fits.false))
