-- A number with its display code, and the one addition and the one subtraction of such numbers (02, Ticket 12).
use Rattle.std.specs.Prelude.{ℕ}
use Rattle.std.specs.Float.{binary64}
use Rattle.std.specs.Float.Ieee.{add, sub}
use Rattle.sums_quantities.specs.declared.shown.Shown.{Shown}

-- One addition of IEEE 754, rounded once; the sum is shown by d.
abbrev pub plus : Shown → Shown → ℕ → Shown
plus x y d = record { value = add binary64 x.value y.value; display = d }

-- One subtraction of IEEE 754, rounded once; the difference is shown by d.
abbrev pub less : Shown → Shown → ℕ → Shown
less x y d = record { value = sub binary64 x.value y.value; display = d }
