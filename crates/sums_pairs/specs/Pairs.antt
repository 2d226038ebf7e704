-- Relative and absolute quantities, and the manual's sums and differences of them (02, Ticket 12; 000, 2.2).
use Rattle.std.specs.Prelude.{ℕ, Bool, cond, ◌&&◌, List, [], ◌∷◌, eqb}
use Rattle.sim0mq.specs.Answer.{Answer, fine, refused, ◌>>◌, guard}
use Rattle.sums_quantities.specs.Numbers.{plus, less}
use Rattle.sums_quantities.specs.declared.shown.Shown.{Shown}

-- A pair: the unit type of the relative quantity, and that of the absolute one.
pub record Pair : Type 0 where
  pub relative_unit : ℕ
  pub absolute_unit : ℕ

-- Length and Position, Duration and Time, Angle and Direction, Temperature and AbsoluteTemperature (000, 2.2).
abbrev pub lengths : Pair
lengths = record { relative_unit = 16; absolute_unit = 17 }

abbrev pub durations : Pair
durations = record { relative_unit = 25; absolute_unit = 26 }

abbrev pub angles : Pair
angles = record { relative_unit = 3; absolute_unit = 4 }

abbrev pub temperatures : Pair
temperatures = record { relative_unit = 23; absolute_unit = 24 }

abbrev pub pairs : List Pair
pairs = lengths ∷ durations ∷ angles ∷ temperatures ∷ []

-- A number with its display code, as the relative or as the absolute quantity of a pair.
pub data Quantity : Type 0 where
  relative : Pair → Shown → Quantity
  absolute : Pair → Shown → Quantity

abbrev pub unit_of : Quantity → ℕ
unit_of (relative p x) = p.relative_unit
unit_of (absolute p x) = p.absolute_unit

abbrev pub number_of : Quantity → Shown
number_of (relative p x) = x
number_of (absolute p x) = x

-- The quantity of a unit type, looked for in some pairs; one of no pair can't be combined (24).
unfoldable pub quantity_in : List Pair → ℕ → Shown → Answer Quantity
quantity_in [] u x = refused 24 0
quantity_in (p ∷ ps) u x =
    cond (eqb u p.relative_unit) (fine (relative p x))
    (cond (eqb u p.absolute_unit) (fine (absolute p x))
    (quantity_in ps u x))

abbrev pub quantity_at : ℕ → Shown → Answer Quantity
quantity_at u x = quantity_in pairs u x

-- Only quantities of one pair are combined (24).
abbrev pub same_pair : Pair → Pair → Bool
same_pair p q = eqb p.relative_unit q.relative_unit && eqb p.absolute_unit q.absolute_unit

abbrev pub of_one_pair : Pair → Pair → Quantity → Answer Quantity
of_one_pair p q r = do
  guard (same_pair p q) 24 0
  fine r

-- The sum of two quantities. Two relatives make a relative, shown as the first is; a relative and an absolute,
-- whichever comes first, make an absolute, shown as the absolute one is; of two absolutes there is none.
unfoldable pub quantity_sum : Quantity → Quantity → Answer Quantity
quantity_sum (relative p x) (relative q y) = of_one_pair p q (relative p (plus x y x.display))
quantity_sum (absolute p x) (relative q y) = of_one_pair p q (absolute p (plus x y x.display))
quantity_sum (relative p x) (absolute q y) = of_one_pair p q (absolute q (plus x y y.display))
quantity_sum (absolute p x) (absolute q y) = refused 24 0

-- The difference of two. A relative taken from a relative leaves a relative, shown as the first is; from an absolute,
-- an absolute, shown as that is. An absolute taken from an absolute leaves a relative, shown by 0; from a relative it
-- can't be taken.
unfoldable pub quantity_difference : Quantity → Quantity → Answer Quantity
quantity_difference (relative p x) (relative q y) = of_one_pair p q (relative p (less x y x.display))
quantity_difference (absolute p x) (relative q y) = of_one_pair p q (absolute p (less x y x.display))
quantity_difference (absolute p x) (absolute q y) = of_one_pair p q (relative p (less x y 0))
quantity_difference (relative p x) (absolute q y) = refused 24 0
