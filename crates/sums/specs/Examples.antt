-- Examples of sums: the manual's own (000, 2.2), with clock times in seconds of a day, and what is refused.
use Rattle.std.specs.Prelude.{ℕ, ◌≡◌, refl, false, [], ◌∷◌, pos, negsuc, Float}
use Rattle.std.specs.Int.Count.{count_trailing_zeros}
use Rattle.std.specs.Float.{inf, fin}
use Rattle.std.specs.Float.Ieee.{span, climb, size, odd, units, round, neg, sum, add, sub}
use Rattle.sim0mq.specs.Answer.{fine, refused}
use Rattle.sim0mq.specs.Mark.{kind_of, display_taken}
use Rattle.sim0mq_kinds.specs.declared.Scalar.{Scalar}
use Rattle.sim0mq_kinds.specs.declared.Scalar.TheVariants.{DoubleUnit, NotNumber}
use Rattle.writing_encoding.specs.Scalars.{mark_taken}
use Rattle.sums_pairs.specs.Pairs.{quantity_in, quantity_sum, quantity_difference}
use Rattle.sums.specs.Sums.{measured, finite, answer, sum_of, difference_of}

-- A double with a unit type and a display code; and the number m times 2 to the e.
abbrev pub of : ℕ → Float → ℕ → Scalar
of u x d = DoubleUnit x (record { unit = u; currency = 0; display = d })

abbrev pub whole : ℕ → ℕ → Float
whole m e = fin false m (pos e)

-- 5 o'clock less 3 o'clock is 2 hours; 17:00 and 2 hours, in either order, is 19:00; 2 hours and 30 minutes is 2.5
-- hours; 1 metre and 2 to the -53 of a metre is 1 metre, halfway and to the even one.
pub examples_hold :
    difference_of (of 26 (whole 1125 4) 3) (of 26 (whole 675 4) 2)
    ∷ sum_of (of 26 (whole 3825 4) 3) (of 25 (whole 225 5) 8)
    ∷ sum_of (of 25 (whole 225 5) 8) (of 26 (whole 3825 4) 3)
    ∷ sum_of (of 25 (whole 225 5) 8) (of 25 (whole 225 3) 7)
    ∷ sum_of (of 16 (whole 1 0) 1) (of 16 (fin false 1 (negsuc 52)) 2)
    ∷ []
    ≡ fine (of 25 (whole 225 5) 0)
    ∷ fine (of 26 (whole 4275 4) 3)
    ∷ fine (of 26 (whole 4275 4) 3)
    ∷ fine (of 25 (whole 1125 3) 8)
    ∷ fine (of 16 (whole 1 0) 1)
    ∷ []
unfolding
    measured answer finite quantity_in quantity_sum quantity_difference mark_taken kind_of display_taken
    add sub neg sum round units odd size span climb count_trailing_zeros
examples_hold = refl

-- 5 o'clock and 3 o'clock are not added; 2 hours less 3 o'clock is none; hours and metres are not combined, though one
-- is infinite; infinite hours, and the largest double twice; "not a number", and a display code that is none, beside
-- metres that hours can't be combined with.
pub refused_examples_hold :
    sum_of (of 26 (whole 1125 4) 3) (of 26 (whole 675 4) 3)
    ∷ difference_of (of 25 (whole 225 5) 8) (of 26 (whole 675 4) 3)
    ∷ sum_of (of 25 (inf false) 8) (of 16 (whole 1 0) 0)
    ∷ sum_of (of 26 (whole 1125 4) 3) (of 25 (inf false) 8)
    ∷ sum_of (of 25 (whole 9007199254740991 971) 0) (of 25 (whole 9007199254740991 971) 0)
    ∷ sum_of (of 16 (whole 1 0) 0) (NotNumber 26)
    ∷ sum_of (of 16 (whole 1 0) 0) (of 25 (whole 1 0) 11)
    ∷ []
    ≡ refused 24 0
    ∷ refused 24 0
    ∷ refused 24 0
    ∷ refused 25 0
    ∷ refused 25 0
    ∷ refused 17 0
    ∷ refused 17 0
    ∷ []
unfolding
    measured answer finite quantity_in quantity_sum quantity_difference mark_taken kind_of display_taken
    add sub neg sum round units odd size span climb count_trailing_zeros
refused_examples_hold = refl
