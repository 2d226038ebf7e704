-- What the sums promise. Each statement here is proved in proofs/Promises.antt.
use Rattle.std.specs.Prelude.{ℕ, ◌≡◌, Bool, true, false, ◌&&◌, ◌||◌, List, [], ◌∷◌, map, ◌↔◌, ◌⊎◌, eqb, Float}
use Rattle.std.specs.Float.{binary64}
use Rattle.std.specs.Float.Ieee.{add, sub}
use Rattle.sim0mq.specs.Answer.{Answer, fine, refused}
use Rattle.sim0mq.specs.Codes.{among}
use Rattle.sim0mq.specs.Mark.{kind_of}
use Rattle.sim0mq_kinds.specs.declared.Mark.{Mark}
use Rattle.sim0mq_kinds.specs.declared.Scalar.{Scalar}
use Rattle.sim0mq_kinds.specs.declared.Scalar.TheVariants.{DoubleUnit}
use Rattle.asking_scalars.specs.Scalars.{value}
use Rattle.asking_scalars.specs.Promises.{value_alone}
use Rattle.writing_encoding.specs.Scalars.{mark_taken, scalar_text, scalar_given}
use Rattle.writing_returning.specs.Promises.{Held}
use Rattle.sums_pairs.specs.Pairs.{Pair, pairs}
use Rattle.sums.specs.Sums.{finite, sum_of, difference_of}

-- A mark is one that reading gives.
abbrev pub IsTaken : Mark → Type 0
IsTaken m = mark_taken m (kind_of m.unit) ≡ true

-- So it is: what asking returns as a double with its unit has such a mark; and every such mark comes with some double,
-- as the value of a field's bytes.
abbrev pub TakenIsWhatReadingGives : Type 0
TakenIsWhatReadingGives =
    ((s : List ℕ) (k : ℕ) (x : Float) (m : Mark) → value s k ≡ fine (DoubleUnit x m) → IsTaken m)
    × ((m : Mark) → IsTaken m → (l : List ℕ) × (x : Float) × (value_alone l ≡ fine (DoubleUnit x m)))

-- The unit types of the relative quantities, and those of the absolute ones.
abbrev pub Relative : ℕ → Type 0
Relative u = among u (map (λ (p : Pair). p.relative_unit) pairs) ≡ true

abbrev pub Absolute : ℕ → Type 0
Absolute u = among u (map (λ (p : Pair). p.absolute_unit) pairs) ≡ true

-- Two absolutes are never added: with marks that reading gives, whatever their numbers, their sum is refused by 24.
abbrev pub AbsolutesAreNeverAdded : Type 0
AbsolutesAreNeverAdded =
    (x y : Float) (m n : Mark) → Absolute m.unit → Absolute n.unit
    → IsTaken m → IsTaken n
    → sum_of (DoubleUnit x m) (DoubleUnit y n) ≡ refused 24 0

-- Absolute plus relative is the same in either order, mark and refusal too.
abbrev pub EitherOrder : Type 0
EitherOrder =
    (x y : Float) (m n : Mark) → Absolute m.unit → Relative n.unit
    → sum_of (DoubleUnit x m) (DoubleUnit y n) ≡ sum_of (DoubleUnit y n) (DoubleUnit x m)

-- What is left of a after b can be added to b again: the sum has the unit type of a, unless it is infinite.
abbrev pub DifferenceAddsBack : Type 0
DifferenceAddsBack =
    (x y : Float) (m n : Mark) (d : Scalar) → difference_of (DoubleUnit x m) (DoubleUnit y n) ≡ fine d
    → (sum_of (DoubleUnit y n) d ≡ refused 25 0)
    ⊎ ((z : Float) × (k : Mark) × (sum_of (DoubleUnit y n) d ≡ fine (DoubleUnit z k)) × (k.unit ≡ m.unit))

-- A result is a finite double with a mark that reading gives, so that it can be an operand again; and it can be
-- written: the writer takes it, and its bytes alone are a field that asking reads back as that scalar.
pub record ComesBack (r : Scalar) : Type 0 where
  pub value : Float
  pub mark : Mark
  pub itself : r ≡ DoubleUnit value mark
  pub is_finite : finite value ≡ true
  pub taken : IsTaken mark
  pub held : Held r
  pub given : scalar_given r ≡ fine (scalar_text r)
  pub back : value_alone (scalar_text r) ≡ fine r

abbrev pub ResultComesBack : Type 0
ResultComesBack = (a b r : Scalar) → (sum_of a b ≡ fine r) ⊎ (difference_of a b ≡ fine r) → ComesBack r

-- Which unit types are of two quantities that can be added, and of two of which the second can be taken from the first,
-- pair by pair.
abbrev pub adds_in : List Pair → ℕ → ℕ → Bool
adds_in [] u v = false
adds_in (p ∷ ps) u v =
    (eqb u p.relative_unit && eqb v p.relative_unit)
    || (eqb u p.absolute_unit && eqb v p.relative_unit)
    || (eqb u p.relative_unit && eqb v p.absolute_unit)
    || adds_in ps u v

abbrev pub subtracts_in : List Pair → ℕ → ℕ → Bool
subtracts_in [] u v = false
subtracts_in (p ∷ ps) u v =
    (eqb u p.relative_unit && eqb v p.relative_unit)
    || (eqb u p.absolute_unit && eqb v p.relative_unit)
    || (eqb u p.absolute_unit && eqb v p.absolute_unit)
    || subtracts_in ps u v

-- A scalar is no double with a mark that reading gives.
abbrev pub NoOperand : Scalar → Type 0
NoOperand a = (x : Float) (m : Mark) → a ≡ DoubleUnit x m → IsTaken m → ⊥

-- The refusals of a way to combine two scalars, in their order: 17 exactly where one of them is no operand; where both
-- are, 24 exactly where their unit types can't be combined; and where they can, 25 exactly where an operand or the
-- result is infinite or a NaN. There is no other refusal, and each is at 0.
pub record Refuses (way : Scalar → Scalar → Answer Scalar) (combines : ℕ → ℕ → Bool) (result : Float → Float → Float) : Type 0 where
  pub first : (a b : Scalar) → (way a b ≡ refused 17 0) ↔ (NoOperand a ⊎ NoOperand b)
  pub second : (x y : Float) (m n : Mark) → IsTaken m → IsTaken n
      → (way (DoubleUnit x m) (DoubleUnit y n) ≡ refused 24 0) ↔ (combines m.unit n.unit ≡ false)
  pub third : (x y : Float) (m n : Mark) → IsTaken m → IsTaken n
      → combines m.unit n.unit ≡ true
      → (way (DoubleUnit x m) (DoubleUnit y n) ≡ refused 25 0) ↔ (finite x && finite y && finite (result x y) ≡ false)
  pub other : (a b : Scalar) (k p : ℕ) → way a b ≡ refused k p → (among k (17 ∷ 24 ∷ 25 ∷ []) ≡ true) × (p ≡ 0)

abbrev pub RefusalsInOrder : Type 0
RefusalsInOrder = Refuses sum_of (adds_in pairs) (add binary64) × Refuses difference_of (subtracts_in pairs) (sub binary64)
