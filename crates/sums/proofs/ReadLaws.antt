-- Which quantity a scalar is read as: it is looked for pair by pair, and its mark is one that reading gives.
use Prim.Native.Nat.{ℕ}
use mathlib.Core.Path.{◌≡◌, refl, sym, ap, ap₂, ◌∙◌, subst}
use mathlib.Core.Bool.{Bool, true, false, cond, false≢true}
use mathlib.Core.List.{List, [], ◌∷◌}
use lib.Dec.{eqb}
use lib.Ieee.{Float}
use borrow.Author.Tests.{eqb-true}
use Rattle.sim0mq.specs.Answer.{Answer, fine, refused}
use Rattle.sim0mq.specs.Mark.{plain, kind_of, display_taken}
use Rattle.sim0mq.proofs.Answers.{not_fine, fine_eq, and_true}
use Rattle.sim0mq_kinds.specs.declared.Mark.{Mark}
use Rattle.sim0mq_kinds.specs.declared.Scalar.{Scalar}
use Rattle.sim0mq_kinds.specs.declared.Scalar.TheVariants.{Byte, Short, Int, Long, Float as Single, Double, Boolean, Char8, Char16, FloatUnit, DoubleUnit, NotNumber}
use Rattle.writing_encoding.specs.Scalars.{mark_taken}
use Rattle.sums_quantities.specs.declared.shown.Shown.{Shown}
use Rattle.sums_pairs.specs.Pairs.{Pair, pairs, Quantity, relative, absolute, unit_of, number_of, quantity_in, quantity_at}
use Rattle.sums.specs.Sums.{measured}
use Rattle.sums.specs.Promises.{NoOperand}
use Rattle.sums.proofs.RuleLaws.{OnPage, pair_of, IsGiven}

-- a scalar is read, with a mark that reading gives, or is no operand
abbrev pub shown_of : Float → Mark → Shown
shown_of x m = record { value = x; display = m.display }

pub data IsRead (a : Scalar) : Type 0 where
  operand : (x : Float) (m : Mark) → a ≡ DoubleUnit x m → mark_taken m (kind_of m.unit) ≡ true
      → measured a ≡ fine (record { unit = m.unit; number = shown_of x m }) → IsRead a
  no_operand : NoOperand a → measured a ≡ refused 17 0 → IsRead a

abbrev pub is_double : Scalar → Bool
is_double (Byte z) = false
is_double (Short z) = false
is_double (Int z) = false
is_double (Long z) = false
is_double (Single x) = false
is_double (Double x) = false
is_double (Boolean b) = false
is_double (Char8 n) = false
is_double (Char16 n) = false
is_double (FloatUnit x m) = false
is_double (DoubleUnit x m) = true
is_double (NotNumber c) = false

other : (a : Scalar) → is_double a ≡ false → measured a ≡ refused 17 0 → IsRead a
other a h e = no_operand (λ x m i t. false≢true (sym h ∙ ap is_double i)) e

by_mark : (x : Float) (m : Mark) (b : Bool) → mark_taken m (kind_of m.unit) ≡ b → IsRead (DoubleUnit x m)
unfolding measured
by_mark x m true e = operand x m refl e (rw e)
by_mark x m false e = no_operand (λ y n i t. false≢true (sym e ∙ (cc))) (rw e)

pub is_read : (a : Scalar) → IsRead a
unfolding measured
is_read (Byte z) = other (Byte z) refl refl
is_read (Short z) = other (Short z) refl refl
is_read (Int z) = other (Int z) refl refl
is_read (Long z) = other (Long z) refl refl
is_read (Single x) = other (Single x) refl refl
is_read (Double x) = other (Double x) refl refl
is_read (Boolean b) = other (Boolean b) refl refl
is_read (Char8 n) = other (Char8 n) refl refl
is_read (Char16 n) = other (Char16 n) refl refl
is_read (FloatUnit x m) = other (FloatUnit x m) refl refl
is_read (DoubleUnit x m) = by_mark x m (mark_taken m (kind_of m.unit)) refl
is_read (NotNumber c) = other (NotNumber c) refl refl

-- a quantity is found at the first pair that has its unit type
pub data Found (u : ℕ) (x : Shown) : List Pair → Answer Quantity → Type 0 where
  relatively : {p : Pair} {ps : List Pair} → u ≡ p.relative_unit → Found u x (p ∷ ps) (fine (relative p x))
  absolutely : {p : Pair} {ps : List Pair} → u ≡ p.absolute_unit → Found u x (p ∷ ps) (fine (absolute p x))
  later : {p : Pair} {ps : List Pair} {a : Answer Quantity} → Found u x ps a → Found u x (p ∷ ps) a
  nowhere : Found u x [] (refused 24 0)

pub found : (ps : List Pair) (u : ℕ) (x : Shown) → Found u x ps (quantity_in ps u x)
unfolding quantity_in
found [] u x = nowhere
found (p ∷ ps) u x = go (eqb u p.relative_unit) (eqb u p.absolute_unit) refl refl (found ps u x)
  where
    go : (b c : Bool) → eqb u p.relative_unit ≡ b → eqb u p.absolute_unit ≡ c → Found u x ps (quantity_in ps u x)
        → Found u x (p ∷ ps) (cond b (fine (relative p x)) (cond c (fine (absolute p x)) (quantity_in ps u x)))
    go true c h k f = relatively (eqb-true u p.relative_unit h)
    go false true h k f = absolutely (eqb-true u p.absolute_unit k)
    go false false h k f = later f

-- it has that unit type and the number; and where there is none, the refusal is 24
pub found_is : {u : ℕ} {x : Shown} {ps : List Pair} {a : Answer Quantity} (q : Quantity) → Found u x ps a → a ≡ fine q
    → (unit_of q ≡ u) × (number_of q ≡ x)
found_is q (relatively h) e = let s = fine_eq e in (sym (ap unit_of s) ∙ sym h, sym (ap number_of s))
found_is q (absolutely h) e = let s = fine_eq e in (sym (ap unit_of s) ∙ sym h, sym (ap number_of s))
found_is q (later f) e = found_is q f e
found_is q nowhere e = absurd (not_fine e)

pub found_none : {u : ℕ} {x : Shown} {ps : List Pair} {a : Answer Quantity} (k p : ℕ) → Found u x ps a → a ≡ refused k p → a ≡ refused 24 0
found_none k p (relatively h) e = absurd (not_fine (sym e))
found_none k p (absolutely h) e = absurd (not_fine (sym e))
found_none k p (later f) e = found_none k p f e
found_none k p nowhere e = refl

-- each pair of the page is on it
abbrev AreOnPage : List Pair → Type 0
AreOnPage [] = Unit {0}
AreOnPage (p ∷ ps) = OnPage p × AreOnPage ps

all_on_page : AreOnPage pairs
unfolding quantity_in kind_of
all_on_page = (
  record { relative_at = λ x. refl; absolute_at = λ x. refl; relative_kind = refl; absolute_kind = refl },
  (
    record { relative_at = λ x. refl; absolute_at = λ x. refl; relative_kind = refl; absolute_kind = refl },
    (
      record { relative_at = λ x. refl; absolute_at = λ x. refl; relative_kind = refl; absolute_kind = refl },
      (record { relative_at = λ x. refl; absolute_at = λ x. refl; relative_kind = refl; absolute_kind = refl }, tt),
    ),
  ),
)

found_on_page : {u : ℕ} {x : Shown} {ps : List Pair} {a : Answer Quantity} (q : Quantity) → AreOnPage ps → Found u x ps a → a ≡ fine q → OnPage (pair_of q)
found_on_page q on (relatively h) e = subst OnPage (ap pair_of (fine_eq e)) on.0
found_on_page q on (absolutely h) e = subst OnPage (ap pair_of (fine_eq e)) on.0
found_on_page q on (later f) e = found_on_page q on.1 f e
found_on_page q on nowhere e = absurd (not_fine e)

-- a quantity's mark, which has no currency; it is one that reading gives where its display code is taken
abbrev pub mark_of : Quantity → Mark
mark_of q = record { unit = unit_of q; currency = 0; display = (number_of q).display }

kind_of_lem : (q : Quantity) → OnPage (pair_of q) → kind_of (unit_of q) ≡ plain (unit_of q)
kind_of_lem (relative p x) on = on.relative_kind
kind_of_lem (absolute p x) on = on.absolute_kind

module _ (q : Quantity) (g : IsGiven q) where
  pub given_mark : mark_taken (mark_of q) (kind_of (unit_of q)) ≡ true
  unfolding mark_taken
  given_mark = rw (kind_of_lem q g.on_page) g.display

pub given_at : (q : Quantity) → IsGiven q → quantity_at (unit_of q) (number_of q) ≡ fine q
given_at (relative p x) g = g.on_page.relative_at x
given_at (absolute p x) g = g.on_page.absolute_at x

-- an operand's quantity is given
pub operand_given : (x : Float) (m : Mark) (q : Quantity) → mark_taken m (kind_of m.unit) ≡ true → quantity_at m.unit (shown_of x m) ≡ fine q → IsGiven q
unfolding mark_taken
operand_given x m q t e =
    let at = found pairs m.unit (shown_of x m) in
    let is = found_is q at e in
    let on = found_on_page q all_on_page at e in
    let kind : kind_of m.unit ≡ plain m.unit = rw (← is.0) (kind_of_lem q on) in
    let shown : display_taken m.unit m.display ≡ true = (and_true (eqb m.currency 0) _ (rw kind at t)).1 in
    record { on_page = on; display = ap₂ (λ (u : ℕ) (s : Shown). display_taken u s.display) is.0 is.1 ∙ shown }
