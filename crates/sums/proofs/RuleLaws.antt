-- A rule combines two quantities by one operation on their numbers, or refuses by 24. What it gives is again a quantity
-- that reading can give: of a pair of the page, with a display code that is taken.
use mathlib.Core.Path.{◌≡◌, refl, sym, ap, ap₂, ◌∙◌, subst}
use mathlib.Core.Bool.{Bool, true, false, ◌&&◌}
use native.Mathlib.Omega.{arith}
use lib.Ieee.{Float, binary64, add, sub}
use borrow.Author.Tests.{le-leb}
use Rattle.sim0mq.specs.Answer.{Answer, fine, refused, ◌>>◌, guard}
use Rattle.sim0mq.specs.Mark.{plain, kind_of, display_taken}
use Rattle.sim0mq.proofs.Answers.{not_fine, fine_eq}
use Rattle.sums_quantities.specs.declared.shown.Shown.{Shown}
use Rattle.sums_pairs.specs.Pairs.{Pair, Quantity, relative, absolute, unit_of, number_of, quantity_at, same_pair, of_one_pair, quantity_sum, quantity_difference}
use Rattle.sums.specs.Sums.{finite, is_finite}

-- a pair of the page is found there by both its unit types, which are plain
pub record OnPage (p : Pair) : Type 0 where
  pub relative_at : (x : Shown) → quantity_at p.relative_unit x ≡ fine (relative p x)
  pub absolute_at : (x : Shown) → quantity_at p.absolute_unit x ≡ fine (absolute p x)
  pub relative_kind : kind_of p.relative_unit ≡ plain p.relative_unit
  pub absolute_kind : kind_of p.absolute_unit ≡ plain p.absolute_unit

abbrev pub pair_of : Quantity → Pair
pair_of (relative p x) = p
pair_of (absolute p x) = p

abbrev pub value_of : Quantity → Float
value_of q = (number_of q).value

-- what reading gives: a quantity of the page whose display code is taken
pub record IsGiven (q : Quantity) : Type 0 where
  pub on_page : OnPage (pair_of q)
  pub display : display_taken (unit_of q) (number_of q).display ≡ true

-- the same quantity with another number that is shown alike; and the relative one of the pair, shown by 0
shown_alike : (q : Quantity) (to : Shown → Quantity) (x : Shown) → IsGiven q → pair_of (to x) ≡ pair_of q → unit_of (to x) ≡ unit_of q
    → (number_of (to x)).display ≡ (number_of q).display → IsGiven (to x)
shown_alike q to x g e u d =
    record { on_page = subst OnPage (sym e) g.on_page; display = ap₂ display_taken u d ∙ g.display }

shown_by_zero : (p : Pair) (x : Shown) → OnPage p → x.display ≡ 0 → IsGiven (relative p x)
unfolding display_taken
shown_by_zero p x on d = record { on_page = on; display = le-leb x.display _ (omega (arith, d)) }

-- what a rule answers for two quantities
pub data Ruled (op : Float → Float → Float) (a b : Quantity) : Answer Quantity → Type 0 where
  refuses : Ruled op a b (refused 24 0)
  combines : (r : Quantity) → value_of r ≡ op (value_of a) (value_of b) → (IsGiven a → IsGiven b → IsGiven r) → Ruled op a b (fine r)

abbrev pub IsRule : (Float → Float → Float) → (Quantity → Quantity → Answer Quantity) → Type 0
IsRule op rule = (a b : Quantity) → Ruled op a b (rule a b)

module _ (op : Float → Float → Float) (a b : Quantity) where
  one_pair : (p q : Pair) (r : Quantity) → value_of r ≡ op (value_of a) (value_of b) → (IsGiven a → IsGiven b → IsGiven r) → Ruled op a b (of_one_pair p q r)
  one_pair p q r e g = go (same_pair p q)
    where
      go : (same : Bool) → Ruled op a b (guard same 24 0 >> fine r)
      go true = combines r e g
      go false = refuses

pub sum_rule : IsRule (add binary64) quantity_sum
unfolding quantity_sum
sum_rule (relative p x) (relative q y) = one_pair _ _ _ p q _ refl (λ g h. shown_alike (relative p x) (relative p) _ g refl refl refl)
sum_rule (absolute p x) (relative q y) = one_pair _ _ _ p q _ refl (λ g h. shown_alike (absolute p x) (absolute p) _ g refl refl refl)
sum_rule (relative p x) (absolute q y) = one_pair _ _ _ p q _ refl (λ g h. shown_alike (absolute q y) (absolute q) _ h refl refl refl)
sum_rule (absolute p x) (absolute q y) = refuses

pub difference_rule : IsRule (sub binary64) quantity_difference
unfolding quantity_difference
difference_rule (relative p x) (relative q y) = one_pair _ _ _ p q _ refl (λ g h. shown_alike (relative p x) (relative p) _ g refl refl refl)
difference_rule (absolute p x) (relative q y) = one_pair _ _ _ p q _ refl (λ g h. shown_alike (absolute p x) (absolute p) _ g refl refl refl)
difference_rule (absolute p x) (absolute q y) = one_pair _ _ _ p q _ refl (λ g h. shown_by_zero p _ g.on_page refl)
difference_rule (relative p x) (absolute q y) = refuses

-- by a strict operation, whose finite results have finite operands, so is the rule
abbrev pub Strict : (Float → Float → Float) → Type 0
Strict op = (x y : Float) → finite (op x y) ≡ true → finite x && finite y ≡ true

pub rule_strict : (op : Float → Float → Float) → Strict op → (a b r : Quantity) {o : Answer Quantity} → Ruled op a b o → o ≡ fine r
    → is_finite r ≡ true → is_finite a && is_finite b ≡ true
rule_strict op strict a b r refuses e h = absurd (not_fine e)
rule_strict op strict a b r (combines s v g) e h = strict (value_of a) (value_of b) (ap finite (sym v) ∙ ap is_finite (fine_eq e) ∙ h)
