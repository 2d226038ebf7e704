-- Unit types of the page, and pairs, in either order: an addition's operands may change places, and so may those of a
-- pair.
use Prim.Native.Nat.{ℕ}
use mathlib.Core.Path.{◌≡◌, refl, sym, ap₂, ◌∙◌}
use mathlib.Core.Bool.{Bool, true, false, ◌&&◌, false≢true}
use mathlib.Core.List.{map}
use lib.Dec.{eqb}
use lib.Ieee.{binary64}
use borrow.Author.Tests.{eqb-true, eqb-false, eq-eqb, ne_eqb}
use Rattle.sim0mq.specs.Answer.{Answer, fine, refused}
use Rattle.sim0mq.proofs.Answers.{and_true}
use Rattle.sim0mq.proofs.Rows.{all_pass, pass_among}
use Rattle.sums_quantities.specs.declared.shown.Shown.{Shown}
use Rattle.sums_pairs.specs.Pairs.{Pair, pairs, Quantity, relative, absolute, quantity_in, quantity_at, same_pair, quantity_sum}
use Rattle.sums.specs.Promises.{Relative, Absolute}
use Rattle.sums.proofs.FloatLaws.{add_swapped}

-- a unit type of the absolute quantities, or of the relative ones, gives one
abbrev is_absolute : Answer Quantity → Bool
is_absolute (fine (relative p x)) = false
is_absolute (fine (absolute p x)) = true
is_absolute (refused k p) = false

abbrev is_relative : Answer Quantity → Bool
is_relative (fine (relative p x)) = true
is_relative (fine (absolute p x)) = false
is_relative (refused k p) = false

is_absolute_lem : (a : Answer Quantity) → is_absolute a ≡ true → (p : Pair) × (x : Shown) × (a ≡ fine (absolute p x))
is_absolute_lem (fine (relative p x)) e = absurd (false≢true e)
is_absolute_lem (fine (absolute p x)) e = (p, x, refl)
is_absolute_lem (refused k p) e = absurd (false≢true e)

is_relative_lem : (a : Answer Quantity) → is_relative a ≡ true → (p : Pair) × (x : Shown) × (a ≡ fine (relative p x))
is_relative_lem (fine (relative p x)) e = (p, x, refl)
is_relative_lem (fine (absolute p x)) e = absurd (false≢true e)
is_relative_lem (refused k p) e = absurd (false≢true e)

module _ (u : ℕ) (s : Shown) where
  pub absolute_at_lem : Absolute u → (p : Pair) × (x : Shown) × (quantity_at u s ≡ fine (absolute p x))
  unfolding all_pass quantity_in
  absolute_at_lem h = is_absolute_lem (quantity_at u s) (pass_among (λ k. is_absolute (quantity_at k s)) (map (λ (p : Pair). p.absolute_unit) pairs) u refl h)

  pub relative_at_lem : Relative u → (p : Pair) × (x : Shown) × (quantity_at u s ≡ fine (relative p x))
  unfolding all_pass quantity_in
  relative_at_lem h = is_relative_lem (quantity_at u s) (pass_among (λ k. is_relative (quantity_at k s)) (map (λ (p : Pair). p.relative_unit) pairs) u refl h)

-- pairs are the same in either order
eqb_swapped : (a b : ℕ) → eqb a b ≡ eqb b a
eqb_swapped a b = go (eqb a b) refl
  where
    go : (c : Bool) → eqb a b ≡ c → eqb a b ≡ eqb b a
    go true e = e ∙ sym (eq-eqb b a (sym (eqb-true a b e)))
    go false e = e ∙ sym (ne_eqb b a (λ h. eqb-false a b e (sym h)))

pub same_swapped : (p q : Pair) → same_pair p q ≡ same_pair q p
same_swapped p q =
    ap₂ (λ (a b : Bool). a && b) (eqb_swapped p.relative_unit q.relative_unit) (eqb_swapped p.absolute_unit q.absolute_unit)

pub same_units : (p q : Pair) → same_pair p q ≡ true → (p.relative_unit ≡ q.relative_unit) × (p.absolute_unit ≡ q.absolute_unit)
same_units p q e =
    let both = and_true (eqb p.relative_unit q.relative_unit) (eqb p.absolute_unit q.absolute_unit) e in
    (eqb-true p.relative_unit q.relative_unit both.0, eqb-true p.absolute_unit q.absolute_unit both.1)

pub swapped : (p q : Pair) (a b : Shown) → quantity_sum (absolute p a) (relative q b) ≡ quantity_sum (relative q b) (absolute p a)
unfolding quantity_sum
swapped p q a b = rw (same_swapped p q, add_swapped binary64 a.value b.value) refl
