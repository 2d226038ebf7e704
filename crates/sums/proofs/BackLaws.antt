-- A result is again an operand, and can be written: a rule keeps its mark one that reading gives, and what is finite
-- fits a double. And what is left of a quantity can be added back.
use Prim.Native.Nat.{ℕ}
use mathlib.Core.Path.{◌≡◌, refl, sym, ap, ◌∙◌, subst}
use mathlib.Core.Bool.{Bool, true, false, ◌&&◌, false≢true}
use mathlib.Core.Logic.{◌⊎◌, inl, inr}
use lib.Dec.{T}
use lib.Ieee.{Float, nan, inf, fin, binary64, add, sub, fits, is_nan}
use Rattle.sim0mq.specs.Answer.{Answer, fine, refused, ◌>>◌, guard}
use Rattle.sim0mq.specs.Mark.{kind_of}
use Rattle.sim0mq.proofs.Answers.{not_fine, fine_eq, guarded, and_true}
use Rattle.sim0mq_kinds.specs.declared.Mark.{Mark}
use Rattle.sim0mq_kinds.specs.declared.Scalar.{Scalar}
use Rattle.sim0mq_kinds.specs.declared.Scalar.TheVariants.{DoubleUnit}
use Rattle.writing_encoding.specs.Scalars.{mark_taken, writable, scalar_given}
use Rattle.writing_returning.proofs.ScalarLaws.{scalar_back}
use Rattle.sums_quantities.specs.Numbers.{plus, less}
use Rattle.sums_pairs.specs.Pairs.{pairs, Quantity, relative, absolute, unit_of, quantity_at, same_pair, quantity_sum, quantity_difference}
use Rattle.sums.specs.Sums.{finite, is_finite, as_scalar, answer_of, answer}
use Rattle.sums.specs.Promises.{ComesBack, adds_in, subtracts_in}
use Rattle.sums.proofs.RuleLaws.{value_of, IsGiven, Ruled, refuses, combines, IsRule, sum_rule, difference_rule}
use Rattle.sums.proofs.ReadLaws.{shown_of, IsRead, operand, no_operand, is_read, found, found_is, mark_of, given_mark, given_at, operand_given}
use Rattle.sums.proofs.AnswerLaws.{answer_at, answer_first, answer_second, Agrees, sums_agree, differences_agree, Outcome, apart, tested, outcome}
use Rattle.sums.proofs.RefusalLaws.{is-answer}
use Rattle.sums.proofs.UnitLaws.{same_swapped, same_units}

-- a finite double is no NaN, so that it can be written
finite_number : (x : Float) → finite x ≡ true → is_nan x ≡ false
unfolding finite is_nan
finite_number nan e = absurd (false≢true e)
finite_number (inf s) e = absurd (false≢true e)
finite_number (fin s m e) h = refl

-- what a rule gives of two operands: a quantity that reading gives, by the operation on two numbers
pub record Gives (op : Float → Float → Float) (r : Scalar) : Type 0 where
  pub quantity : Quantity
  pub itself : r ≡ as_scalar quantity
  pub is_given : IsGiven quantity
  pub is_fine : is_finite quantity ≡ true
  pub x : Float
  pub y : Float
  pub computed : value_of quantity ≡ op x y

module _ (rule : Quantity → Quantity → Answer Quantity) (page : ℕ → ℕ → Bool) (agrees : Agrees rule page) (op : Float → Float → Float)
    (is : IsRule op rule) where
  gives : (a b r : Scalar) → answer rule a b ≡ fine r → Gives op r
  gives a b r e = go (is_read a) (is_read b)
    where
      one : (x y q : Quantity) (o : Answer Quantity) → Ruled op x y o → o ≡ fine q → IsGiven x → IsGiven y
          → (guard (is_finite x && is_finite y && is_finite q) 25 0 >> fine (as_scalar q)) ≡ fine r → Gives op r
      one x y q o refuses h g k f = absurd (not_fine h)
      one x y q o (combines s v j) h g k f =
          let both = guarded (is_finite x && is_finite y && is_finite q) 25 0 (fine (as_scalar q)) f in
          record {
            quantity = q;
            itself = sym (fine_eq both.1);
            is_given = subst IsGiven (fine_eq h) (j g k);
            is_fine = (and_true (is_finite x && is_finite y) (is_finite q) both.0).1;
            x = value_of x;
            y = value_of y;
            computed = sym (ap value_of (fine_eq h)) ∙ v;
          }

      two : (x y : Float) (m n : Mark) → mark_taken m (kind_of m.unit) ≡ true → mark_taken n (kind_of n.unit) ≡ true
          → answer rule a b ≡ answer_of rule (record { unit = m.unit; number = shown_of x m }) (record { unit = n.unit; number = shown_of y n })
          → Outcome rule page (record { unit = m.unit; number = shown_of x m }) (record { unit = n.unit; number = shown_of y n }) → Gives op r
      two x y m n s t i (apart h f) = absurd (not_fine (sym f ∙ sym i ∙ e))
      two x y m n s t i (tested c d q u v g h f) =
          one c d q (rule c d) (is c d) g (operand_given x m c s u) (operand_given y n d t v) (sym f ∙ sym i ∙ e)

      go : IsRead a → IsRead b → Gives op r
      go (no_operand h f) j = absurd (not_fine (sym (answer_first rule a b f) ∙ e))
      go (operand x m i s f) (no_operand h g) = absurd (not_fine (sym (answer_second rule a b _ f g) ∙ e))
      go (operand x m i s f) (operand y n j t g) = two x y m n s t (answer_at rule a b _ _ f g) (outcome rule page agrees op is _ _)

  pub comes_back : ((x y : Float) → T (fits binary64 (op x y))) → (a b r : Scalar) → answer rule a b ≡ fine r → ComesBack r
  unfolding writable scalar_given
  comes_back fit a b r e =
      let g = gives a b r e in
      let q = g.quantity in
      let mark : mark_taken (mark_of q) (kind_of (unit_of q)) ≡ true = given_mark q g.is_given in
      let held : T (fits binary64 (value_of q)) = subst (λ (z : Float). T (fits binary64 z)) (sym g.computed) (fit g.x g.y) in
      let may : writable (as_scalar q) ≡ true = rw (finite_number (value_of q) g.is_fine) mark in
      subst ComesBack (sym g.itself)
      (record {
        value = value_of q;
        mark = mark_of q;
        itself = refl;
        is_finite = g.is_fine;
        taken = mark;
        held = held;
        given = rw may refl;
        back = scalar_back (as_scalar q) may held;
      })

-- what is left of a quantity after another is added to that one again, and gives a quantity of the first one's unit
-- type
adds_back : (a b r : Quantity) → quantity_difference a b ≡ fine r → (s : Quantity) × (quantity_sum b r ≡ fine s) × (unit_of s ≡ unit_of a)
unfolding quantity_sum quantity_difference
adds_back (relative p x) (relative q y) r e =
    let g = guarded (same_pair p q) 24 0 (fine (relative p (less x y x.display))) e in
    (relative q (plus y (less x y x.display) y.display), rw (← fine_eq g.1, ← same_swapped p q, g.0) refl, sym (same_units p q g.0).0)
adds_back (absolute p x) (relative q y) r e =
    let g = guarded (same_pair p q) 24 0 (fine (absolute p (less x y x.display))) e in
    (absolute p (plus y (less x y x.display) x.display), rw (← fine_eq g.1, ← same_swapped p q, g.0) refl, refl)
adds_back (absolute p x) (absolute q y) r e =
    let g = guarded (same_pair p q) 24 0 (fine (relative p (less x y 0))) e in
    (absolute q (plus y (less x y 0) y.display), rw (← fine_eq g.1, ← same_swapped p q, g.0) refl, sym (same_units p q g.0).1)
adds_back (relative p x) (absolute q y) r e = absurd (not_fine e)

-- the answer of adding a quantity, which was read, and one that reading gives, whose sum there is
added_answer : (y : Float) (n : Mark) (b r s : Quantity) → mark_taken n (kind_of n.unit) ≡ true → quantity_at n.unit (shown_of y n) ≡ fine b
    → IsGiven r → quantity_sum b r ≡ fine s
    → answer quantity_sum (DoubleUnit y n) (as_scalar r) ≡ (guard (is_finite b && is_finite r && is_finite s) 25 0 >> fine (as_scalar s))
added_answer y n b r s t e g f =
    is-answer quantity_sum (adds_in pairs) sums_agree (add binary64) sum_rule y (value_of r) n (mark_of r) t (given_mark r g)
    ∙ rw (e, given_at r g, f) refl

-- either way the test ends, there is a sum of this unit type or 25
module _ (u : ℕ) (d : Answer Scalar) (s : Quantity) (is : unit_of s ≡ u) where
  either_way : (c : Bool) → d ≡ (guard c 25 0 >> fine (as_scalar s))
      → (d ≡ refused 25 0) ⊎ ((z : Float) × (k : Mark) × (d ≡ fine (DoubleUnit z k)) × (k.unit ≡ u))
  either_way true e = inr (value_of s, mark_of s, e, is)
  either_way false e = inl e

-- what a rule gives of two that reading gives, reading gives
ruled_given : (op : Float → Float → Float) (a b r : Quantity) {o : Answer Quantity} → Ruled op a b o → o ≡ fine r → IsGiven a → IsGiven b → IsGiven r
ruled_given op a b r refuses e g h = absurd (not_fine e)
ruled_given op a b r (combines s v k) e g h = subst IsGiven (fine_eq e) (k g h)

module _ (x y : Float) (m n : Mark) (s : mark_taken m (kind_of m.unit) ≡ true) (t : mark_taken n (kind_of n.unit) ≡ true) where
  abbrev AddsBack : Scalar → Type 0
  AddsBack d =
      (answer quantity_sum (DoubleUnit y n) d ≡ refused 25 0)
      ⊎ ((z : Float) × (k : Mark) × (answer quantity_sum (DoubleUnit y n) d ≡ fine (DoubleUnit z k)) × (k.unit ≡ m.unit))

  combined_back : (a b r : Quantity) → quantity_at m.unit (shown_of x m) ≡ fine a → quantity_at n.unit (shown_of y n) ≡ fine b → quantity_difference a b ≡ fine r
      → AddsBack (as_scalar r)
  combined_back a b r i j k =
      let back = adds_back a b r k in
      let given = ruled_given (sub binary64) a b r (difference_rule a b) k (operand_given x m a s i) (operand_given y n b t j) in
      either_way m.unit (answer quantity_sum (DoubleUnit y n) (as_scalar r)) back.0
      (back.2 ∙ (found_is a (found pairs m.unit (shown_of x m)) i).0) (is_finite b && is_finite r && is_finite back.0)
      (added_answer y n b r back.0 t j given back.1)

  pub taken_back : (d : Scalar) → answer quantity_difference (DoubleUnit x m) (DoubleUnit y n) ≡ fine d → AddsBack d
  taken_back d e = go (outcome quantity_difference (subtracts_in pairs) differences_agree (sub binary64) difference_rule _ _)
    where
      is : answer quantity_difference (DoubleUnit x m) (DoubleUnit y n)
          ≡ answer_of quantity_difference (record { unit = m.unit; number = shown_of x m }) (record { unit = n.unit; number = shown_of y n })
      is = is-answer quantity_difference (subtracts_in pairs) differences_agree (sub binary64) difference_rule x y m n s t

      go : Outcome quantity_difference (subtracts_in pairs) (record { unit = m.unit; number = shown_of x m }) (record { unit = n.unit; number = shown_of y n })
          → AddsBack d
      go (apart h f) = absurd (not_fine (sym f ∙ sym is ∙ e))
      go (tested a b r i j k h f) =
          subst AddsBack (fine_eq (guarded (is_finite a && is_finite b && is_finite r) 25 0 (fine (as_scalar r)) (sym f ∙ sym is ∙ e)).1)
          (combined_back a b r i j k)
