-- Which sums of floats are finite; and a sum's operands may change places.
use Prim.Native.Nat.{ℕ, zero, suc, ◌+◌, ◌-◌, ◌*◌, ◌^◌, ◌≤◌, ◌<◌}
use mathlib.Core.Path.{◌≡◌, refl, sym, ap, ◌∙◌}
use mathlib.Core.Bool.{Bool, true, false, not, cond, ◌&&◌, beq, not-not, and-true, and-false}
use native.Mathlib.Omega.{arith}
use native.Mathlib.Nat.{mul_comm, add_comm}
use lib.Dec.{ltb}
use lib.Ieee.{Float, nan, inf, fin, Format, binary64, up, down, low, emax, prec, odd, units, round, neg, sum, add, sub, eq, is_nan}
use lib.Ieee.Fits.{round_is}
use borrow.Author.Tests.{ltb-true, ltb-false, eq-eqb}
use Rattle.sums.specs.Sums.{finite}

-- a float equals itself unless it is a NaN
equals_itself : (x : Float) → eq x x ≡ not (is_nan x)
unfolding eq is_nan
equals_itself nan = refl
equals_itself (inf true) = refl
equals_itself (inf false) = refl
equals_itself (fin true m e) = simp (eq-eqb (m * up e * down e) _ refl)
equals_itself (fin false m e) = simp (eq-eqb (m * up e * down e) _ refl)

-- rounding gives no NaN
either : (b : Bool) (x y : Float) → is_nan x ≡ false → is_nan y ≡ false → is_nan (cond b x y) ≡ false
either true x y h k = h
either false x y h k = k

odd_number : (d : ℕ) (s : Bool) (q k l : ℕ) → is_nan (odd d s q k l) ≡ false
unfolding odd is_nan
odd_number d s zero k l = refl
odd_number d s (suc q) k l = refl

units_number : (f : Format) (s : Bool) (q k : ℕ) → is_nan (units f s q k) ≡ false
unfolding units
units_number f s q k =
    either (ltb (q * 2 ^ k) (2 ^ (low f + suc (emax f)))) (odd (suc (prec f)) s q k (low f)) (inf s) (odd_number (suc (prec f)) s q k (low f)) (unfold is_nan in refl)

round_number : (f : Format) (s : Bool) (n d : ℕ) → is_nan (round f s n d) ≡ false
round_number f s n d = ap is_nan (round_is f s n d) ∙ units_number f s _ _

sum_number : (f : Format) (s : Bool) (a : ℕ) (t : Bool) (b c : ℕ) → is_nan (sum f s a t b c) ≡ false
unfolding sum
sum_number f s a t b c =
    either (beq s t) _ _ (round_number f s (a + b) c)
    (either (ltb a b) _ _ (round_number f t (b - a) c) (round_number f (s && ltb b a) (a - b) c))

-- less itself, an infinity or a NaN is a NaN, and a number is a number
less_itself : (f : Format) (x : Float) → is_nan (sub f x x) ≡ not (finite x)
unfolding sub add neg is_nan finite
less_itself f nan = refl
less_itself f (inf true) = refl
less_itself f (inf false) = refl
less_itself f (fin s m e) = sum_number f s (m * up e * down e) (not s) (m * up e * down e) (down e * down e)

pub finite_tested : (x : Float) → eq (sub binary64 x x) (sub binary64 x x) ≡ finite x
finite_tested x = equals_itself (sub binary64 x x) ∙ ap not (less_itself binary64 x) ∙ not-not (finite x)

-- an operand that is infinite or a NaN makes such a sum, and such a difference
pub add_strict : (f : Format) (x y : Float) → finite (add f x y) ≡ true → finite x && finite y ≡ true
unfolding add finite
add_strict f nan y e = e
add_strict f (inf s) nan e = e
add_strict f (inf true) (inf true) e = e
add_strict f (inf true) (inf false) e = e
add_strict f (inf false) (inf true) e = e
add_strict f (inf false) (inf false) e = e
add_strict f (inf s) (fin t n d) e = e
add_strict f (fin s m k) nan e = e
add_strict f (fin s m k) (inf t) e = e
add_strict f (fin s m k) (fin t n d) e = refl

neg_finite : (x : Float) → finite (neg x) ≡ finite x
unfolding neg finite
neg_finite nan = refl
neg_finite (inf s) = refl
neg_finite (fin s m e) = refl

pub sub_strict : (f : Format) (x y : Float) → finite (sub f x y) ≡ true → finite x && finite y ≡ true
unfolding sub
sub_strict f x y e = ap (λ (b : Bool). finite x && b) (sym (neg_finite y)) ∙ add_strict f x (neg y) e

-- the operands of a sum may change places: of unlike signs, the greater one's stays
module _ (f : Format) (a b c : ℕ) where
  greater : (s t p q : Bool) → ltb a b ≡ p → ltb b a ≡ q
      → cond p (round f t (b - a) c) (round f (s && q) (a - b) c) ≡ cond q (round f s (a - b) c) (round f (t && p) (b - a) c)
  greater s t true true h k = let l : a < b = ltb-true a b h in let m : b < a = ltb-true b a k in absurd (omega arith)
  greater s t true false h k = rw (and-true t)
  greater s t false true h k = rw (and-true s)
  greater s t false false h k =
      let l : b ≤ a = ltb-false a b h in
      let m : a ≤ b = ltb-false b a k in
      let e : a - b ≡ b - a = omega arith in
      rw (and-false s, and-false t, e)

  unlike_signs : (s t : Bool) → beq s t ≡ false → beq t s ≡ false → sum f s a t b c ≡ sum f t b s a c
  unfolding sum
  unlike_signs s t h k = rw (h, k) (greater s t (ltb a b) (ltb b a) refl refl)

sum_comm : (f : Format) (s : Bool) (a : ℕ) (t : Bool) (b c : ℕ) → sum f s a t b c ≡ sum f t b s a c
unfolding sum
sum_comm f true a true b c = ap (λ (n : ℕ). round f true n c) (add_comm a b)
sum_comm f false a false b c = ap (λ (n : ℕ). round f false n c) (add_comm a b)
sum_comm f true a false b c = unlike_signs f a b c true false refl refl
sum_comm f false a true b c = unlike_signs f a b c false true refl refl

pub add_swapped : (f : Format) (x y : Float) → add f x y ≡ add f y x
unfolding add
add_swapped f nan nan = refl
add_swapped f nan (inf t) = refl
add_swapped f nan (fin t n d) = refl
add_swapped f (inf s) nan = refl
add_swapped f (inf true) (inf true) = refl
add_swapped f (inf true) (inf false) = refl
add_swapped f (inf false) (inf true) = refl
add_swapped f (inf false) (inf false) = refl
add_swapped f (inf s) (fin t n d) = refl
add_swapped f (fin s m e) nan = refl
add_swapped f (fin s m e) (inf t) = refl
add_swapped f (fin s m e) (fin t n d) =
    sum_comm f s (m * up e * down d) t (n * up d * down e) (down e * down d)
    ∙ ap (λ (c : ℕ). sum f t (n * up d * down e) s (m * up e * down d) c) (mul_comm (down e) (down d))
