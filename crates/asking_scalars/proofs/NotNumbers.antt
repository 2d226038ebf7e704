-- A value is no number exactly where its bits are a NaN's, since only floats and doubles are judged, and by that test
-- alone.
use Prim.Native.Nat.{ℕ, ◌+◌}
use mathlib.Core.Path.{◌≡◌, refl, sym, ◌∙◌}
use mathlib.Core.Bool.{Bool, true, false, cond}
use mathlib.Core.Logic.{inl, inr}
use mathlib.Core.List.{List}
use native.Mathlib.Omega.{arith}
use lib.Ieee.{binary32, binary64, of_bits}
use Rattle.sim0mq.specs.Answer.{fine, big}
use Rattle.sim0mq.specs.Field.{Field}
use Rattle.sim0mq_kinds.specs.Kinds.{float_of, double_of, with_float, with_double}
use Rattle.asking_scalars.specs.Scalars.{mark_at, scalar_of}
use Rattle.asking_scalars.specs.Promises.{HoldsNaN}
use Rattle.sim0mq_kinds.specs.declared.Scalar.{Scalar}
use Rattle.sim0mq_kinds.specs.declared.Scalar.TheVariants.{Float, Double, FloatUnit, DoubleUnit, NotNumber}
use Rattle.asking_scalars.proofs.ReadCases.{ReadAs, as_byte, as_short, as_int, as_long, as_float, as_double, as_boolean, as_char8, as_char16, as_float_unit, as_double_unit}

-- two cases of a value that are the same would make 0 and 1 the same
apart : {P : Type 0} → ◌≡◌ {A = ℕ} 0 1 → P
apart e = absurd (omega arith)

-- the test that a float or double is put to
nan_told : (b : Bool) (k c : ℕ) (v : Scalar) → ((d : ℕ) → v ≡ NotNumber d → ⊥) → cond b (NotNumber k) v ≡ NotNumber c → (b ≡ true) × (c ≡ k)
nan_told true k c v other e = (refl, cc)
nan_told false k c v other e = absurd (other c e)

-- a value is told to be no number only where its bits are a NaN's
pub nan_only : (s : List ℕ) (f : Field) (c : ℕ) → ReadAs s f (NotNumber c) → (c ≡ f.code) × HoldsNaN s f
unfolding float_of double_of with_float with_double
nan_only s f c (as_byte k e) = apart cc
nan_only s f c (as_short k e) = apart cc
nan_only s f c (as_int k e) = apart cc
nan_only s f c (as_long k e) = apart cc
nan_only s f c (as_float k e) =
    let t = nan_told _ 4 c (Float (of_bits binary32 (big s f.first 4))) (λ d x. apart cc) e in
    (t.1 ∙ sym k, inl (inl k, t.0))
nan_only s f c (as_double k e) =
    let t = nan_told _ 5 c (Double (of_bits binary64 (big s f.first 8))) (λ d x. apart cc) e in
    (t.1 ∙ sym k, inr (inl k, t.0))
nan_only s f c (as_boolean k b e g) = apart cc
nan_only s f c (as_char8 k e) = apart cc
nan_only s f c (as_char16 k e) = apart cc
nan_only s f c (as_float_unit k e) =
    let t = nan_told _ 25 c (FloatUnit (of_bits binary32 (big s f.first 4)) (mark_at s (f.place + 1))) (λ d x. apart cc) e in
    (t.1 ∙ sym k, inl (inr k, t.0))
nan_only s f c (as_double_unit k e) =
    let t = nan_told _ 26 c (DoubleUnit (of_bits binary64 (big s f.first 8)) (mark_at s (f.place + 1))) (λ d x. apart cc) e in
    (t.1 ∙ sym k, inr (inr k, t.0))

-- and there it always is
pub nan_always : (s : List ℕ) (f : Field) → HoldsNaN s f → scalar_of s f ≡ fine (NotNumber f.code)
unfolding scalar_of float_of double_of with_float with_double
nan_always s f (inl (inl k, e)) = simp (k, e)
nan_always s f (inl (inr k, e)) = simp (k, e)
nan_always s f (inr (inl k, e)) = simp (k, e)
nan_always s f (inr (inr k, e)) = simp (k, e)
