-- What asking returns as a double with its unit has a mark that is taken, since its field was judged, and its mark with
-- it.
use Prim.Native.Nat.{ℕ, ◌+◌}
use mathlib.Core.Path.{◌≡◌, refl, sym, ap, ◌∙◌, subst}
use mathlib.Core.Bool.{Bool, true, false, cond, false≢true}
use mathlib.Core.List.{List, [], ◌∷◌}
use native.Mathlib.Omega.{arith}
use lib.Ieee.{Float, binary32, binary64, nan_bits, of_bits}
use Rattle.sim0mq.specs.Answer.{fine, byte}
use Rattle.sim0mq.specs.Allowed.{IsMark, with_display, with_currency, with_both, marks_asked}
use Rattle.sim0mq.specs.Codes.{counts_of, marking_of}
use Rattle.sim0mq.specs.Field.{Field}
use Rattle.sim0mq.proofs.Answers.{bind_fine}
use Rattle.sim0mq.proofs.Stands.{Stands, stands_head, stands_tail, stands_left, big_number}
use Rattle.sim0mq_kinds.specs.Kinds.{float_of, double_of, with_float, with_double}
use Rattle.sim0mq_kinds.specs.declared.Mark.{Mark}
use Rattle.sim0mq_kinds.specs.declared.Scalar.{Scalar}
use Rattle.sim0mq_kinds.specs.declared.Scalar.TheVariants.{Float as Single, Double, FloatUnit, DoubleUnit, NotNumber}
use Rattle.asking.specs.Asking.{asked}
use Rattle.asking_scalars.specs.Scalars.{mark_of, mark_at, scalar_of, value}
use Rattle.asking_scalars.proofs.BackLaws.{one_mark}
use Rattle.asking_scalars.proofs.OneLaws.{asked_one}
use Rattle.asking_scalars.proofs.ReadCases.{ReadAs, as_byte, as_short, as_int, as_long, as_float, as_double, as_boolean, as_char8, as_char16, as_float_unit, as_double_unit, read_as}
use Rattle.writing_encoding.specs.Scalars.{mark_taken}
use Rattle.sums.specs.Promises.{IsTaken}
use Rattle.sums.proofs.ReadLaws.{is_double}

-- a mark that the manual allows is taken where it stands
stands_taken : {s : List ℕ} {at : ℕ} (l : List ℕ) → IsMark l → Stands s at l → IsTaken (mark_at s at)
unfolding mark_taken mark_of
stands_taken l (with_display k e) st = simp (stands_head st, k, stands_head (stands_tail st)) e
stands_taken l (with_currency {h = h} {l = b} k e) st = simp (stands_head st, k, big_number (h ∷ b ∷ []) (stands_tail st), e)
stands_taken {s} {at} l (with_both {h = h} {l = b} {d = d} k e g) st =
    let tail = stands_tail st in
    let last : byte s (at + 3) ≡ d = ap (byte s) (omega arith) ∙ stands_head (stands_tail (stands_tail tail)) in
    simp (stands_head st, k, big_number (h ∷ b ∷ []) (stands_left (h ∷ b ∷ []) (d ∷ []) tail), last, e, g)

-- of these none is a double with its unit
neither : (b : Bool) (x y : Scalar) → is_double x ≡ false → is_double y ≡ false → is_double (cond b x y) ≡ false
neither true x y h k = h
neither false x y h k = k

float_not : (n : ℕ) → is_double (float_of n) ≡ false
unfolding float_of
float_not n = neither (nan_bits binary32 n) (NotNumber 4) (Single (of_bits binary32 n)) refl refl

double_not : (n : ℕ) → is_double (double_of n) ≡ false
unfolding double_of
double_not n = neither (nan_bits binary64 n) (NotNumber 5) (Double (of_bits binary64 n)) refl refl

float_with_not : (n : ℕ) (m : Mark) → is_double (with_float n m) ≡ false
unfolding with_float
float_with_not n m = neither (nan_bits binary32 n) (NotNumber 25) (FloatUnit (of_bits binary32 n) m) refl refl

module _ (x : Float) (m : Mark) where
  no_double_unit : (v : Scalar) → v ≡ DoubleUnit x m → is_double v ≡ false → ⊥
  no_double_unit v e h = false≢true (sym h ∙ ap is_double e)

  mark_of_lem : (b : Bool) (y : Float) (n : Mark) → cond b (NotNumber 26) (DoubleUnit y n) ≡ DoubleUnit x m → n ≡ m
  mark_of_lem true y n e = absurd (no_double_unit (NotNumber 26) e refl)
  mark_of_lem false y n e = cc

  mark_with : (j : ℕ) (n : Mark) → with_double j n ≡ DoubleUnit x m → n ≡ m
  unfolding with_double
  mark_with j n e = mark_of_lem (nan_bits binary64 j) (of_bits binary64 j) n e

  read_taken : (s : List ℕ) (k : ℕ) (f : Field) → asked s k ≡ fine f → ReadAs s f (DoubleUnit x m) → IsTaken m
  unfolding counts_of marking_of marks_asked
  read_taken s k f q (as_byte c e) = absurd (no_double_unit _ e refl)
  read_taken s k f q (as_short c e) = absurd (no_double_unit _ e refl)
  read_taken s k f q (as_int c e) = absurd (no_double_unit _ e refl)
  read_taken s k f q (as_long c e) = absurd (no_double_unit _ e refl)
  read_taken s k f q (as_float c e) = absurd (no_double_unit _ e (float_not _))
  read_taken s k f q (as_double c e) = absurd (no_double_unit _ e (double_not _))
  read_taken s k f q (as_boolean c b e g) = absurd (no_double_unit _ e refl)
  read_taken s k f q (as_char8 c e) = absurd (no_double_unit _ e refl)
  read_taken s k f q (as_char16 c e) = absurd (no_double_unit _ e refl)
  read_taken s k f q (as_float_unit c e) = absurd (no_double_unit _ e (float_with_not _ _))
  read_taken s k f q (as_double_unit c e) =
      let o = asked_one s k f q (ap counts_of c) in
      let one = one_mark s (f.place + 1) o.marks (o.many ∙ ap (λ (j : ℕ). marks_asked (marking_of j) []) c) o.are o.there in
      subst IsTaken (mark_with _ _ e) (stands_taken one.0 one.1 one.2)

  pub asked_taken : (s : List ℕ) (k : ℕ) → value s k ≡ fine (DoubleUnit x m) → IsTaken m
  unfolding value
  asked_taken s k e = let a = bind_fine (asked s k) (scalar_of s) e in read_taken s k a.0 a.1 (read_as s a.0 (DoubleUnit x m) a.2)
