-- A value gives back its bytes, since by its code the field has one value of that width, and writing a number undoes
-- reading it.
use Prim.Native.Nat.{ℕ, ◌+◌, ◌-◌, ◌*◌, ◌<◌, ◌≤◌}
use mathlib.Core.Path.{◌≡◌, refl, ap, sym, ◌∙◌, subst}
use mathlib.Core.Bool.{Bool, true, false, cond, not}
use lib.Dec.{T}
use mathlib.Core.List.{List, [], ◌∷◌, flat_map}
use native.Mathlib.Omega.{arith}
use native.Mathlib.Nat.{add-zero, zero-add}
use lib.ListN.{length, get_or, take, drop, length-append}
use lib.Ieee.{Format, top, binary32, binary64, nan_bits, of_bits, to_bits}
use lib.Ieee.Bits.{to_bits-of_bits, nan_bits_is}
use Rattle.sim0mq.specs.Answer.{fine, byte, big}
use Rattle.sim0mq.specs.Codes.{counts_of, marking_of, width_of, boolean}
use Rattle.sim0mq.specs.Field.{Field}
use Rattle.sim0mq.specs.Mark.{kind_of}
use Rattle.sim0mq.specs.Allowed.{Each, none, more, IsMark, with_display, with_currency, with_both, joined, marks_asked}
use Rattle.sim0mq.proofs.Stands.{Stands, stands_head, stands_tail, stands_left, part_back}
use Rattle.sim0mq_numbers.specs.Bytes.{big_bytes}
use Rattle.sim0mq_numbers.proofs.ByteLaws.{bytes_back, big_fits}
use Rattle.asking.specs.Asking.{asked}
use Rattle.sim0mq_signed.specs.Signed.{twos, bits_of}
use Rattle.sim0mq_signed.proofs.Signed.{bits_back}
use Rattle.sim0mq_kinds.specs.Kinds.{float_of, double_of, with_float, with_double}
use Rattle.asking_scalars.specs.Scalars.{mark_of, mark_at}
use Rattle.asking_scalars.specs.Bytes.{scalar_bytes, bytes_of_mark, mark_bytes}
use Rattle.asking_scalars.specs.Promises.{WritesBack}
use Rattle.sim0mq_kinds.specs.declared.Scalar.{Scalar}
use Rattle.sim0mq_kinds.specs.declared.Scalar.TheVariants.{Float, Double, FloatUnit, DoubleUnit, NotNumber}
use Rattle.asking_scalars.proofs.OneLaws.{asked_one}
use Rattle.asking_scalars.proofs.ReadCases.{ReadAs, as_byte, as_short, as_int, as_long, as_float, as_double, as_boolean, as_char8, as_char16, as_float_unit, as_double_unit}

-- the bits of a float that is no NaN are those it was read from
pub float_back : (f : Format) (n : ℕ) → n < 2 * top f → nan_bits f n ≡ false → to_bits f (of_bits f n) ≡ n
float_back f n h e = to_bits-of_bits f n h (subst (λ (b : Bool). T (not b)) (sym (sym (nan_bits_is f n) ∙ e)) tt)

-- a value that is not told to be no number passed the test
number : (b : Bool) (k : ℕ) (u v : Scalar) → cond b (NotNumber k) u ≡ v → ((c : ℕ) → v ≡ NotNumber c → ⊥) → (b ≡ false) × (u ≡ v)
number true k u v e other = absurd (other k (sym e))
number false k u v e other = (refl, e)

-- no marks are no bytes, and one mark is its own
no_marks : (ms : List (List ℕ)) → length ms ≡ 0 → length (joined ms) ≡ 0
unfolding flat_map
no_marks [] e = refl
no_marks (m ∷ ms) e = absurd (omega arith)

pub one_mark : (s : List ℕ) (at : ℕ) (ms : List (List ℕ)) → length ms ≡ 1 → Each IsMark ms → Stands s at (joined ms)
    → (m : List ℕ) × IsMark m × Stands s at m × (length (joined ms) ≡ length m)
unfolding flat_map
one_mark s at [] e none st = absurd (omega arith)
one_mark s at (m ∷ []) e (more a none) st = (m, a, stands_left m [] st, length-append m [] ∙ omega arith)
one_mark s at (m ∷ l ∷ ms) e a st = absurd (omega arith)

-- a Boolean's byte
boolean_back : (x n : ℕ) → n ≤ 1 → x ≡ n → (x ∷ []) ≡ big_bytes 1 n
unfolding big_bytes
boolean_back x n h e = ap (λ (y : ℕ). y ∷ []) (omega arith)

-- a number of one byte is that byte
pub one_byte : (s : List ℕ) (at : ℕ) → big s at 1 ≡ byte s at
unfolding big
one_byte s at = zero-add (byte s (at + 0)) ∙ ap (λ (n : ℕ). get_or s n 0) (add-zero at)

module _ (s : List ℕ) (bytes : (i : ℕ) → byte s i < 256) where
  -- a mark is written as the bytes that it was read from
  mark_back : {at : ℕ} (m : List ℕ) → IsMark m → Stands s at m → bytes_of_mark (mark_at s at) (kind_of (mark_at s at).unit) ≡ m
  unfolding bytes_of_mark mark_of
  mark_back {at} m (with_display {u = u} {t = t} {d = d} k e) st = simp (stands_head st, k, stands_head (stands_tail st))
  mark_back {at} m (with_currency {u = u} {h = h} {l = l} k e) st =
      let tail = stands_tail st in
      let fits = tail.fits in
      let two : big_bytes 2 (big s (at + 1) 2) ≡ h ∷ l ∷ [] = bytes_back s bytes 2 (at + 1) (omega arith) ∙ part_back (h ∷ l ∷ []) tail in
      simp (stands_head st, k, two)
  mark_back {at} m (with_both {u = u} {t = t} {h = h} {l = l} {d = d} k e g) st =
      let tail = stands_tail st in
      let fits = tail.fits in
      let two : big_bytes 2 (big s (at + 1) 2) ≡ h ∷ l ∷ []
      = bytes_back s bytes 2 (at + 1) (omega arith) ∙ part_back (h ∷ l ∷ []) (stands_left (h ∷ l ∷ []) (d ∷ []) tail) in
      let last : byte s (at + 3) ≡ d = ap (λ (n : ℕ). get_or s n 0) (omega arith) ∙ stands_head (stands_tail (stands_tail tail)) in
      simp (stands_head st, k, two, last)

  module _ (k : ℕ) (f : Field) (q : asked s k ≡ fine f) where
    -- the value's bytes
    view-back : (n : ℕ) → counts_of f.code ≡ 0 → width_of f.code ≡ n
        → big_bytes n (big s f.first n) ≡ take f.size (drop f.first s)
    view-back n z w =
        let o = asked_one s k f q z in
        let within = o.within in
        let e : n ≡ f.size = sym (o.size ∙ w) in
        bytes_back s bytes n f.first (omega arith) ∙ ap (λ (j : ℕ). take j (drop f.first s)) e

    -- a field without marks
    unmarked-back : (n : ℕ) (v : Scalar) → counts_of f.code ≡ 0 → marking_of f.code ≡ 0 → width_of f.code ≡ n
        → scalar_bytes v ≡ big_bytes n (big s f.first n) → mark_bytes v ≡ [] → WritesBack s f v
    unfolding marks_asked
    unmarked-back n v z m w e g =
        let o = asked_one s k f q z in
        let first = o.first in
        let none = no_marks o.marks (o.many ∙ ap (λ (j : ℕ). marks_asked j []) m) in
        let empty : 0 ≡ f.first - (f.place + 1) = omega arith in
        record { itself = e ∙ view-back n z w; mark = g ∙ ap (λ (j : ℕ). take j (drop (f.place + 1) s)) empty }

    -- a field with one mark
    marked-back : (n : ℕ) (v : Scalar) → counts_of f.code ≡ 0 → marking_of f.code ≡ 1 → width_of f.code ≡ n
        → scalar_bytes v ≡ big_bytes n (big s f.first n)
        → mark_bytes v ≡ bytes_of_mark (mark_at s (f.place + 1)) (kind_of (mark_at s (f.place + 1)).unit) → WritesBack s f v
    unfolding marks_asked
    marked-back n v z m w e g =
        let o = asked_one s k f q z in
        let first = o.first in
        let one = one_mark s (f.place + 1) o.marks (o.many ∙ ap (λ (j : ℕ). marks_asked j []) m) o.are o.there in
        let l = one.0 in
        let long : length l ≡ f.first - (f.place + 1) = let same = one.3 in omega arith in
        record {
          itself = e ∙ view-back n z w;
          mark =
              g
              ∙ mark_back l one.1 one.2
              ∙ sym (part_back l one.2)
              ∙ ap (λ (j : ℕ). take j (drop (f.place + 1) s)) long;
        }

    -- a signed number of n bytes
    signed_back : (n : ℕ) → big_bytes n (bits_of (8 * n) (twos (8 * n) (big s f.first n))) ≡ big_bytes n (big s f.first n)
    signed_back n = ap (big_bytes n) (bits_back (8 * n) (big s f.first n) (big_fits s bytes n f.first))

    -- each value, by its code
    pub value-back : (v : Scalar) → ReadAs s f v → ((c : ℕ) → v ≡ NotNumber c → ⊥) → WritesBack s f v
    unfolding counts_of marking_of width_of scalar_bytes mark_bytes boolean float_of double_of with_float with_double
    value-back v (as_byte c e) other =
        unmarked-back 1 v (ap counts_of c) (ap marking_of c) (ap width_of c) (ap scalar_bytes (sym e) ∙ signed_back 1) (ap mark_bytes (sym e))
    value-back v (as_short c e) other =
        unmarked-back 2 v (ap counts_of c) (ap marking_of c) (ap width_of c) (ap scalar_bytes (sym e) ∙ signed_back 2) (ap mark_bytes (sym e))
    value-back v (as_int c e) other =
        unmarked-back 4 v (ap counts_of c) (ap marking_of c) (ap width_of c) (ap scalar_bytes (sym e) ∙ signed_back 4) (ap mark_bytes (sym e))
    value-back v (as_long c e) other =
        unmarked-back 8 v (ap counts_of c) (ap marking_of c) (ap width_of c) (ap scalar_bytes (sym e) ∙ signed_back 8) (ap mark_bytes (sym e))
    value-back v (as_float c e) other =
        let x = big s f.first 4 in
        let t = number (nan_bits binary32 x) 4 (Float (of_bits binary32 x)) v e other in
        let b = ap (big_bytes 4) (float_back binary32 x (big_fits s bytes 4 f.first) t.0) in
        unmarked-back 4 v (ap counts_of c) (ap marking_of c) (ap width_of c) (ap scalar_bytes (sym t.1) ∙ b) (ap mark_bytes (sym t.1))
    value-back v (as_double c e) other =
        let x = big s f.first 8 in
        let t = number (nan_bits binary64 x) 5 (Double (of_bits binary64 x)) v e other in
        let b = ap (big_bytes 8) (float_back binary64 x (big_fits s bytes 8 f.first) t.0) in
        unmarked-back 8 v (ap counts_of c) (ap marking_of c) (ap width_of c) (ap scalar_bytes (sym t.1) ∙ b) (ap mark_bytes (sym t.1))
    value-back v (as_boolean c b e g) other =
        let o = asked_one s k f q (ap counts_of c) in
        let size : f.size ≡ 1 = o.size ∙ ap width_of c in
        let h : big s f.first 1 ≤ 1 = rw (one_byte s f.first) (o.is_boolean (ap boolean c) (omega arith)) in
        let r = boolean_back (cond b 1 0) (big s f.first 1) h (g h) in
        unmarked-back 1 v (ap counts_of c) (ap marking_of c) (ap width_of c) (ap scalar_bytes (sym e) ∙ r) (ap mark_bytes (sym e))
    value-back v (as_char8 c e) other =
        unmarked-back 1 v (ap counts_of c) (ap marking_of c) (ap width_of c) (ap scalar_bytes (sym e)) (ap mark_bytes (sym e))
    value-back v (as_char16 c e) other =
        unmarked-back 2 v (ap counts_of c) (ap marking_of c) (ap width_of c) (ap scalar_bytes (sym e)) (ap mark_bytes (sym e))
    value-back v (as_float_unit c e) other =
        let x = big s f.first 4 in
        let t = number (nan_bits binary32 x) 25 (FloatUnit (of_bits binary32 x) (mark_at s (f.place + 1))) v e other in
        let b = ap (big_bytes 4) (float_back binary32 x (big_fits s bytes 4 f.first) t.0) in
        marked-back 4 v (ap counts_of c) (ap marking_of c) (ap width_of c) (ap scalar_bytes (sym t.1) ∙ b) (ap mark_bytes (sym t.1))
    value-back v (as_double_unit c e) other =
        let x = big s f.first 8 in
        let t = number (nan_bits binary64 x) 26 (DoubleUnit (of_bits binary64 x) (mark_at s (f.place + 1))) v e other in
        let b = ap (big_bytes 8) (float_back binary64 x (big_fits s bytes 8 f.first) t.0) in
        marked-back 8 v (ap counts_of c) (ap marking_of c) (ap width_of c) (ap scalar_bytes (sym t.1) ∙ b) (ap mark_bytes (sym t.1))
