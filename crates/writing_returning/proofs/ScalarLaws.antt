-- A scalar that may be written is read back as it was, since its field has just the parts that its code asks for, and
-- each number fits its bytes.
use Prim.Native.Nat.{ℕ, zero, suc, ◌+◌, ◌*◌, ◌<◌, ◌≤◌, ◌^◌}
use mathlib.Core.Path.{◌≡◌, refl, ap, sym, ◌∙◌, subst}
use mathlib.Core.Bool.{Bool, true, false, cond, not, false≢true}
use mathlib.Core.List.{List, [], ◌∷◌, ◌++◌, flat_map, append-nil}
use native.Mathlib.Omega.{arith}
use lib.Dec.{T, eqb, ltb}
use lib.ListN.{length, get_or}
use lib.IntN.{ℤ}
use lib.Ieee as Ieee
use lib.Ieee.{Format, binary32, binary64, fits, is_nan, nan_bits, of_bits, to_bits}
use lib.Ieee.Bits.{of_bits-to_bits, to_bits-lt, nan_bits_is}
use borrow.Author.Tests.{eqb-true, not-true}
use Rattle.sim0mq.specs.Answer.{fine, byte, big}
use Rattle.sim0mq.specs.Codes.{code_known, counts_of, marking_of, width_of, boolean}
use Rattle.sim0mq.specs.Mark.{Kind, plain, money, money_per, unknown, kind_of, currency_taken, display_taken}
use Rattle.sim0mq.specs.Allowed.{number_after, number, none, more, IsMark, with_display, with_currency, with_both, FieldParts, joined, field_bytes, values_asked, marks_asked, IsField}
use Rattle.sim0mq.proofs.Answers.{and_true}
use Rattle.sim0mq.proofs.Stands.{Stands, stands_self, stands_head, stands_tail, stands_left, stands_right, big_number}
use Rattle.sim0mq.proofs.Rows.{currency_most}
use Rattle.sim0mq.proofs.HeaderLaws.{values_there}
use Rattle.sim0mq.proofs.FieldLaws.{field_at, field_complete}
use Rattle.sim0mq_signed.specs.Signed.{twos, bits_of}
use Rattle.sim0mq_kinds.specs.Kinds.{float_of, double_of, with_float, with_double}
use Rattle.asking_scalars.specs.Scalars.{mark_of, mark_at, scalar_of}
use Rattle.sim0mq_numbers.specs.Bytes.{big_bytes}
use Rattle.asking_scalars.specs.Bytes.{scalar_bytes, bytes_of_mark, mark_bytes}
use Rattle.asking_scalars.specs.Promises.{value_alone}
use Rattle.sim0mq_kinds.specs.declared.Mark.{Mark}
use Rattle.sim0mq_kinds.specs.declared.Scalar.{Scalar}
use Rattle.sim0mq_kinds.specs.declared.Scalar.TheVariants.{Byte, Short, Int, Long, Float, Double, Boolean, Char8, Char16, FloatUnit, DoubleUnit, NotNumber}
use Rattle.writing_encoding.specs.Scalars.{code_of, scalar_text, mark_taken, writable}
use Rattle.writing_returning.specs.Promises.{InWidth, Held}
use Rattle.writing_puts.proofs.PlaceLaws.{big_length}
use Rattle.writing_puts.proofs.NumberLaws.{number_read, number_back}
use Rattle.writing_returning.proofs.NumberLaws.{signed_back, bits_held, marked_parts, marked_is, number_is}

-- the strings of a scalar's marks: one or none
abbrev scalar_marks : Scalar → List (List ℕ)
scalar_marks (Byte z) = []
scalar_marks (Short z) = []
scalar_marks (Int z) = []
scalar_marks (Long z) = []
scalar_marks (Float x) = []
scalar_marks (Double x) = []
scalar_marks (Boolean b) = []
scalar_marks (Char8 n) = []
scalar_marks (Char16 n) = []
scalar_marks (FloatUnit x m) = bytes_of_mark m (kind_of m.unit) ∷ []
scalar_marks (DoubleUnit x m) = bytes_of_mark m (kind_of m.unit) ∷ []
scalar_marks (NotNumber c) = []

-- the parts of the field that a scalar is written as
abbrev pub scalar_parts : Scalar → FieldParts
scalar_parts v = record { code = code_of v; counts = []; marks = scalar_marks v; values = scalar_bytes v }

-- its marks are the bytes of its mark
marks_bytes : (v : Scalar) → joined (scalar_marks v) ≡ mark_bytes v
unfolding flat_map mark_bytes
marks_bytes (Byte z) = refl
marks_bytes (Short z) = refl
marks_bytes (Int z) = refl
marks_bytes (Long z) = refl
marks_bytes (Float x) = refl
marks_bytes (Double x) = refl
marks_bytes (Boolean b) = refl
marks_bytes (Char8 n) = refl
marks_bytes (Char16 n) = refl
marks_bytes (FloatUnit x m) = append-nil (bytes_of_mark m (kind_of m.unit))
marks_bytes (DoubleUnit x m) = append-nil (bytes_of_mark m (kind_of m.unit))
marks_bytes (NotNumber c) = refl

-- the parts end to end are the text
pub scalar_bytes_lem : (v : Scalar) → field_bytes (scalar_parts v) ≡ scalar_text v
unfolding flat_map scalar_text
scalar_bytes_lem v = ap (λ (l : List ℕ). code_of v ∷ (l ++ scalar_bytes v)) (marks_bytes v)

-- a currency code fits its two bytes
currency_held : (c : ℕ) → currency_taken c ≡ true → number (big_bytes 2 c) ≡ c
currency_held c e = let h = currency_most c e in number_back 2 c (omega arith)

-- a mark that is taken is one that the manual allows
mark_is : (m : Mark) (k : Kind) → kind_of m.unit ≡ k → mark_taken m k ≡ true → IsMark (bytes_of_mark m k)
unfolding mark_taken bytes_of_mark big_bytes
mark_is m (plain t) e h = with_display e (and_true (eqb m.currency 0) (display_taken t m.display) h).1
mark_is m money e h =
    let c = (and_true (currency_taken m.currency) (eqb m.display 0) h).0 in
    with_currency e (ap currency_taken (currency_held m.currency c) ∙ c)
mark_is m (money_per t) e h =
    let both = and_true (currency_taken m.currency) (display_taken t m.display) h in
    with_both e (ap currency_taken (currency_held m.currency both.0) ∙ both.0) both.1
mark_is m unknown e h = absurd (false≢true h)

-- a Boolean's byte is 0 or 1
boolean_byte : (i : ℕ) (b : Bool) → get_or (cond b 1 0 ∷ []) i 0 ≤ 1
boolean_byte zero true = omega arith
boolean_byte zero false = omega arith
boolean_byte (suc i) b = omega arith

-- so it is a field that the manual allows
boolean_is : (b : Bool) → IsField (scalar_parts (Boolean b))
unfolding code_of scalar_bytes code_known counts_of marking_of width_of values_asked marks_asked
boolean_is b =
    record {
      known = refl;
      counted = refl;
      is_counts = none;
      marked = refl;
      is_marks = none;
      sized = refl;
      is_boolean = λ t i h. boolean_byte i b;
    }

-- a scalar that may be written is a field that the manual allows
pub scalar_is : (v : Scalar) → writable v ≡ true → IsField (scalar_parts v)
unfolding code_of scalar_bytes writable code_known counts_of marking_of marks_asked width_of boolean
scalar_is (Byte z) h = number_is 0 1 (bits_of 8 z) refl refl refl refl refl
scalar_is (Short z) h = number_is 1 2 (bits_of 16 z) refl refl refl refl refl
scalar_is (Int z) h = number_is 2 4 (bits_of 32 z) refl refl refl refl refl
scalar_is (Long z) h = number_is 3 8 (bits_of 64 z) refl refl refl refl refl
scalar_is (Float x) h = number_is 4 4 (to_bits binary32 x) refl refl refl refl refl
scalar_is (Double x) h = number_is 5 8 (to_bits binary64 x) refl refl refl refl refl
scalar_is (Boolean b) h = boolean_is b
scalar_is (Char8 n) h = number_is 7 1 n refl refl refl refl refl
scalar_is (Char16 n) h = number_is 8 2 n refl refl refl refl refl
scalar_is (FloatUnit x m) h =
    let taken = (and_true (not (is_nan x)) (mark_taken m (kind_of m.unit)) h).1 in
    marked_is 25 (bytes_of_mark m (kind_of m.unit) ∷ []) 4 (to_bits binary32 x) refl refl refl (more (mark_is m (kind_of m.unit) refl taken) none) refl refl
scalar_is (DoubleUnit x m) h =
    let taken = (and_true (not (is_nan x)) (mark_taken m (kind_of m.unit)) h).1 in
    marked_is 26 (bytes_of_mark m (kind_of m.unit) ∷ []) 8 (to_bits binary64 x) refl refl refl (more (mark_is m (kind_of m.unit) refl taken) none) refl refl
scalar_is (NotNumber c) h = absurd (false≢true h)

module _ (f : FieldParts) where
  -- the marks stand in the field's bytes after the code and the counts
  marks_there : Stands (field_bytes f) (0 + 1 + length (joined f.counts)) (joined f.marks ++ f.values)
  marks_there = stands_right (joined f.counts) (joined f.marks ++ f.values) (stands_tail (stands_self (field_bytes f)))

  -- asking judges a field of the manual, and then tells its value
  alone : IsField f → value_alone (field_bytes f) ≡ scalar_of (field_bytes f) (field_at 0 f)
  alone is = rw (field_complete f is (stands_self (field_bytes f))) refl

  -- the number that its values write
  values_read : (n x : ℕ) → f.values ≡ big_bytes n x → x < 2 ^ (8 * n) → big (field_bytes f) (field_at 0 f).first n ≡ x
  values_read n x e h = number_read n x h (subst (Stands (field_bytes f) (field_at 0 f).first) e (values_there f (stands_self (field_bytes f))))

  -- a signed number
  signed_read : (n : ℕ) (z : ℤ) → f.values ≡ big_bytes n (bits_of (8 * n) z) → 1 ≤ n → InWidth (8 * n) z
      → twos (8 * n) (big (field_bytes f) (field_at 0 f).first n) ≡ z
  signed_read n z e h k =
      ap (twos (8 * n)) (values_read n (bits_of (8 * n) z) e (bits_held (8 * n) z (omega arith) k)) ∙ signed_back (8 * n) z (omega arith) k

-- a float that is no NaN, of either format, is told from its bits
float_told : (f : Format) (x : Ieee.Float) → T (fits f x) → is_nan x ≡ false → (other : Scalar) (to : Ieee.Float → Scalar)
    → cond (nan_bits f (to_bits f x)) other (to (of_bits f (to_bits f x))) ≡ to x
float_told f x h e other to =
    let same : of_bits f (to_bits f x) ≡ x = of_bits-to_bits f x h in
    let is_none : nan_bits f (to_bits f x) ≡ false = nan_bits_is f (to_bits f x) ∙ ap is_nan same ∙ e in
    ap (λ (b : Bool). cond b other (to (of_bits f (to_bits f x)))) is_none ∙ ap to same

-- a mark is its three numbers
mark_eq : (m : Mark) {u c d : ℕ} → u ≡ m.unit → c ≡ m.currency → d ≡ m.display → ◌≡◌ {A = Mark} (record { unit = u; currency = c; display = d }) m
mark_eq m a b d = λ i. record { unit = a i; currency = b i; display = d i }

-- a currency code is read back from its two bytes
currency_read : (s : List ℕ) (at c : ℕ) → currency_taken c ≡ true → Stands s at (big_bytes 2 c) → big s at 2 ≡ c
currency_read s at c e st = subst (λ (k : ℕ). big s at k ≡ c) (big_length 2 c) (big_number (big_bytes 2 c) st ∙ currency_held c e)

-- a mark that is taken is read back from its bytes
mark_read : (s : List ℕ) (at : ℕ) (m : Mark) (k : Kind) → kind_of m.unit ≡ k → mark_taken m k ≡ true → Stands s at (bytes_of_mark m k)
    → mark_of s at (kind_of (byte s at)) ≡ m
unfolding mark_taken bytes_of_mark mark_of
mark_read s at m (plain t) e h st =
    let both = and_true (eqb m.currency 0) (display_taken t m.display) h in
    rw (stands_head st, e) (mark_eq m (stands_head st) (sym (eqb-true m.currency 0 both.0)) (stands_head (stands_tail st)))
mark_read s at m money e h st =
    let both = and_true (currency_taken m.currency) (eqb m.display 0) h in
    rw (stands_head st, e)
    (mark_eq m (stands_head st) (currency_read s (at + 1) m.currency both.0 (stands_tail st)) (sym (eqb-true m.display 0 both.1)))
mark_read s at m (money_per t) e h st =
    let both = and_true (currency_taken m.currency) (display_taken t m.display) h in
    let two = big_bytes 2 m.currency in
    let rest : Stands s (at + 1) (two ++ (m.display ∷ [])) = stands_tail st in
    let place : at + 3 ≡ at + 1 + length two = omega (arith, big_length 2 m.currency) in
    let last : byte s (at + 3) ≡ m.display = ap (byte s) place ∙ stands_head (stands_right two (m.display ∷ []) rest) in
    rw (stands_head st, e)
    (mark_eq m (stands_head st) (currency_read s (at + 1) m.currency both.0 (stands_left two (m.display ∷ []) rest)) last)
mark_read s at m unknown e h st = absurd (false≢true h)

-- so the mark of a field that has one is read back
mark_back : (c : ℕ) (m : Mark) (n x : ℕ) → mark_taken m (kind_of m.unit) ≡ true
    → mark_at (field_bytes (marked_parts c (bytes_of_mark m (kind_of m.unit) ∷ []) n x)) (0 + 1) ≡ m
unfolding flat_map
mark_back c m n x h =
    let l = bytes_of_mark m (kind_of m.unit) in
    let f = marked_parts c (l ∷ []) n x in
    mark_read (field_bytes f) (0 + 1) m (kind_of m.unit) refl h (stands_left l [] (stands_left (l ++ []) (big_bytes n x) (marks_there f)))

-- and the value of a scalar's field is the scalar
parts_back : (v : Scalar) → writable v ≡ true → Held v → scalar_of (field_bytes (scalar_parts v)) (field_at 0 (scalar_parts v)) ≡ fine v
unfolding code_of scalar_bytes writable scalar_of float_of double_of with_float with_double number_after
parts_back (Byte z) h k = ap (λ (y : ℤ). fine (Byte y)) (signed_read (scalar_parts (Byte z)) 1 z refl (omega arith) k)
parts_back (Short z) h k = ap (λ (y : ℤ). fine (Short y)) (signed_read (scalar_parts (Short z)) 2 z refl (omega arith) k)
parts_back (Int z) h k = ap (λ (y : ℤ). fine (Int y)) (signed_read (scalar_parts (Int z)) 4 z refl (omega arith) k)
parts_back (Long z) h k = ap (λ (y : ℤ). fine (Long y)) (signed_read (scalar_parts (Long z)) 8 z refl (omega arith) k)
parts_back (Float x) h k =
    ap (λ (y : ℕ). fine (float_of y)) (values_read (scalar_parts (Float x)) 4 (to_bits binary32 x) refl (to_bits-lt binary32 x k))
    ∙ ap fine (float_told binary32 x k (not-true (is_nan x) h) (NotNumber 4) Float)
parts_back (Double x) h k =
    ap (λ (y : ℕ). fine (double_of y)) (values_read (scalar_parts (Double x)) 8 (to_bits binary64 x) refl (to_bits-lt binary64 x k))
    ∙ ap fine (float_told binary64 x k (not-true (is_nan x) h) (NotNumber 5) Double)
parts_back (Boolean true) h k =
    let f = scalar_parts (Boolean true) in ap (λ (y : ℕ). fine (Boolean (ltb 0 y))) (big_number f.values (values_there f (stands_self (field_bytes f))))
parts_back (Boolean false) h k =
    let f = scalar_parts (Boolean false) in ap (λ (y : ℕ). fine (Boolean (ltb 0 y))) (big_number f.values (values_there f (stands_self (field_bytes f))))
parts_back (Char8 n) h k = ap (λ (y : ℕ). fine (Char8 y)) (values_read (scalar_parts (Char8 n)) 1 n refl k)
parts_back (Char16 n) h k = ap (λ (y : ℕ). fine (Char16 y)) (values_read (scalar_parts (Char16 n)) 2 n refl k)
parts_back (FloatUnit x m) h k =
    let f = scalar_parts (FloatUnit x m) in
    let both = and_true (not (is_nan x)) (mark_taken m (kind_of m.unit)) h in
    ap (λ (y : ℕ). fine (with_float y (mark_at (field_bytes f) (0 + 1)))) (values_read f 4 (to_bits binary32 x) refl (to_bits-lt binary32 x k))
    ∙ ap (λ (y : Mark). fine (with_float (to_bits binary32 x) y)) (mark_back 25 m 4 (to_bits binary32 x) both.1)
    ∙ ap fine (float_told binary32 x k (not-true (is_nan x) both.0) (NotNumber 25) (λ y. FloatUnit y m))
parts_back (DoubleUnit x m) h k =
    let f = scalar_parts (DoubleUnit x m) in
    let both = and_true (not (is_nan x)) (mark_taken m (kind_of m.unit)) h in
    ap (λ (y : ℕ). fine (with_double y (mark_at (field_bytes f) (0 + 1)))) (values_read f 8 (to_bits binary64 x) refl (to_bits-lt binary64 x k))
    ∙ ap (λ (y : Mark). fine (with_double (to_bits binary64 x) y)) (mark_back 26 m 8 (to_bits binary64 x) both.1)
    ∙ ap fine (float_told binary64 x k (not-true (is_nan x) both.0) (NotNumber 26) (λ y. DoubleUnit y m))
parts_back (NotNumber c) h k = absurd (false≢true h)

-- asking gives back a scalar that was written
pub scalar_back : (v : Scalar) → writable v ≡ true → Held v → value_alone (scalar_text v) ≡ fine v
scalar_back v h k =
    subst (λ (l : List ℕ). value_alone l ≡ fine v) (scalar_bytes_lem v) (alone (scalar_parts v) (scalar_is v h) ∙ parts_back v h k)
