-- A signed number is read back from its bits, since two's complement leaves out nothing; and what the manual asks of a
-- field that is one number, its code alone sees to.
use Prim.Native.Nat.{ℕ, suc, ◌+◌, ◌-◌, ◌*◌, ◌<◌, ◌≤◌, ◌^◌}
use mathlib.Core.Path.{◌≡◌, ap, sym, ◌∙◌}
use mathlib.Core.Bool.{true, false, false≢true}
use mathlib.Core.List.{List, []}
use native.Mathlib.Omega.{arith}
use lib.ListN.{length}
use lib.Pow.{pow-add}
use lib.IntN.{ℤ, pos, negsuc}
use borrow.Author.Tests.{lt-ltb, le-ltb}
use Rattle.sim0mq.specs.Codes.{code_known, counts_of, marking_of, width_of, boolean}
use Rattle.sim0mq.specs.Allowed.{Each, none, IsMark, FieldParts, values_asked, marks_asked, IsField}
use Rattle.sim0mq_signed.specs.Signed.{twos, bits_of}
use Rattle.sim0mq_numbers.specs.Bytes.{big_bytes}
use Rattle.writing_returning.specs.Promises.{InWidth}
use Rattle.writing_puts.proofs.PlaceLaws.{big_length}

-- a width is twice its half
halves : (w : ℕ) → 1 ≤ w → 2 ^ w ≡ 2 ^ (w - 1) * 2
halves w h = let e : w ≡ w - 1 + 1 = omega arith in ap (λ (k : ℕ). 2 ^ k) e ∙ pow-add 2 (w - 1) 1

-- a signed number is read back from its bits
pub signed_back : (w : ℕ) (z : ℤ) → 1 ≤ w → InWidth w z → twos w (bits_of w z) ≡ z
unfolding twos bits_of
signed_back w (pos n) h k = simp (lt-ltb n (2 ^ (w - 1)) k)
signed_back w (negsuc n) h k =
    let high : 2 ^ (w - 1) ≤ 2 ^ w - suc n = omega (arith, halves w h) in
    let back : 2 ^ w - suc (2 ^ w - suc n) ≡ n = omega (arith, halves w h) in
    simp (le-ltb (2 ^ w - suc n) (2 ^ (w - 1)) high) (ap negsuc back)

-- its bits fit the width
pub bits_held : (w : ℕ) (z : ℤ) → 1 ≤ w → InWidth w z → bits_of w z < 2 ^ w
unfolding bits_of
bits_held w (pos n) h k = omega (arith, halves w h)
bits_held w (negsuc n) h k = omega (arith, halves w h)

-- a field that is one number, after these marks
abbrev pub marked_parts : ℕ → List (List ℕ) → ℕ → ℕ → FieldParts
marked_parts c ms n x = record { code = c; counts = []; marks = ms; values = big_bytes n x }

-- the manual allows it, by the three rows of its code
pub marked_is : (c : ℕ) (ms : List (List ℕ)) (n x : ℕ) → code_known c ≡ true → counts_of c ≡ 0 → length ms ≡ marks_asked (marking_of c) []
    → Each IsMark ms → width_of c ≡ n → boolean c ≡ false → IsField (marked_parts c ms n x)
unfolding values_asked
marked_is c ms n x known counted marked is_marks width not_boolean =
    record {
      known = known;
      counted = sym counted;
      is_counts = none;
      marked = marked;
      is_marks = is_marks;
      sized = big_length n x ∙ omega arith;
      is_boolean = λ b i h. absurd (false≢true (sym not_boolean ∙ b));
    }

-- a field that is one number
abbrev pub number_parts : ℕ → ℕ → ℕ → FieldParts
number_parts c n x = marked_parts c [] n x

-- the manual allows it
pub number_is : (c n x : ℕ) → code_known c ≡ true → counts_of c ≡ 0 → marking_of c ≡ 0 → width_of c ≡ n → boolean c ≡ false → IsField (number_parts c n x)
unfolding marks_asked
number_is c n x known counted marking width not_boolean =
    marked_is c [] n x known counted (sym (ap (λ (k : ℕ). marks_asked k []) marking)) none width not_boolean
