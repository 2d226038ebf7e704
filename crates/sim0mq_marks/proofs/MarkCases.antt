-- How the mark judges answer, case by case, in the words of the code's tests: each return of the code cites the case
-- that it is.
use Prim.Native.Nat.{ℕ, zero, suc, ◌+◌, ◌-◌, ◌≤◌, ◌<◌}
use mathlib.Core.Path.{◌≡◌, refl, ap, sym, ◌∙◌}
use mathlib.Core.Bool.{Bool, true, false}
use mathlib.Core.List.{List}
use native.Mathlib.Omega.{arith}
use native.Mathlib.Numerals.{add-one}
use native.Mathlib.Nat.{not-suc-le-zero}
use lib.ListN.{length, get_or}
use lib.Dec.{leb, eqb}
use borrow.Author.Tests.{leb-true, eqb-true, eqb-false, le-leb, lt-leb, ne_eqb}
use Rattle.sim0mq.specs.Answer.{fine, refused, byte, big}
use Rattle.sim0mq.specs.Mark.{per_row, Kind, plain, money, money_per, unknown, kind_of, currency_taken, currency, mark, marks}
use Rattle.sim0mq.proofs.Rows.{all_pass, pass_any}
use Rattle.sim0mq_marks.specs.By.{display_by, mark_rest_by, mark_by}
use Rattle.sim0mq_numbers.specs.Numbers.{number_at}
use Rattle.sim0mq_numbers.proofs.NumberCases.{number_there}

module _ (row s : List ℕ) where
  pub display_short : (t at : ℕ) → length s ≤ at → display_by row s t at ≡ refused 1 (length s)
  unfolding display_by
  display_short t at h = simp (lt-leb (at + 1) (length s) (omega arith))

  pub display_over : (t at : ℕ) → at < length s → leb (byte s at) (get_or row t 0) ≡ false → display_by row s t at ≡ refused 12 at
  unfolding display_by
  display_over t at h k = simp (le-leb (at + 1) (length s) (omega arith), k)

  pub display_fine : (t at : ℕ) → at < length s → leb (byte s at) (get_or row t 0) ≡ true → display_by row s t at ≡ fine (at + 1)
  unfolding display_by
  display_fine t at h k = simp (le-leb (at + 1) (length s) (omega arith), k)

  pub mark_short : (at : ℕ) → length s ≤ at → mark_by row s at ≡ refused 1 (length s)
  unfolding mark_by
  mark_short at h = simp (lt-leb (at + 1) (length s) (omega arith))

module _ (s : List ℕ) where
  -- what was told of the number read is told of the two bytes
  pub currency_told : (at n : ℕ) (t r : Bool) → at + 2 ≤ length s → n ≡ number_at s at 2 → t ≡ currency_taken n → t ≡ r → currency_taken (big s at 2) ≡ r
  currency_told at n t r h e f g = ap currency_taken (sym (number_there s at 2 h (omega arith)) ∙ sym e) ∙ sym f ∙ g

  pub currency_short : (at : ℕ) → length s < at + 2 → currency s at ≡ refused 1 (length s)
  unfolding currency
  currency_short at h = simp (lt-leb (at + 2) (length s) h)

  pub currency_over : (at : ℕ) → at + 2 ≤ length s → currency_taken (big s at 2) ≡ false → currency s at ≡ refused 19 at
  unfolding currency
  currency_over at h k = simp (le-leb (at + 2) (length s) h, k)

  pub currency_fine : (at : ℕ) → at + 2 ≤ length s → currency_taken (big s at 2) ≡ true → currency s at ≡ fine (at + 2)
  unfolding currency
  currency_fine at h k = simp (le-leb (at + 2) (length s) h, k)

-- the unit types of money per quantity are unit types
pub per_known : (k : ℕ) → get_or per_row k 0 < 29
unfolding all_pass
per_known k = let h : get_or per_row k 0 ≤ 28 = leb-true _ 28 (pass_any (λ (t : ℕ). leb t 28) per_row k refl refl) in omega arith

-- the kinds of unit types
pub kind_plain : (u : ℕ) → u ≤ 28 → kind_of u ≡ plain u
unfolding kind_of
kind_plain u h = simp (le-leb u 28 h)

pub kind_between : (u : ℕ) → 28 < u → u ≤ 99 → kind_of u ≡ unknown
unfolding kind_of
kind_between u h k = simp (lt-leb u 28 h, le-leb u 99 k)

pub kind_money : (u : ℕ) → u ≡ 100 → kind_of u ≡ money
unfolding kind_of
kind_money u e = simp e

pub kind_per : (u : ℕ) → 100 < u → u ≤ 106 → kind_of u ≡ money_per (get_or per_row (u - 101) 0)
unfolding kind_of
kind_per u h k = simp (lt-leb u 28 (omega arith), lt-leb u 99 (omega arith), ne_eqb u 100 (λ e. omega arith), le-leb u 106 k)

pub kind_above : (u : ℕ) → 106 < u → kind_of u ≡ unknown
unfolding kind_of
kind_above u h = simp (lt-leb u 28 (omega arith), lt-leb u 99 (omega arith), ne_eqb u 100 (λ e. omega arith), lt-leb u 106 h)

-- a mark whose unit type is u
module _ (row s : List ℕ) (at u : ℕ) (there : at < length s) (is : u ≡ byte s at) where
  mark_of_lem : (k : Kind) → kind_of u ≡ k → mark_by row s at ≡ mark_rest_by row s at k
  unfolding mark_by
  mark_of_lem k e = simp (le-leb (at + 1) (length s) (omega arith), ← is, e)

  pub mark_plain : u ≤ 28 → mark_by row s at ≡ display_by row s u (at + 1)
  unfolding mark_rest_by
  mark_plain k = mark_of_lem (plain u) (kind_plain u k)

  pub mark_between : 28 < u → u ≤ 99 → mark_by row s at ≡ refused 11 at
  unfolding mark_rest_by
  mark_between k l = mark_of_lem unknown (kind_between u k l)

  pub mark_above : 106 < u → mark_by row s at ≡ refused 11 at
  unfolding mark_rest_by
  mark_above k = mark_of_lem unknown (kind_above u k)

  pub mark_money : u ≡ 100 → mark_by row s at ≡ currency s (at + 1)
  unfolding mark_rest_by
  mark_money k = mark_of_lem money (kind_money u k)

  pub mark_per_fine : (t p : ℕ) → 100 < u → u ≤ 106 → t ≡ get_or per_row (u - 101) 0 → currency s (at + 1) ≡ fine p → mark_by row s at ≡ display_by row s t p
  unfolding mark_rest_by
  mark_per_fine t p k l e q = mark_of_lem (money_per (get_or per_row (u - 101) 0)) (kind_per u k l) ∙ simp (q, e)

  pub mark_per_stop : (k p : ℕ) → 100 < u → u ≤ 106 → currency s (at + 1) ≡ refused k p → mark_by row s at ≡ refused k p
  unfolding mark_rest_by
  mark_per_stop k p i l q = mark_of_lem (money_per (get_or per_row (u - 101) 0)) (kind_per u i l) ∙ simp q

-- the same, where the most bytes that a mark has are there
module _ (row s : List ℕ) (at u : ℕ) (room : at + 4 ≤ length s) (is : u ≡ byte s at) where
  pub roomy_plain : u ≤ 28 → leb (byte s (at + 1)) (get_or row u 0) ≡ true → mark_by row s at ≡ fine (at + 2)
  roomy_plain k d = mark_plain row s at u (omega arith) is k ∙ display_fine row s u (at + 1) (omega arith) d ∙ ap fine (omega arith)

  pub roomy_plain_over : u ≤ 28 → leb (byte s (at + 1)) (get_or row u 0) ≡ false → mark_by row s at ≡ refused 12 (at + 1)
  roomy_plain_over k d = mark_plain row s at u (omega arith) is k ∙ display_over row s u (at + 1) (omega arith) d

  pub roomy_currency_over : 99 < u → u ≤ 106 → currency_taken (big s (at + 1) 2) ≡ false → mark_by row s at ≡ refused 19 (at + 1)
  roomy_currency_over k l d = go (eqb u 100) refl
    where
      over : currency s (at + 1) ≡ refused 19 (at + 1)
      over = currency_over s (at + 1) (omega arith) d

      go : (t : Bool) → eqb u 100 ≡ t → mark_by row s at ≡ refused 19 (at + 1)
      go true e = mark_money row s at u (omega arith) is (eqb-true u 100 e) ∙ over
      go false e = let other = eqb-false u 100 e in mark_per_stop row s at u (omega arith) is 19 (at + 1) (omega arith) l over

  taken : currency_taken (big s (at + 1) 2) ≡ true → currency s (at + 1) ≡ fine (at + 3)
  taken d = currency_fine s (at + 1) (omega arith) d ∙ ap fine (omega arith)

  pub roomy_money : u ≡ 100 → currency_taken (big s (at + 1) 2) ≡ true → mark_by row s at ≡ fine (at + 3)
  roomy_money k d = mark_money row s at u (omega arith) is k ∙ taken d

  pub roomy_per : (t : ℕ) → 100 < u → u ≤ 106 → t ≡ get_or per_row (u - 101) 0 → currency_taken (big s (at + 1) 2) ≡ true
      → leb (byte s (at + 3)) (get_or row t 0) ≡ true → mark_by row s at ≡ fine (at + 4)
  roomy_per t k l e d f =
      mark_per_fine row s at u (omega arith) is t (at + 3) k l e (taken d) ∙ display_fine row s t (at + 3) (omega arith) f ∙ ap fine (omega arith)

  pub roomy_per_over : (t : ℕ) → 100 < u → u ≤ 106 → t ≡ get_or per_row (u - 101) 0 → currency_taken (big s (at + 1) 2) ≡ true
      → leb (byte s (at + 3)) (get_or row t 0) ≡ false → mark_by row s at ≡ refused 12 (at + 3)
  roomy_per_over t k l e d f = mark_per_fine row s at u (omega arith) is t (at + 3) k l e (taken d) ∙ display_over row s t (at + 3) (omega arith) f

-- the marks from a place on: none left, one more, or a refusal
module _ (s : List ℕ) where
  pub marks_done : (n at : ℕ) → n ≡ 0 → marks s n at ≡ fine at
  unfolding marks
  marks_done n at e = simp e

  pub marks_more : (n m at p : ℕ) → n ≡ m + 1 → mark s at ≡ fine p → marks s n at ≡ marks s m p
  unfolding marks
  marks_more n m at p e q = simp (e, add-one, q)

  pub marks_stop : (n at k p : ℕ) → 0 < n → mark s at ≡ refused k p → marks s n at ≡ refused k p
  unfolding marks
  marks_stop zero at k p h q = absurd (not-suc-le-zero h)
  marks_stop (suc n) at k p h q = simp q
