-- A rule of a row of numbers holds at each entry, since a test computed over the whole row passes.
use Prim.Native.Nat.{ℕ, zero, suc, ◌≤◌, ◌<◌}
use native.Mathlib.Nat.{not-suc-le-zero, le_of_suc-le-suc}
use mathlib.Core.Path.{◌≡◌, refl}
use mathlib.Core.Bool.{Bool, true, false, not, ◌&&◌, ◌||◌, false≢true}
use mathlib.Core.List.{List, [], ◌∷◌}
use lib.ListN.{length, get_or}
use native.Mathlib.Omega.{arith}
use lib.Dec.{leb, eqb}
use borrow.Author.Tests.{leb-true, eqb-true, eqb-false, not-true}
use Rattle.sim0mq.specs.Codes.{count_row, width_row, counts_of, width_of, boolean}
use Rattle.sim0mq.specs.Mark.{currency_row, currency_taken}
use Rattle.sim0mq.specs.Header.{id_codes, number_codes, status_codes, count_codes, among}
use Rattle.sim0mq.proofs.Answers.{and_true}

-- each number of a row passes a test
unfoldable pub all_pass : (ℕ → Bool) → List ℕ → Bool
all_pass test [] = true
all_pass test (x ∷ xs) = test x && all_pass test xs

-- so does the number at any place of the row
pub pass_at : (test : ℕ → Bool) (row : List ℕ) (k : ℕ) → all_pass test row ≡ true → k < length row → test (get_or row k 0) ≡ true
unfolding all_pass
pass_at test [] k a h = absurd (not-suc-le-zero h)
pass_at test (x ∷ xs) zero a h = (and_true (test x) (all_pass test xs) a).0
pass_at test (x ∷ xs) (suc k) a h = pass_at test xs k (and_true (test x) (all_pass test xs) a).1 (le_of_suc-le-suc h)

-- and past the row's end 0, if 0 passes
pub pass_any : (test : ℕ → Bool) (row : List ℕ) (k : ℕ) → test 0 ≡ true → all_pass test row ≡ true → test (get_or row k 0) ≡ true
unfolding all_pass
pass_any test [] k z a = z
pass_any test (x ∷ xs) zero z a = (and_true (test x) (all_pass test xs) a).0
pass_any test (x ∷ xs) (suc k) z a = pass_any test xs k z (and_true (test x) (all_pass test xs) a).1

-- and any number among them
pub pass_among : (test : ℕ → Bool) (row : List ℕ) (k : ℕ) → all_pass test row ≡ true → among k row ≡ true → test k ≡ true
unfolding all_pass among
pass_among test [] k a e = absurd (false≢true e)
pass_among test (x ∷ xs) k a e =
    let both = and_true (test x) (all_pass test xs) a in go (eqb k x) refl e both.0 (λ r. pass_among test xs k both.1 r)
  where
    go : (b : Bool) → eqb k x ≡ b → (b || among k xs) ≡ true → test x ≡ true → (among k xs ≡ true → test k ≡ true) → test k ≡ true
    go true q r here later = rw (eqb-true k x q) here
    go false q r here later = later r

-- each number below n passes a test
unfoldable pub all_below : ℕ → (ℕ → Bool) → Bool
all_below zero test = true
all_below (suc n) test = test n && all_below n test

pub below_at : (test : ℕ → Bool) (n k : ℕ) → all_below n test ≡ true → k < n → test k ≡ true
unfolding all_below
below_at test zero k a h = absurd (not-suc-le-zero h)
below_at test (suc n) k a h =
    let both = and_true (test n) (all_below n test) a in go (eqb k n) refl both.0 (λ l. below_at test n k both.1 l) h
  where
    go : (b : Bool) → eqb k n ≡ b → test n ≡ true → (k < n → test k ≡ true) → k < suc n → test k ≡ true
    go true e here lower h = rw (eqb-true k n e) here
    go false e here lower h = lower (let d = eqb-false k n e in less d h)
      where
        less : (k ≡ n → ⊥) → k < suc n → k < n
        less d h = omega arith

-- no code has more than two counts
pub two_counts : (c : ℕ) → counts_of c ≤ 2
unfolding counts_of all_pass
two_counts c = leb-true _ 2 (pass_any (λ (n : ℕ). leb n 2) count_row c refl refl)

-- no width is above eight bytes
pub eight_wide : (c : ℕ) → width_of c ≤ 8
unfolding width_of all_pass
eight_wide c = leb-true _ 8 (pass_any (λ (w : ℕ). leb w 8) width_row c refl refl)

-- the list of currency codes is whole
pub currencies_many : length currency_row ≡ 180
currencies_many = refl

-- no currency code is above 1000
pub currency_most : (c : ℕ) → currency_taken c ≡ true → c ≤ 1000
unfolding currency_taken all_pass
currency_most c e = leb-true c 1000 (pass_among (λ (k : ℕ). leb k 1000) currency_row c refl e)

-- the type codes of frames 6 and 7 have no count, and a value of at least one byte
scalar : ℕ → Bool
scalar c = eqb (counts_of c) 0 && leb 1 (width_of c)

scalar_among : (row : List ℕ) (c : ℕ) → all_pass scalar row ≡ true → among c row ≡ true → (counts_of c ≡ 0) × (1 ≤ width_of c)
unfolding scalar
scalar_among row c a e =
    let t = and_true (eqb (counts_of c) 0) (leb 1 (width_of c)) (pass_among scalar row c a e) in (eqb-true _ _ t.0, leb-true _ _ t.1)

pub status_scalar : (c : ℕ) → among c status_codes ≡ true → (counts_of c ≡ 0) × (1 ≤ width_of c)
unfolding all_pass scalar counts_of width_of
status_scalar c e = scalar_among status_codes c refl e

pub count_scalar : (c : ℕ) → among c count_codes ≡ true → (counts_of c ≡ 0) × (1 ≤ width_of c)
unfolding all_pass scalar counts_of width_of
count_scalar c e = scalar_among count_codes c refl e

-- no frame's type is a Boolean
not_boolean : (row : List ℕ) (c : ℕ) → all_pass (λ (k : ℕ). not (boolean k)) row ≡ true → among c row ≡ true → boolean c ≡ false
not_boolean row c a e = not-true (boolean c) (pass_among (λ (k : ℕ). not (boolean k)) row c a e)

pub id_not_boolean : (c : ℕ) → among c id_codes ≡ true → boolean c ≡ false
unfolding all_pass boolean
id_not_boolean c e = not_boolean id_codes c refl e

pub number_not_boolean : (c : ℕ) → among c number_codes ≡ true → boolean c ≡ false
unfolding all_pass boolean
number_not_boolean c e = not_boolean number_codes c refl e

pub status_not_boolean : (c : ℕ) → among c status_codes ≡ true → boolean c ≡ false
unfolding all_pass boolean
status_not_boolean c e = not_boolean status_codes c refl e

pub count_not_boolean : (c : ℕ) → among c count_codes ≡ true → boolean c ≡ false
unfolding all_pass boolean
count_not_boolean c e = not_boolean count_codes c refl e
