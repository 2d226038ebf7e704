-- How numbers in bytes and counts are read, case by case, in the words of the code's tests.
use Prim.Native.Nat.{ℕ, ◌+◌, ◌*◌, ◌≤◌, ◌<◌}
use mathlib.Core.Path.{◌≡◌, ap, sym, ◌∙◌}
use mathlib.Core.List.{List}
use native.Mathlib.Omega.{arith}
use native.Mathlib.Numerals.{add-one}
use lib.ListN.{length}
use borrow.Author.Tests.{le-leb, lt-leb, lt-ltb, le-ltb}
use Rattle.sim0mq.specs.Answer.{fine, refused, byte, big, not_negative}
use Rattle.sim0mq.specs.Field.{count}
use Rattle.std.specs.Prelude.{Result, Ok, Err}
use Rattle.std.specs.Result.{IsErrAnd}
use Rattle.sim0mq.specs.declared.Refusal.{Refusal}
use Rattle.sim0mq_numbers.specs.Numbers.{Below, number_at}

-- numbers
module _ (s : List ℕ) (at n : ℕ) where
  pub number_there : at + n ≤ length s → n ≤ 8 → number_at s at n ≡ big s at n
  unfolding number_at
  number_there h k = simp (le-leb (at + n) (length s) h, le-leb n 8 k)

  pub number_short : length s < at + n → 0 ≡ number_at s at n
  unfolding number_at
  number_short h = simp (lt-leb (at + n) (length s) h)

  pub number_long : at + n ≤ length s → 8 < n → 0 ≡ number_at s at n
  unfolding number_at
  number_long h k = simp (le-leb (at + n) (length s) h, lt-leb n 8 k)

  pub number_more : big s at n * 256 + byte s (at + n) ≡ big s at (n + 1)
  unfolding big
  number_more = simp (add-one n)

-- counts
module _ (s : List ℕ) (at : ℕ) where
  pub count_short : length s < at + 4 → count s at ≡ refused 1 (length s)
  unfolding count
  count_short h = simp (lt-leb (at + 4) (length s) h)

  pub count_negative : at + 4 ≤ length s → 128 ≤ byte s at → count s at ≡ refused 5 at
  unfolding count not_negative
  count_negative h k = simp (le-leb (at + 4) (length s) h, le-ltb (byte s at) 128 k)

  pub count_fine : (n : ℕ) → at + 4 ≤ length s → byte s at < 128 → n ≡ number_at s at 4 → count s at ≡ fine n
  unfolding count not_negative
  count_fine n h k e =
      let b : n ≡ big s at 4 = e ∙ number_there s at 4 h (omega arith) in
      simp (le-leb (at + 4) (length s) h, lt-ltb (byte s at) 128 k) (ap fine (sym b))

-- a refusal has no number to be below
pub below_refused : (m : ℕ) (r : Result ℕ Refusal) (e : Refusal) → IsErrAnd r (λ y. y ≡ e) → Below m r
below_refused m (Ok n) e h = absurd h
below_refused m (Err r) e h = tt
