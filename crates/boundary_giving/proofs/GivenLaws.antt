-- What a call leaves, by whether the lent answer has room for its numbers.
use Prim.Native.Nat.{ℕ, ◌≤◌, ◌<◌}
use native.Mathlib.Omega.{arith}
use lib.Dec.{leb}
use borrow.Author.Tests.{le-leb, lt-leb}
use mathlib.Core.Path.{◌≡◌, sym, ap, ◌∙◌}
use mathlib.Core.Bool.{Bool, true, false, cond}
use mathlib.Core.List.{List}
use lib.ListN.{length, get_or}
use Rattle.sim0mq.specs.Table.{stored}
use Rattle.boundary_giving.specs.Given.{given, returned, answer_after}

-- Too short, all is as it was.
pub given_short : {A : Type 0} (n : ℕ) (answer : List ℕ) (after before : A) → length answer < n → before ≡ given n answer after before
unfolding given
given_short n answer after before h = sym (ap (λ (b : Bool). cond b after before) (lt-leb n (length answer) h))

-- With room, all is as the call has it.
pub given_room : {A : Type 0} (n : ℕ) (answer : List ℕ) (after before : A) → n ≤ length answer → after ≡ given n answer after before
unfolding given
given_room n answer after before h = sym (ap (λ (b : Bool). cond b after before) (le-leb n (length answer) h))

-- Too short, 255 is returned and the answer is as it was.
pub returned_short : (n : ℕ) (answer told : List ℕ) → length answer < n → 255 ≡ returned n answer told
unfolding returned
returned_short n answer told h = given_short n answer (get_or told 0 0) 255 h

pub answered_short : (n : ℕ) (answer told : List ℕ) → length answer < n → answer ≡ answer_after n answer told
unfolding answer_after
answered_short n answer told h = given_short n answer (stored answer told) answer h

-- What is returned and the lent answer are as the definition tells, where its numbers are those that were stored.
pub both_told : (n : ℕ) (answer answer₁ numbers told : List ℕ) (r : ℕ) → numbers ≡ told → (r ≡ returned n answer numbers) × (answer₁ ≡ answer_after n answer numbers)
    → (r ≡ returned n answer told) × (answer₁ ≡ answer_after n answer told)
both_told n answer answer₁ numbers told r e h = (h.0 ∙ ap (returned n answer) e, h.1 ∙ ap (answer_after n answer) e)

-- One of two small numbers is small; so is the returned number where the first of the numbers is.
small : (b : Bool) (x : ℕ) → x < 4294967296 → cond b x 255 < 4294967296
small true x h = h
small false x h = omega arith

pub returned_small : (n : ℕ) (answer numbers : List ℕ) (r : ℕ) → r ≡ returned n answer numbers → get_or numbers 0 0 < 4294967296 → r < 4294967296
unfolding returned given
returned_small n answer numbers r e h = rw e (small (leb n (length answer)) (get_or numbers 0 0) h)
