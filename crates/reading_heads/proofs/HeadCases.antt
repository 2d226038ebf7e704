-- How the judge of a field's head answers, case by case, in the words of the code's tests.
use Prim.Native.Nat.{ℕ, zero, suc, ◌+◌, ◌*◌, ◌≤◌, ◌<◌}
use mathlib.Core.Path.{◌≡◌, refl, sym, ◌∙◌}
use mathlib.Core.List.{List}
use native.Mathlib.Omega.{arith}
use native.Mathlib.Nat.{mul-le-mul, lt_of_le_of_lt}
use lib.ListN.{length}
use lib.Dec.{lit<}
use borrow.Author.Tests.{le-leb, lt-leb}
use Rattle.sim0mq.specs.Answer.{fine, refused, ◌>>=◌, byte}
use Rattle.sim0mq.specs.Codes.{code_known, counts_of}
use Rattle.sim0mq.specs.Field.{count, counts, head_of, head_rest, head}
use Rattle.reading_heads.specs.Heads.{asked_for}

-- the product of two counts
pub product_fits : (r c : ℕ) → r < 4294967296 → c < 4294967296 → r * c < 18446744073709551616
product_fits r c h k = lt_of_le_of_lt (product_le r c 4294967295 (omega arith) (omega arith)) (lit< tt)
  where
    product_le : (r c m : ℕ) → r ≤ m → c ≤ m → r * c ≤ m * m
    product_le r c m h k = mul-le-mul h k

-- heads
module _ (s : List ℕ) where
  pub head_short : (at : ℕ) → length s ≤ at → head s at ≡ refused 1 (length s)
  unfolding head
  head_short at h = simp (lt-leb (at + 1) (length s) (omega arith))

-- the head of a field of code c
module _ (s : List ℕ) (at c : ℕ) (there : at < length s) (is : c ≡ byte s at) where
  head_of_lem : head s at ≡ head_rest s at c
  unfolding head
  head_of_lem = simp (le-leb (at + 1) (length s) (omega arith), is)

  pub head_over : 32 < c → head s at ≡ refused 9 at
  unfolding head_rest code_known
  head_over k = head_of_lem ∙ simp (lt-leb c 32 k)

  head_counts : c ≤ 32 → head s at ≡ (counts s (counts_of c) (at + 1) >>= (λ r. fine (head_of c r)))
  unfolding head_rest code_known
  head_counts l = head_of_lem ∙ simp (le-leb c 32 l)

  -- and that has k counts
  module _ (known : c ≤ 32) (k : ℕ) (asks : k ≡ counts_of c) where
    head-asks : head s at ≡ (counts s k (at + 1) >>= (λ r. fine (head_of c r)))
    head-asks = rw asks (head_counts known)

    pub head-none : k ≡ 0 → asked_for c 1 1 (at + 1) ≡ head s at
    unfolding counts
    head-none e = sym (head-asks ∙ simp e)

    pub head-stop : (n p : ℕ) → (k ≡ 0 → ⊥) → count s (at + 1) ≡ refused n p → head s at ≡ refused n p
    unfolding counts
    head-stop n p h q = head-asks ∙ go k h
      where
        go : (k : ℕ) → (k ≡ 0 → ⊥) → (counts s k (at + 1) >>= (λ r. fine (head_of c r))) ≡ refused n p
        go zero h = absurd (h refl)
        go (suc zero) h = simp q
        go (suc (suc k)) h = simp q

    pub head-one : (n : ℕ) → k ≡ 1 → count s (at + 1) ≡ fine n → asked_for c n 1 (at + 1 + 4) ≡ head s at
    unfolding counts
    head-one n e a = sym (head-asks ∙ simp (e, a))

    pub head-second : (r n p : ℕ) → (k ≡ 0 → ⊥) → (k ≡ 1 → ⊥) → count s (at + 1) ≡ fine r → count s (at + 1 + 4) ≡ refused n p
        → head s at ≡ refused n p
    unfolding counts
    head-second r n p x y a b = head-asks ∙ go k x y
      where
        go : (k : ℕ) → (k ≡ 0 → ⊥) → (k ≡ 1 → ⊥) → (counts s k (at + 1) >>= (λ r. fine (head_of c r))) ≡ refused n p
        go zero x y = absurd (x refl)
        go (suc zero) x y = absurd (y refl)
        go (suc (suc k)) x y = simp (a, b)

    pub head-two : (r l v : ℕ) → (k ≡ 0 → ⊥) → (k ≡ 1 → ⊥) → count s (at + 1) ≡ fine r → count s (at + 1 + 4) ≡ fine l → v ≡ r * l
        → asked_for c v l (at + 1 + 8) ≡ head s at
    unfolding counts
    head-two r l v x y a b e = sym (head-asks ∙ go k x y)
      where
        go : (k : ℕ) → (k ≡ 0 → ⊥) → (k ≡ 1 → ⊥) → (counts s k (at + 1) >>= (λ r. fine (head_of c r))) ≡ asked_for c v l (at + 1 + 8)
        go zero x y = absurd (x refl)
        go (suc zero) x y = absurd (y refl)
        go (suc (suc k)) x y = simp (a, b, e)
