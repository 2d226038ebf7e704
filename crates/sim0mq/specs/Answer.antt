-- How a judge answers, and how it looks at bytes. A judge takes the bytes s and a place `at` in them.
use Rattle.std.specs.Prelude.{ℕ, zero, suc, ◌+◌, ◌*◌, Bool, true, false, List, length, get_or, leb, ltb}

infixl 10 ◌>>=◌ ◌>>◌
-- A value, or a refusal, which is its number and its place (01, "Refusals and their places").
pub data Answer (A : Type 0) : Type 0 where
  fine : A → Answer A
  refused : ℕ → ℕ → Answer A

-- Go on with the value, or stop at the first fault (01, "What reading returns").
abbrev pub ◌>>=◌ : {A B : Type 0} → Answer A → (A → Answer B) → Answer B
◌>>=◌ (fine a) go = go a
◌>>=◌ (refused k p) go = refused k p

abbrev pub ◌>>◌ : {B : Type 0} → Answer (Unit {0}) → Answer B → Answer B
◌>>◌ (fine u) b = b
◌>>◌ (refused k p) b = refused k p

-- Refusal k at place p, unless the test passes.
abbrev pub guard : Bool → ℕ → ℕ → Answer (Unit {0})
guard true k p = fine tt
guard false k p = refused k p

-- The answer of a part that begins at place b, its refusal's place counted in the whole.
abbrev pub part_at : {A : Type 0} → ℕ → Answer A → Answer A
part_at b (fine a) = fine a
part_at b (refused k p) = refused k (b + p)

-- The length of the bytes that were answered, or the refusal.
abbrev pub length_of : Answer (List ℕ) → Answer ℕ
length_of (fine text) = fine (length text)
length_of (refused k p) = refused k p

-- Byte i of s.
abbrev pub byte : List ℕ → ℕ → ℕ
byte s i = get_or s i 0

-- The n bytes from `at` on are there: else 1 at the bytes' length (01, refusal 1).
abbrev pub need : List ℕ → ℕ → ℕ → Answer (Unit {0})
need s at n = guard (leb (at + n) (length s)) 1 (length s)

-- The number that the n bytes from `at` on write, the first byte weighing most (01, "What is built": big-endian; 000,
-- 2.1).
unfoldable pub big : List ℕ → ℕ → ℕ → ℕ
big s at zero = 0
big s at (suc n) = big s at n * 256 + byte s (at + n)

-- Is the signed number whose first byte is b zero or above (01, "Payload fields"; 000, 2.1: two's complement)?
unfoldable pub not_negative : ℕ → Bool
not_negative b = ltb b 128
