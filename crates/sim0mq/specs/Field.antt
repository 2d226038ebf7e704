-- A payload field: a code byte, then counts, then marks, then value bytes (01, "Payload fields"; 000, 2.1 and 2.2).
use Rattle.std.specs.Prelude.{ℕ, zero, suc, ◌+◌, ◌*◌, cond, List, leb}
use Rattle.sim0mq.specs.Answer.{Answer, fine, ◌>>=◌, ◌>>◌, guard, need, byte, big, not_negative}
use Rattle.sim0mq.specs.Codes.{code_known, counts_of, marking_of, width_of, boolean}
use Rattle.sim0mq.specs.Mark.{marks}

-- A count: four bytes (1), not negative (5).
unfoldable pub count : List ℕ → ℕ → Answer ℕ
count s at = do
  need s at 4
  guard (not_negative (byte s at)) 5 at
  fine (big s at 4)

-- What the counts say: how many values, how many columns; and the place after the counts.
pub record Counted : Type 0 where
  pub values : ℕ
  pub columns : ℕ
  pub next : ℕ

-- No count, one value; one count; or two, of which the first is the rows and the second the columns (000, 2.1.3).
unfoldable pub counts : List ℕ → ℕ → ℕ → Answer Counted
counts s zero at = fine (record { values = 1; columns = 1; next = at })
counts s (suc zero) at = do
  n ← count s at
  fine (record { values = n; columns = 1; next = at + 4 })
counts s (suc (suc k)) at = do
  r ← count s at
  c ← count s (at + 4)
  fine (record { values = r * c; columns = c; next = at + 8 })

-- How many marks: none, one, or one per column (01 for codes 31 and 32; 000, 2.2.7 and 2.2.8).
unfoldable pub mark_count : ℕ → ℕ → ℕ
mark_count zero columns = 0
mark_count (suc zero) columns = 1
mark_count (suc (suc k)) columns = columns

-- A field's code and counts, with the marks and the values that they ask for; and the place after them.
pub record Head : Type 0 where
  pub code : ℕ
  pub values : ℕ
  pub marked : ℕ
  pub next : ℕ

abbrev pub head_of : ℕ → Counted → Head
head_of c k = record { code = c; values = k.values; marked = mark_count (marking_of c) k.columns; next = k.next }

-- The code is there (1) and known (9); then the counts.
unfoldable pub head_rest : List ℕ → ℕ → ℕ → Answer Head
head_rest s at c = do
  guard (code_known c) 9 at
  k ← counts s (counts_of c) (at + 1)
  fine (head_of c k)

unfoldable pub head : List ℕ → ℕ → Answer Head
head s at = do
  need s at 1
  head_rest s at (byte s at)

-- The n bytes from `at` on are Booleans, 0 or 1 (10).
unfoldable pub booleans : List ℕ → ℕ → ℕ → Answer (Unit {0})
booleans s zero at = fine tt
booleans s (suc n) at = do
  pass ← guard (leb (byte s at) 1) 10 at
  booleans s n (at + 1)

-- How many of a field's n value bytes are Booleans: all, or none.
unfoldable pub booleans_of : ℕ → ℕ → ℕ
booleans_of c n = cond (boolean c) n 0

-- What is known of a field: its code, the place of its code byte, the place of its first value byte (or after its
-- counts and marks), the number of its value bytes, of its marks, and of its values.
pub record Field : Type 0 where
  pub code : ℕ
  pub place : ℕ
  pub first : ℕ
  pub size : ℕ
  pub marked : ℕ
  pub values : ℕ

-- The place after a field.
unfoldable pub after : Field → ℕ
after f = f.first + f.size

abbrev pub field_of : ℕ → Head → ℕ → Field
field_of at h first =
    record {
      code = h.code;
      place = at;
      first = first;
      size = h.values * width_of h.code;
      marked = h.marked;
      values = h.values;
    }

-- The outline of the field at `at`: code and counts, each mark in turn, and all value bytes there (1); no value byte is
-- judged.
unfoldable pub outline : List ℕ → ℕ → Answer Field
outline s at = do
  h ← head s at
  first ← marks s h.marked h.next
  there ← need s first (h.values * width_of h.code)
  fine (field_of at h first)

-- The field at `at`: its outline, then its Booleans in order (01, the order in a field).
unfoldable pub field : List ℕ → ℕ → Answer Field
field s at = do
  f ← outline s at
  pass ← booleans s (booleans_of f.code f.size) f.first
  fine f
