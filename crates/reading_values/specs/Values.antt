-- What the functions of a field's values answer, over the definitions of the format.
use Rattle.std.specs.Prelude.{ℕ, ◌+◌, ◌*◌, ◌<◌, ◌≤◌, List}
use Rattle.sim0mq.specs.Answer.{Answer, fine, ◌>>=◌, need, byte}
use Rattle.sim0mq.specs.Codes.{width_of}
use Rattle.sim0mq.specs.Field.{booleans, booleans_of}

-- The number of bytes of n values of w bytes each, all there from `first` on; and that of n values of code c.
unfoldable pub size_of : List ℕ → ℕ → ℕ → ℕ → Answer ℕ
size_of s w n first = do
  there ← need s first (n * w)
  fine (n * w)

abbrev pub size_at : List ℕ → ℕ → ℕ → ℕ → Answer ℕ
size_at s c n first = size_of s (width_of c) n first

-- None of the n bytes from `at` on is above m.
abbrev pub NoneAbove : List ℕ → ℕ → ℕ → ℕ → Type 0
NoneAbove s n at m = (i : ℕ) → i < n → byte s (at + i) ≤ m

-- n Booleans from `at` on: the place after them.
unfoldable pub booleans_end : List ℕ → ℕ → ℕ → Answer ℕ
booleans_end s n at = do
  pass ← booleans s n at
  fine (at + n)

-- The n values of code c from `first` on, all there, with Booleans judged: the place after them.
unfoldable pub values_end : List ℕ → ℕ → ℕ → ℕ → Answer ℕ
values_end s c n first = do
  size ← size_at s c n first
  booleans_end s (booleans_of c size) first >>= (λ p. fine (first + size))
