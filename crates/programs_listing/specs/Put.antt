-- What putting texts into a buffer does, one text after the other. Assumes nothing.
use Rattle.std.specs.Prelude.{ℕ, cond, List, [], ◌∷◌, leb, length}
use Rattle.sim0mq.specs.Allowed.{joined}
use Rattle.programs_pieces.specs.Put.{place_after, with_text}

-- a buffer, and the place in it where the next text goes
pub record Buffer : Type 0 where
  pub out : List ℕ
  pub place : ℕ

abbrev pub buffer : List ℕ → ℕ → Buffer
buffer out place = record { out = out; place = place }

-- the buffer once texts are put into it, one after the other, each from the place where the one before ended
unfoldable pub put_all : Buffer → List (List ℕ) → Buffer
put_all b [] = b
put_all b (t ∷ ts) = put_all (buffer (with_text b.out b.place t) (place_after b.out b.place t)) ts

-- what texts put at the front of `out` leave in it
unfoldable pub out_after : List ℕ → List (List ℕ) → List ℕ
out_after out texts = (put_all (buffer out 0) texts).out

-- how many bytes of `out` stand before a place: 0 where the place is past its end
unfoldable pub bytes_before : List ℕ → ℕ → ℕ
bytes_before out place = cond (leb place (length out)) place 0

-- how many bytes these texts have, end to end: 0 where `out` is too short for them
unfoldable pub bytes_written : List ℕ → List (List ℕ) → ℕ
bytes_written out texts = bytes_before out (length (joined texts))
