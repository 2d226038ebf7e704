-- Trailer and index of a file of which the last bytes are had (02, Ticket 1): they are judged by the file's length and
-- those bytes, or it is told how many of its last bytes are wanted.
use Rattle.std.specs.Prelude.{ℕ, ◌+◌, ◌-◌, Bool, true, false, List, leb, length}
use Rattle.sim0mq.specs.Answer.{Answer, fine, ◌>>=◌, ◌>>◌, guard, big}
use Rattle.recordings_format.specs.Edition.{trailer_size}
use Rattle.recordings_format.specs.Judge.{Trailer, trailer_from, entries_from, Index}

-- What was asked; or, where the bytes do not reach that far, how many of the file's last bytes are wanted.
pub data Reached (A : Type 0) : Type 0 where
  there : A → Reached A
  wanted : ℕ → Reached A

-- Go on where enough bytes are had, or ask for w.
abbrev pub enough_or : {A : Type 0} → Bool → ℕ → (Unit {0} → Answer (Reached A)) → Answer (Reached A)
enough_or true w go = go tt
enough_or false w go = fine (wanted w)

-- The trailer of a file of n bytes that ends in these: the last ten of them.
unfoldable pub trailer_in : ℕ → List ℕ → Answer Trailer
trailer_in n tail =
    trailer_from (big tail (length tail - trailer_size + 8) 2) (big tail (length tail - trailer_size) 4)
    (big tail (length tail - trailer_size + 4) 4) (n - trailer_size)

-- The entries that this trailer of a file of n bytes states: the first stands as far before the end of these bytes as
-- its place before the file's.
unfoldable pub entries_in : ℕ → List ℕ → Trailer → Answer (Reached Index)
entries_in n tail t = do
  ns ← entries_from tail t.edition.length_bytes t.entries (length tail - (n - t.place)) 0 t.place
  fine (there (record { edition = t.edition; lengths = ns }))

-- Trailer and index of a file of n bytes that ends in these. A file has room for a trailer, and no more bytes at its
-- end than it has (18); then the bytes have to reach the trailer, and the first entry.
unfoldable pub index_in : ℕ → List ℕ → Answer (Reached Index)
index_in n tail = do
  guard (leb trailer_size n) 18 0
  guard (leb (length tail) n) 18 0
  enough_or (leb trailer_size (length tail)) trailer_size
      (λ u. trailer_in n tail >>= (λ t. enough_or (leb (n - t.place) (length tail)) (n - t.place) (λ v. entries_in n tail t)))
