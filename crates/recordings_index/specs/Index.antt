-- What judging trailer and index answers, over the definitions of a recording.
use Rattle.std.specs.Prelude.{ℕ, ◌+◌, ◌-◌, ◌*◌, ◌≤◌, ◌≡◌, Bool, true, false, List, length, Option, Some, None}
use Rattle.sim0mq.specs.Answer.{Answer, fine, refused}
use Rattle.dividing.specs.Run.{total}
use Rattle.sim0mq_numbers.specs.Numbers.{number_at}
use Rattle.recordings_format.specs.Edition as E
use Rattle.recordings_format.specs.Edition.{most_messages, trailer_size}
use Rattle.recordings_format.specs.Judge as J
use Rattle.recordings_format.specs.Judge.{entries_from, Index}
use Rattle.recordings_index.specs.declared.Edition.{Edition}
use Rattle.recordings_index.specs.declared.Trailer.{Trailer}
use Rattle.recordings_index.specs.declared.Placed.{Placed}
use Rattle.recordings_index.specs.declared.Reached.{Reached}
use Rattle.recordings_index.specs.declared.Reached.TheVariants.{Found, Wrong, Wanted}
use Rattle.recordings_index.specs.Tail as T
use Rattle.recordings_index.specs.Tail.{there, wanted}

-- Each answer of the code, as the definitions have it: what is wrong is refused by 18 at 0.
abbrev pub row_of : Edition → E.Edition
row_of e = record { number = e.number; length_bytes = e.wide; most = e.most }

abbrev pub known_as : Option Edition → Answer E.Edition
known_as (Some e) = fine (row_of e)
known_as None = refused 18 0

abbrev pub trailer_as : Trailer → J.Trailer
trailer_as t = record { edition = row_of t.edition; place = t.place; entries = t.entries }

abbrev pub trailed_as : Option Trailer → Answer J.Trailer
trailed_as (Some t) = fine (trailer_as t)
trailed_as None = refused 18 0

-- The trailer of an index that is right: its place is where the messages end.
abbrev pub summary : Index → J.Trailer
summary i = record { edition = i.edition; place = total i.lengths; entries = length i.lengths }

abbrev pub summed : Answer Index → Answer J.Trailer
summed (fine i) = fine (summary i)
summed (refused k p) = refused k p

-- The same of the last bytes of a file.
abbrev pub reached_as : Reached → Answer (T.Reached J.Trailer)
reached_as (Found t) = fine (there (trailer_as t))
reached_as Wrong = refused 18 0
reached_as (Wanted w) = fine (wanted w)

abbrev pub summed_in : Answer (T.Reached Index) → Answer (T.Reached J.Trailer)
summed_in (fine (there i)) = fine (there (summary i))
summed_in (fine (wanted w)) = fine (wanted w)
summed_in (refused k p) = refused k p

-- Where the first entry that this trailer of a file of n bytes states stands in the file's last bytes; and entry k:
-- where it says that a message stands, with 0 for a number that is past the bytes.
abbrev pub first_entry : ℕ → List ℕ → Trailer → ℕ
first_entry n tail t = length tail - (n - t.place)

abbrev pub entry_place : ℕ → List ℕ → Trailer → ℕ → ℕ
entry_place n tail t k = first_entry n tail t + (4 + t.edition.wide) * k

unfoldable pub entry_at : ℕ → List ℕ → Trailer → ℕ → Placed
entry_at n tail t k =
    record {
      start = number_at tail (entry_place n tail t k) 4;
      length = number_at tail (entry_place n tail t k + 4) t.edition.wide;
    }

-- A trailer that was taken: so many entries from `from` on, not too many, in which a length has w bytes, no more than
-- four; they fill the bytes before it.
pub record Trailing (s : List ℕ) (w from entries : ℕ) : Type 0 where
  pub few : entries ≤ most_messages
  pub narrow : w ≤ 4
  pub fills : from + (4 + w) * entries + trailer_size ≡ length s

-- Was it taken?
abbrev pub taken : {A : Type 0} → Answer A → Bool
taken (fine a) = true
taken (refused k p) = false

-- Do these entries tile the bytes up to `end`?
unfoldable pub tiled : List ℕ → ℕ → ℕ → ℕ → ℕ → Bool
tiled s w from entries end = taken (entries_from s w entries from 0 end)
