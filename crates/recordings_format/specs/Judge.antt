-- Opening a recording, and asking for a message in it (02, Ticket 1): the trailer and the index (18), then the
-- messages.
use Rattle.std.specs.Prelude.{ℕ, zero, suc, ◌+◌, ◌-◌, ◌*◌, Bool, true, List, [], ◌∷◌, length, take, drop, get_or, leb, ltb, eqb}
use Rattle.sim0mq.specs.Answer.{Answer, fine, refused, ◌>>=◌, ◌>>◌, guard, part_at, big}
use Rattle.sim0mq.specs.Table.{stored}
use Rattle.sim0mq.specs.Message.{Lent, no_table, table, Reading, message}
use Rattle.dividing.specs.Run.{total}
use Rattle.recordings_format.specs.Edition.{Edition, edition_of, most_messages, entry_size, trailer_size}

-- What the trailer says: the edition, the place of the first entry, and the number of entries.
pub record Trailer : Type 0 where
  pub edition : Edition
  pub place : ℕ
  pub entries : ℕ

-- The trailer of these numbers, which begins at `at`: a known edition, not too many entries, and an index that fills
-- the bytes from its place to the trailer.
unfoldable pub trailer_from : ℕ → ℕ → ℕ → ℕ → Answer Trailer
trailer_from number place entries at = do
  e ← edition_of number
  guard (leb entries most_messages) 18 0
  guard (eqb (place + entry_size e * entries) at) 18 0
  fine (record { edition = e; place = place; entries = entries })

-- The trailer that begins at `at`.
abbrev pub trailer_at : List ℕ → ℕ → Answer Trailer
trailer_at s at = trailer_from (big s (at + 8) 2) (big s at 4) (big s (at + 4) 4) at

-- It is the last bytes.
unfoldable pub trailer : List ℕ → Answer Trailer
trailer s = do
  guard (leb trailer_size (length s)) 18 0
  trailer_at s (length s - trailer_size)

-- The n entries from place p on, in which a length has w bytes, tile the bytes from `at` to `end`: each states as its
-- start where the one before ends. The answer is the lengths.
unfoldable pub entries_from : List ℕ → ℕ → ℕ → ℕ → ℕ → ℕ → Answer (List ℕ)
entries_from s w zero p at end = do
  guard (eqb at end) 18 0
  fine []
entries_from s w (suc n) p at end = do
  pass ← guard (eqb (big s p 4) at) 18 0
  ns ← entries_from s w n (p + (4 + w)) (at + big s (p + 4) w) end
  fine (big s (p + 4) w ∷ ns)

-- What the trailer and the index say: the edition, and the lengths of the messages, which begin at 0 and stand end to
-- end.
pub record Index : Type 0 where
  pub edition : Edition
  pub lengths : List ℕ

unfoldable pub index : List ℕ → Answer Index
index s = do
  t ← trailer s
  ns ← entries_from s t.edition.length_bytes t.entries t.place 0 t.place
  fine (record { edition = t.edition; lengths = ns })

-- The message of n bytes that begins at `at` of the recording: its own refusals, with their place in the recording.
unfoldable pub stretch : ℕ → List ℕ → ℕ → ℕ → Answer Reading
stretch most s at n = part_at at (message most no_table (take n (drop at s)))

-- Each message in turn.
unfoldable pub stretches_from : ℕ → List ℕ → ℕ → List ℕ → Answer (Unit {0})
stretches_from most s at [] = fine tt
stretches_from most s at (n ∷ ns) = do
  m ← stretch most s at n
  stretches_from most s (at + n) ns

-- In a lent table a message has two numbers: its start and its length. Is there room for n messages (14)?
unfoldable pub place_size : ℕ
place_size = 2

unfoldable pub roomy : Lent → ℕ → Bool
roomy no_table n = true
roomy (table r) n = leb (place_size * n) r

-- Opening, with a table or with none: trailer and index, the table's room, then each message.
unfoldable pub opening : Lent → List ℕ → Answer Index
opening lent s = do
  i ← index s
  guard (roomy lent (length i.lengths)) 14 0
  pass ← stretches_from i.edition.most s 0 i.lengths
  fine i

-- The starts and lengths of messages of these lengths, the first of which begins at `at`.
unfoldable pub places : ℕ → List ℕ → List ℕ
places at [] = []
places at (n ∷ ns) = at ∷ n ∷ places (at + n) ns

-- The lent table after opening: the messages' places stored in it, or, on a refusal, as it was.
unfoldable pub places_after : List ℕ → Answer Index → List ℕ
places_after t (fine i) = stored t (places 0 i.lengths)
places_after t (refused k p) = t

-- Where a message stands.
pub record Placed : Type 0 where
  pub start : ℕ
  pub size : ℕ

-- Message k of messages of these lengths, the first of which begins at 0.
abbrev pub placed_in : List ℕ → ℕ → Placed
placed_in ns k = record { start = total (take k ns); size = get_or ns k 0 }

-- Asking for message k: trailer and index, then whether there is one (16), then that message only.
unfoldable pub asking : List ℕ → ℕ → Answer Placed
asking s k = do
  i ← index s
  guard (ltb k (length i.lengths)) 16 0
  m ← stretch i.edition.most s (placed_in i.lengths k).start (placed_in i.lengths k).size
  fine (placed_in i.lengths k)
