-- What a recording is (02, Ticket 1), as a string of bytes: accepted messages end to end, an index with an entry for
-- each, and a trailer. No refusal, no place and no order of judging: with the judge it shares the rows of the editions,
-- the most messages, and what an accepted message is.
use Rattle.std.specs.Prelude.{ℕ, ◌+◌, ◌≤◌, ◌<◌, ◌*◌, ◌^◌, ◌≡◌, List, [], ◌∷◌, ◌++◌, map, length}
use Rattle.sim0mq.specs.Allowed.{Each, joined}
use Rattle.sim0mq_numbers.specs.Bytes.{big_bytes}
use Rattle.dividing.specs.Front.{Taken}
use Rattle.dividing.specs.Run.{total}
use Rattle.recordings_format.specs.Edition.{Edition, editions, Listed, most_messages}

-- The entry of a message of n bytes that begins at `at`: its start, its length.
abbrev pub entry_text : Edition → ℕ → ℕ → List ℕ
entry_text e at n = big_bytes 4 at ++ big_bytes e.length_bytes n

-- The index of messages of these lengths, the first of which begins at `at`.
unfoldable pub index_text : Edition → ℕ → List ℕ → List ℕ
index_text e at [] = []
index_text e at (n ∷ ns) = entry_text e at n ++ index_text e (at + n) ns

-- The trailer: the place of the first entry, the number of entries, the edition.
abbrev pub trailer_text : Edition → ℕ → ℕ → List ℕ
trailer_text e place entries = big_bytes 4 place ++ (big_bytes 4 entries ++ big_bytes 2 e.number)

-- What follows messages of these lengths.
abbrev pub tail_text : Edition → List ℕ → List ℕ
tail_text e ns = index_text e 0 ns ++ trailer_text e (total ns) (length ns)

-- The recording of these messages.
abbrev pub recording_text : Edition → List (List ℕ) → List ℕ
recording_text e ms = joined ms ++ tail_text e (map length ms)

-- s is the recording of these messages.
pub record IsRecording (e : Edition) (ms : List (List ℕ)) (s : List ℕ) : Type 0 where
  pub listed : Listed e editions
  pub each : Each (Taken e.most) ms
  pub few : length ms ≤ most_messages
  pub whole : recording_text e ms ≡ s

-- s is bytes of which nothing is said, and after them the tail of messages of these lengths, which come to all of them.
-- The lengths and the places fit the bytes that they are written in.
pub record HasTail (e : Edition) (ns : List ℕ) (s : List ℕ) : Type 0 where
  pub listed : Listed e editions
  pub few : length ns ≤ most_messages
  pub lengths_fit : Each (λ n. n < 2 ^ (8 * e.length_bytes)) ns
  pub places_fit : total ns < 2 ^ (8 * 4)
  pub front : List ℕ
  pub long : length front ≡ total ns
  pub whole : front ++ tail_text e ns ≡ s
