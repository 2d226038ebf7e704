-- What opening and asking answer, over the definitions of a recording.
use Rattle.std.specs.Prelude.{ℕ, ◌+◌, ◌*◌, ◌≤◌, ◌<◌, ◌≡◌, List, [], ◌∷◌, length, take, get_or, Result}
use Rattle.sim0mq.specs.Answer.{Answer, fine, refused}
use Rattle.sim0mq.specs.Message.{Reading}
use Rattle.sim0mq.specs.Views.{said_as}
use Rattle.sim0mq.specs.declared.Refusal.{Refusal}
use Rattle.dividing.specs.Run.{total}
use Rattle.recordings_format.specs.Edition.{most_messages}
use Rattle.recordings_format.specs.Judge as J
use Rattle.recordings_format.specs.Judge.{Index, index, place_size}
use Rattle.recordings_index.specs.Index.{trailer_as, summary}
use Rattle.recordings_index.specs.declared.Trailer.{Trailer}
use Rattle.recordings_index.specs.declared.Placed.{Placed}

-- What the trailer says, and each answer of asking, as the definitions have it.
abbrev pub trailer_said : Result Trailer Refusal → Answer J.Trailer
trailer_said r = said_as trailer_as r

abbrev pub placed_as : Placed → J.Placed
placed_as p = record { start = p.start; size = p.length }

abbrev pub asked_as : Result Placed Refusal → Answer J.Placed
asked_as r = said_as placed_as r

-- What opening answers of an index: the number of messages.
abbrev pub count_of : Answer Index → Answer ℕ
count_of (fine i) = fine (length i.lengths)
count_of (refused k p) = refused k p

-- The length of a message that was judged.
abbrev pub size_of : Answer Reading → Answer ℕ
size_of (fine m) = fine m.bytes
size_of (refused k p) = refused k p

-- Trailer and index are right, and this is the trailer.
pub record Stated (s : List ℕ) (t : Trailer) : Type 0 where
  pub found : Index
  pub is : index s ≡ fine found
  pub says : summary found ≡ trailer_as t

-- The lengths that the index states; none where it is not right.
abbrev pub lengths_in : Answer Index → List ℕ
lengths_in (fine i) = i.lengths
lengths_in (refused k p) = []

-- Where message k of messages of these lengths stands, and its two numbers in a table.
abbrev pub entry_in : List ℕ → ℕ → Placed
entry_in ns k = record { start = total (take k ns); length = get_or ns k 0 }

abbrev pub numbers_of : Placed → List ℕ
numbers_of m = m.start ∷ m.length ∷ []

-- In a table of `long` numbers there is room for those of message k, and each of them fits 32 bits.
pub record Storable (long k : ℕ) (m : Placed) : Type 0 where
  pub few : k ≤ most_messages
  pub room : place_size * k + place_size ≤ long
  pub start : m.start < 4294967296
  pub length : m.length < 4294967296
