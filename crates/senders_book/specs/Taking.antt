-- Taking a message into the book (02, Ticket 13).
use Rattle.std.specs.Prelude.{ℕ, true, List, length, get_or, set, take, drop, leb, ℤ}
use Rattle.sim0mq.specs.Answer.{Answer, fine, refused, ◌>>=◌, ◌>>◌, guard}
use Rattle.sim0mq.specs.Field.{Field, outline}
use Rattle.sim0mq.specs.Header.{Frame}
use Rattle.sim0mq.specs.Message.{no_table, reading}
use Rattle.sim0mq_numbers.specs.Numbers.{number_at}
use Rattle.sim0mq_signed.specs.Signed.{twos}
use Rattle.senders_book.specs.declared.Sender.{Sender}
use Rattle.senders_book.specs.Book.{id_bytes, id_of, settling}

-- What the book looks at in a message: the places of its sender frame and of its number frame, the sender's type code
-- and value bytes, and the number, signed.
pub record Stamp : Type 0 where
  pub sender : ℕ
  pub numbered : ℕ
  pub code : ℕ
  pub id : List ℕ
  pub number : ℤ

abbrev pub stamped : ℕ → ℕ → ℕ → List ℕ → ℤ → Stamp
stamped sender numbered code id number =
    record { sender = sender; numbered = numbered; code = code; id = id; number = number }

-- The place of frame k.
unfoldable pub frame_place : List Frame → ℕ → ℕ
frame_place frames k = (get_or frames k (record { place = 0; code = 0 })).place

-- The stamp of the bytes s, whose sender frame and number frame stand at these places and are these.
abbrev pub stamp_of : List ℕ → ℕ → ℕ → Field → Field → Stamp
stamp_of s sender numbered f g =
    stamped sender numbered f.code (take f.size (drop f.first s))
    (twos 64 (number_at s g.first g.size))

-- The two frames are judged in outline.
unfoldable pub stamp_at : List ℕ → ℕ → ℕ → Answer Stamp
stamp_at s sender numbered = do
  f ← outline s sender
  g ← outline s numbered
  fine (stamp_of s sender numbered f g)

-- What is to stand in the book: the place, and the stamp that gives it its sender and its number.
pub record Entry : Type 0 where
  pub place : ℕ
  pub stamp : Stamp

abbrev pub entry_as : Stamp → ℕ → Entry
entry_as t i = record { place = i; stamp = t }

-- The entry that a stamp asks for: its id is not too long (26), its number is greater (27), or there is a place (28).
unfoldable pub stamping : List Sender → Stamp → Answer Entry
stamping b t = do
  guard (leb (length t.id) id_bytes) 26 t.sender
  i ← settling b (id_of t.code t.id) t.number t.sender t.numbered
  fine (entry_as t i)

-- Taking the bytes s by these frames, of which frame 2 is the sender and frame 5 the number (01, "The eight header
-- frames").
unfoldable pub taking_framed : List Sender → List ℕ → List Frame → Answer Entry
taking_framed b s frames = do
  t ← stamp_at s (frame_place frames 2) (frame_place frames 5)
  stamping b t

-- Taking a message: reading's refusals, then the book's.
unfoldable pub taking : List Sender → List ℕ → Answer Entry
taking b s = do
  m ← reading no_table s
  taking_framed b s m.frames

-- The place of a sender with a number in it.
abbrev pub holding : Stamp → Sender
holding t = record { held = true; number = t.number; id = id_of t.code t.id }

-- The book after taking: with the entry in it, or, on a refusal, as it was.
abbrev pub book_after : List Sender → Answer Entry → List Sender
book_after b (fine e) = set b e.place (holding e.stamp)
book_after b (refused k p) = b
