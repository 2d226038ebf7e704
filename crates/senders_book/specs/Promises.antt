-- What the book promises of a message and of a closing. Each statement here is proved in proofs/Promises.antt.
use Rattle.std.specs.Prelude.{ℕ, ◌≤◌, ◌<◌, ◌≡◌, true, false, ◌⊎◌, ◌↔◌, List, length, take, drop}
use Rattle.std.specs.Int.Signed.{lt_z}
use Rattle.sim0mq.specs.Answer.{fine, refused, big}
use Rattle.sim0mq.specs.Field.{Field}
use Rattle.sim0mq.specs.Header.{frame, id_codes, number_codes}
use Rattle.sim0mq.specs.Message.{no_table, Reading, reading}
use Rattle.sim0mq_signed.specs.Signed.{twos}
use Rattle.senders_book.specs.declared.Id.{Id}
use Rattle.senders_book.specs.declared.Sender.{Sender}
use Rattle.senders_book.specs.Book.{
  id_bytes,
  id_of,
  same_id,
  holds,
  place_of,
  free_place,
  entry_in,
  is_held,
  number_held,
  has_place,
  closing,
}
use Rattle.senders_book.specs.Taking.{Stamp, frame_place, Entry, stamping, taking_framed, taking, book_after}

-- The stamp of an accepted message: the value bytes of its sender frame, frame 2, and the signed number of its number
-- frame, frame 5.
pub record IsStamp (s : List ℕ) (m : Reading) (t : Stamp) : Type 0 where
  pub sender : t.sender ≡ frame_place m.frames 2
  pub numbered : t.numbered ≡ frame_place m.frames 5
  pub from : Field
  pub is_id : frame s id_codes (frame_place m.frames 2) ≡ fine from
  pub code : t.code ≡ from.code
  pub id : t.id ≡ take from.size (drop from.first s)
  pub count : Field
  pub is_number : frame s number_codes (frame_place m.frames 5) ≡ fine count
  pub number : t.number ≡ twos 64 (big s count.first count.size)

-- After reading, only the book's own refusals come: an accepted message has a stamp, and taking it is taking the stamp.
abbrev pub AcceptedIsStamped : Type 0
AcceptedIsStamped =
    (s : List ℕ) (m : Reading) → reading no_table s ≡ fine m
    → (t : Stamp) × IsStamp s m t × ((b : List Sender) → taking b s ≡ stamping b t)

-- A message is read once: by the frames that reading found, taking is the same.
abbrev pub FramesAreEnough : Type 0
FramesAreEnough =
    (b : List Sender) (s : List ℕ) (m : Reading) → reading no_table s ≡ fine m
    → taking_framed b s m.frames ≡ taking b s

-- Reading's refusals come first.
abbrev pub ReadingComesFirst : Type 0
ReadingComesFirst =
    (b : List Sender) (s : List ℕ) (k p : ℕ) → reading no_table s ≡ refused k p → taking b s ≡ refused k p

-- Senders are the same exactly where type code and value bytes are equal.
abbrev pub SameExactly : Type 0
SameExactly =
    (c d : ℕ) (l k : List ℕ) → length l ≤ id_bytes → length k ≤ id_bytes
    → (same_id (id_of c l) (id_of d k) ≡ true) ↔ ((c ≡ d) × (l ≡ k))

-- What the first place of a sender is: it holds the sender, and no place before it does. And the first free one.
abbrev pub PlaceIsTheFirst : Type 0
PlaceIsTheFirst =
    (b : List Sender) (id : Id) → is_held b id ≡ true
    → (holds (entry_in b (place_of b id)) id ≡ true)
    × ((i : ℕ) → i < place_of b id → holds (entry_in b i) id ≡ false)

abbrev pub FreeIsTheFirst : Type 0
FreeIsTheFirst =
    (b : List Sender) → has_place b ≡ true
    → ((entry_in b (free_place b)).held ≡ false) × ((i : ℕ) → i < free_place b → (entry_in b i).held ≡ true)

-- A stamp is taken exactly where its id has at most 32 value bytes, and its sender is held with a smaller number, or is
-- new and a place is free; then the entry stands in the sender's own place, or in the first free one.
abbrev pub Takes : List Sender → Stamp → Entry → Type 0
Takes b t e =
    let id = id_of t.code t.id in
    (e.stamp ≡ t) × (length t.id ≤ id_bytes)
    × (((is_held b id ≡ true) × (lt_z (number_held b id) t.number ≡ true) × (e.place ≡ place_of b id))
    ⊎ ((is_held b id ≡ false) × (has_place b ≡ true) × (e.place ≡ free_place b)))

abbrev pub TakenExactly : Type 0
TakenExactly = (b : List Sender) (t : Stamp) (e : Entry) → (stamping b t ≡ fine e) ↔ Takes b t e

-- It is refused by 26 at its sender frame exactly where the id is too long; else by 27 at its number frame where the
-- sender is held and the number is not greater; else by 28 at its sender frame where it is new and no place is free.
abbrev pub Refuses : List Sender → Stamp → ℕ → ℕ → Type 0
Refuses b t k p =
    let id = id_of t.code t.id in
    ((k ≡ 26) × (p ≡ t.sender) × (id_bytes < length t.id))
    ⊎ (((k ≡ 27) × (p ≡ t.numbered) × (length t.id ≤ id_bytes) × (is_held b id ≡ true)
    × (lt_z (number_held b id) t.number ≡ false))
    ⊎ ((k ≡ 28) × (p ≡ t.sender) × (length t.id ≤ id_bytes) × (is_held b id ≡ false) × (has_place b ≡ false)))

abbrev pub RefusedExactly : Type 0
RefusedExactly = (b : List Sender) (t : Stamp) (k p : ℕ) → (stamping b t ≡ refused k p) ↔ Refuses b t k p

-- A message that was taken is refused when it comes again.
abbrev pub RepeatIsRefused : Type 0
RepeatIsRefused =
    (b : List Sender) (s : List ℕ) (m : Reading) (e : Entry) → reading no_table s ≡ fine m → taking b s ≡ fine e
    → taking (book_after b (taking b s)) s ≡ refused 27 (frame_place m.frames 5)

-- A message that is refused leaves the book as it was.
abbrev pub RefusedChangesNothing : Type 0
RefusedChangesNothing =
    (b : List Sender) (s : List ℕ) (k p : ℕ) → taking b s ≡ refused k p → book_after b (taking b s) ≡ b

-- No sender is held in two places.
abbrev pub Once : List Sender → Type 0
Once b = (id : Id) (i j : ℕ) → holds (entry_in b i) id ≡ true → holds (entry_in b j) id ≡ true → i ≡ j

-- A sender that is closed is held no more, and its numbers start afresh: a message of it is taken whatever its number.
abbrev pub ClosingRemoves : Type 0
ClosingRemoves =
    (b : List Sender) (c : ℕ) (l : List ℕ) → Once b → (closing b c l).held ≡ true
    → (is_held (closing b c l).book (id_of c l) ≡ false)
    × ((t : Stamp) → t.code ≡ c → t.id ≡ l → (e : Entry) × (stamping (closing b c l).book t ≡ fine e))

-- Closing says that none was held exactly where the sender is not held, and then changes nothing.
abbrev pub ClosingUnknown : Type 0
ClosingUnknown =
    (b : List Sender) (c : ℕ) (l : List ℕ)
    → ((closing b c l).held ≡ is_held b (id_of c l)) × ((closing b c l).held ≡ false → (closing b c l).book ≡ b)
