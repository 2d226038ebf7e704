-- Mustering a message (02, Ticket 14): the ledger judges it, then the book takes it (02, Ticket 13), and its deed is
-- done.
use Rattle.std.specs.Prelude.{ℕ, Bool, cond, ◌&&◌, ◌||◌, List, [], ◌∷◌, length, drop, ltb, eqb}
use Rattle.sim0mq.specs.Answer.{Answer, fine, refused, ◌>>=◌, ◌>>◌, guard}
use Rattle.sim0mq.specs.Field.{Field, outline, after}
use Rattle.sim0mq.specs.Header.{Frame}
use Rattle.sim0mq.specs.Message.{no_table, Reading, reading}
use Rattle.sim0mq_numbers.specs.Numbers.{number_at}
use Rattle.asking.specs.Asking.{nth}
use Rattle.senders_book.specs.declared.Sender.{Sender}
use Rattle.senders_book.specs.Book.{alike}
use Rattle.senders_book.specs.Taking.{frame_place, Entry, taking_framed, taking, book_after}
use Rattle.ledger_decks.specs.declared.Deed.{Deed}
use Rattle.ledger_decks.specs.declared.Deed.TheVariants.{Joins, Moves, Leaves}
use Rattle.ledger_decks.specs.Decks.{deck_count, deck_heads, heads_on, decks_after}

-- MUS.1 in ASCII.
abbrev pub muster_type : List ℕ
muster_type = 77 ∷ 85 ∷ 83 ∷ 46 ∷ 49 ∷ []

-- Is the frame f of s the 8-bit string MUS.1?
unfoldable pub is_muster : List ℕ → Field → Bool
is_muster s f =
    eqb f.code 9
    && (eqb f.size (length muster_type) && alike (length muster_type) (drop f.first s) muster_type)

-- The number that the value bytes of f write: a status, or the deck that a field names.
abbrev pub value_in : List ℕ → Field → ℕ
value_in s f = number_at s f.first f.size

-- New is status 1, change is 2, delete is 3 (000, 2.3.5). A change has two fields, the others have one.
abbrev pub new : ℕ
new = 1

abbrev pub change : ℕ
change = 2

unfoldable pub fields_for : ℕ → ℕ
fields_for status = cond (eqb status change) 2 1

-- The field is a byte (22); it names a deck (29).
abbrev pub is_byte : Field → Answer (Unit {0})
is_byte f = guard (eqb f.code 0) 22 f.place

abbrev pub is_deck : List ℕ → Field → Answer (Unit {0})
is_deck s f = guard (ltb (value_in s f) deck_count) 29 f.place

-- A head is on the deck left, which f names (30).
abbrev pub has_head : List ℕ → List ℕ → Field → Answer (Unit {0})
has_head decks s f = guard (ltb 0 (heads_on decks (value_in s f))) 30 f.place

-- Is there room for a head on deck d?
abbrev pub has_room : List ℕ → ℕ → Bool
has_room decks d = ltb (heads_on decks d) deck_heads

-- New, of which f names the deck joined: it is not full (31).
unfoldable pub joining : List ℕ → List ℕ → Field → Answer Deed
joining decks s f = do
  is_byte f
  is_deck s f
  guard (has_room decks (value_in s f)) 31 f.place
  fine (Joins (value_in s f))

-- Change, of which f names the deck joined and g the deck left. A deck that is full can be joined from itself.
unfoldable pub moving : List ℕ → List ℕ → Field → Field → Answer Deed
moving decks s f g = do
  is_byte f
  is_byte g
  is_deck s f
  is_deck s g
  has_head decks s g
  guard (eqb (value_in s f) (value_in s g) || has_room decks (value_in s f)) 31 f.place
  fine (Moves (value_in s f) (value_in s g))

-- Delete, of which f names the deck left.
unfoldable pub leaving : List ℕ → List ℕ → Field → Answer Deed
leaving decks s f = do
  is_byte f
  is_deck s f
  has_head decks s f
  fine (Leaves (value_in s f))

-- What a message of this status does, of which f is the first field and this the second; and where the first, too, is
-- an answer.
unfoldable pub deed_of : ℕ → List ℕ → List ℕ → Field → Answer Field → Answer Deed
deed_of status decks s f second =
    cond (eqb status new)
    (joining decks s f)
    (cond (eqb status change) (second >>= (λ (g : Field). moving decks s f g)) (leaving decks s f))

unfoldable pub deed_for : ℕ → List ℕ → List ℕ → Answer Field → Answer Field → Answer Deed
deed_for status decks s first second = do
  f ← first
  deed_of status decks s f second

-- The ledger's judgement of a message whose type frame and status frame stand at these places, with n fields: its type
-- (20), the number of its fields (21), then those that its status asks for.
unfoldable pub ordering_at : List ℕ → List ℕ → ℕ → ℕ → ℕ → Answer Field → Answer Field → Answer Deed
ordering_at decks s kind status n first second = do
  f ← outline s kind
  guard (is_muster s f) 20 kind
  g ← outline s status
  guard (eqb n (fields_for (value_in s g))) 21 kind
  deed_for (value_in s g) decks s first second

-- Of a message that is read: frame 4 is its type, frame 6 its status (01, "The eight header frames").
unfoldable pub ordering : List ℕ → List ℕ → Reading → Answer Deed
ordering decks s m =
    ordering_at decks s (frame_place m.frames 4) (frame_place m.frames 6) (length m.fields) (nth m.fields 0)
    (nth m.fields 1)

-- What a message does to ledger and book.
pub record Order : Type 0 where
  pub deed : Deed
  pub entry : Entry

abbrev pub order_of : Deed → Entry → Order
order_of d e = record { deed = d; entry = e }

-- The order of this deed, where this is the book's answer to the message.
abbrev pub entering : Deed → Answer Entry → Answer Order
entering d x = do
  e ← x
  fine (order_of d e)

-- Mustering a message: reading's refusals, then the ledger's, then the book's.
unfoldable pub mustering : List ℕ → List Sender → List ℕ → Answer Order
mustering decks b s = do
  m ← reading no_table s
  d ← ordering decks s m
  entering d (taking b s)

-- The decks and the book after mustering: with the deed done and the entry in, or, on a refusal, as they were.
abbrev pub decks_mustered : List ℕ → Answer Order → List ℕ
decks_mustered decks (fine o) = decks_after decks o.deed
decks_mustered decks (refused k p) = decks

abbrev pub book_mustered : List Sender → Answer Order → List Sender
book_mustered b (fine o) = book_after b (fine o.entry)
book_mustered b (refused k p) = b

-- The same without reading the message again, by its frames and the number of its fields: frame 7 stands before the
-- first field, and each field before the next.
unfoldable pub following : List ℕ → Answer Field → Answer Field
following s x = do
  f ← x
  outline s (after f)

unfoldable pub ordering_framed : List ℕ → List ℕ → List Frame → ℕ → Answer Deed
ordering_framed decks s frames n =
    let first = following s (outline s (frame_place frames 7)) in
    ordering_at decks s (frame_place frames 4) (frame_place frames 6) n first (following s first)

unfoldable pub mustering_framed : List ℕ → List Sender → List ℕ → List Frame → ℕ → Answer Order
mustering_framed decks b s frames n = do
  d ← ordering_framed decks s frames n
  entering d (taking_framed b s frames)
