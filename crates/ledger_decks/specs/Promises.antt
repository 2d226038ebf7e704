-- What the ledger promises of a message. Each statement here is proved in proofs/Promises.antt.
use Rattle.std.specs.Prelude.{ℕ, ◌+◌, ◌≤◌, ◌<◌, ◌≡◌, true, ◌||◌, ◌⊎◌, ◌↔◌, List, length, eqb}
use Rattle.sim0mq.specs.Answer.{Answer, fine, refused, ◌>>◌, guard, byte}
use Rattle.sim0mq.specs.Field.{Field, outline}
use Rattle.sim0mq.specs.Header.{frame, id_codes}
use Rattle.sim0mq.specs.Message.{no_table, Reading, reading}
use Rattle.asking.specs.Asking.{nth, asked}
use Rattle.senders_book.specs.declared.Sender.{Sender}
use Rattle.senders_book.specs.Taking.{frame_place, taking}
use Rattle.ledger_decks.specs.declared.Deed.{Deed}
use Rattle.ledger_decks.specs.declared.Deed.TheVariants.{Joins, Moves, Leaves}
use Rattle.ledger_decks.specs.Decks.{deck_count, deck_heads, heads_on, total}
use Rattle.ledger_decks.specs.Mustering.{
  is_muster,
  value_in,
  fields_for,
  has_room,
  joining,
  moving,
  leaving,
  deed_for,
  ordering,
  following,
  Order,
  mustering,
  mustering_framed,
  decks_mustered,
  book_mustered,
}

-- The deck that a field of code 0 names is the byte after its code.
abbrev pub DeckIsTheByte : Type 0
DeckIsTheByte =
    (s : List ℕ) (k : ℕ) (f : Field) → asked s k ≡ fine f → f.code ≡ 0 → value_in s f ≡ byte s (f.place + 1)

-- The ledger's judgement of a message whose type frame is `kind`, with this status: 20, then 21, then what the status
-- asks for; and nothing else.
abbrev pub judgement : List ℕ → List ℕ → Reading → Field → ℕ → Answer Deed
judgement decks s m kind status =
    guard (is_muster s kind) 20 (frame_place m.frames 4)
    >> (guard (eqb (length m.fields) (fields_for status)) 21 (frame_place m.frames 4)
    >> deed_for status decks s (nth m.fields 0) (nth m.fields 1))

-- After reading, only the ledger's own refusals come: frame 4 is the type, and the status is the byte after frame 6's
-- code.
pub record Judges (s : List ℕ) (m : Reading) : Type 0 where
  pub kind : Field
  pub is_id : frame s id_codes (frame_place m.frames 4) ≡ fine kind
  pub is_judged : (decks : List ℕ)
      → ordering decks s m ≡ judgement decks s m kind (byte s (frame_place m.frames 6 + 1))

abbrev pub AcceptedIsJudged : Type 0
AcceptedIsJudged = (s : List ℕ) (m : Reading) → reading no_table s ≡ fine m → Judges s m

-- Reading's refusals come first; then the ledger's, whatever the book holds; and only a message that the book takes is
-- applied.
abbrev pub ReadingComesFirst : Type 0
ReadingComesFirst =
    (decks : List ℕ) (b : List Sender) (s : List ℕ) (k p : ℕ) → reading no_table s ≡ refused k p
    → mustering decks b s ≡ refused k p

abbrev pub LedgerBeforeBook : Type 0
LedgerBeforeBook =
    (decks : List ℕ) (b : List Sender) (s : List ℕ) (m : Reading) (k p : ℕ) → reading no_table s ≡ fine m
    → ordering decks s m ≡ refused k p → mustering decks b s ≡ refused k p

abbrev pub AppliedIsTaken : Type 0
AppliedIsTaken =
    (decks : List ℕ) (b : List Sender) (s : List ℕ) (o : Order) → mustering decks b s ≡ fine o
    → taking b s ≡ fine o.entry

-- A deed that can be done: its decks are there, a head is on the deck left, and the deck joined has room or is the deck
-- left.
abbrev pub CanBeDone : List ℕ → Deed → Type 0
CanBeDone decks (Joins joined) = (joined < deck_count) × (heads_on decks joined < deck_heads)
CanBeDone decks (Moves joined left) =
    (joined < deck_count) × (left < deck_count) × (1 ≤ heads_on decks left)
    × ((eqb joined left || has_room decks joined) ≡ true)
CanBeDone decks (Leaves left) = (left < deck_count) × (1 ≤ heads_on decks left)

-- A new, a change and a delete are granted exactly where their fields are bytes and the deed that these name can be
-- done.
abbrev pub NewExactly : Type 0
NewExactly =
    (decks s : List ℕ) (f : Field) (x : Deed)
    → (joining decks s f ≡ fine x) ↔ ((f.code ≡ 0) × (x ≡ Joins (value_in s f)) × CanBeDone decks x)

abbrev pub ChangeExactly : Type 0
ChangeExactly =
    (decks s : List ℕ) (f g : Field) (x : Deed)
    → (moving decks s f g ≡ fine x)
    ↔ ((f.code ≡ 0) × (g.code ≡ 0) × (x ≡ Moves (value_in s f) (value_in s g)) × CanBeDone decks x)

abbrev pub DeleteExactly : Type 0
DeleteExactly =
    (decks s : List ℕ) (f : Field) (x : Deed)
    → (leaving decks s f ≡ fine x) ↔ ((f.code ≡ 0) × (x ≡ Leaves (value_in s f)) × CanBeDone decks x)

-- They are refused exactly so, in this order: by 22 at a field that is no byte, the earlier first; by 29 at a field
-- that names no deck, the earlier first; by 30 at the field that names the deck left, where no head is on it; by 31 at
-- the field that names the deck joined, where it is full and not the deck left.
abbrev pub Says : ℕ → ℕ → ℕ → Field → Type 0
Says k p number f = (k ≡ number) × (p ≡ f.place)

abbrev pub NoByte : Field → Type 0
NoByte f = f.code ≡ 0 → ⊥

abbrev pub NamesDeck : List ℕ → Field → Type 0
NamesDeck s f = (f.code ≡ 0) × (value_in s f < deck_count)

abbrev pub NewRefused : List ℕ → List ℕ → Field → ℕ → ℕ → Type 0
NewRefused decks s f k p =
    (Says k p 22 f × NoByte f)
    ⊎ ((Says k p 29 f × (f.code ≡ 0) × (deck_count ≤ value_in s f))
    ⊎ (Says k p 31 f × NamesDeck s f × (deck_heads ≤ heads_on decks (value_in s f))))

abbrev pub DeleteRefused : List ℕ → List ℕ → Field → ℕ → ℕ → Type 0
DeleteRefused decks s f k p =
    (Says k p 22 f × NoByte f)
    ⊎ ((Says k p 29 f × (f.code ≡ 0) × (deck_count ≤ value_in s f))
    ⊎ (Says k p 30 f × NamesDeck s f × (heads_on decks (value_in s f) ≤ 0)))

abbrev pub ChangeRefused : List ℕ → List ℕ → Field → Field → ℕ → ℕ → Type 0
ChangeRefused decks s f g k p =
    (Says k p 22 f × NoByte f)
    ⊎ ((Says k p 22 g × (f.code ≡ 0) × NoByte g)
    ⊎ ((Says k p 29 f × (f.code ≡ 0) × (g.code ≡ 0) × (deck_count ≤ value_in s f))
    ⊎ ((Says k p 29 g × NamesDeck s f × (g.code ≡ 0) × (deck_count ≤ value_in s g))
    ⊎ ((Says k p 30 g × NamesDeck s f × NamesDeck s g × (heads_on decks (value_in s g) ≤ 0))
    ⊎ (Says k p 31 f × NamesDeck s f × NamesDeck s g × (1 ≤ heads_on decks (value_in s g))
    × (value_in s f ≡ value_in s g → ⊥) × (deck_heads ≤ heads_on decks (value_in s f)))))))

abbrev pub NewRefusedExactly : Type 0
NewRefusedExactly =
    (decks s : List ℕ) (f : Field) (k p : ℕ) → (joining decks s f ≡ refused k p) ↔ NewRefused decks s f k p

abbrev pub DeleteRefusedExactly : Type 0
DeleteRefusedExactly =
    (decks s : List ℕ) (f : Field) (k p : ℕ) → (leaving decks s f ≡ refused k p) ↔ DeleteRefused decks s f k p

abbrev pub ChangeRefusedExactly : Type 0
ChangeRefusedExactly =
    (decks s : List ℕ) (f g : Field) (k p : ℕ) → (moving decks s f g ≡ refused k p) ↔ ChangeRefused decks s f g k p

-- What is applied can be done.
abbrev pub AppliedCanBeDone : Type 0
AppliedCanBeDone =
    (decks : List ℕ) (b : List Sender) (s : List ℕ) (o : Order) → mustering decks b s ≡ fine o
    → CanBeDone decks o.deed

-- The fields of a message that is read are found again without reading it: the first after frame 7, the second after
-- the first.
pub record FieldsFollow (s : List ℕ) (m : Reading) : Type 0 where
  pub first : 1 ≤ length m.fields → following s (outline s (frame_place m.frames 7)) ≡ nth m.fields 0
  pub second : 2 ≤ length m.fields
      → following s (following s (outline s (frame_place m.frames 7))) ≡ nth m.fields 1

abbrev pub FieldsFollowTheFrames : Type 0
FieldsFollowTheFrames = (s : List ℕ) (m : Reading) → reading no_table s ≡ fine m → FieldsFollow s m

-- A message is read once: by the frames and the number of fields that reading found, mustering is the same.
abbrev pub FramesAreEnough : Type 0
FramesAreEnough =
    (decks : List ℕ) (b : List Sender) (s : List ℕ) (m : Reading) → reading no_table s ≡ fine m
    → mustering_framed decks b s m.frames (length m.fields) ≡ mustering decks b s

-- One head moves: there is one less on the deck left and one more on the deck joined, unless they are the same; no
-- other deck is altered, and the heads on all decks together are as many as before.
pub record OneHeadMoves (decks after : List ℕ) (joined left : ℕ) : Type 0 where
  pub off : (joined ≡ left → ⊥) → heads_on after left + 1 ≡ heads_on decks left
  pub onto : (joined ≡ left → ⊥) → heads_on after joined ≡ heads_on decks joined + 1
  pub others : (d : ℕ) → (d ≡ joined → ⊥) → (d ≡ left → ⊥) → heads_on after d ≡ heads_on decks d
  pub same : total after ≡ total decks

-- A change that is applied moves one head: nobody is on two decks.
abbrev pub ChangeMovesOneHead : Type 0
ChangeMovesOneHead =
    (decks : List ℕ) (b : List Sender) (s : List ℕ) (o : Order) (joined left : ℕ) → length decks ≡ deck_count
    → mustering decks b s ≡ fine o → o.deed ≡ Moves joined left
    → OneHeadMoves decks (decks_mustered decks (mustering decks b s)) joined left

-- A change from a deck to itself needs a head there, and alters no deck.
abbrev pub ChangeToItself : Type 0
ChangeToItself =
    (decks : List ℕ) (b : List Sender) (s : List ℕ) (o : Order) (d : ℕ) → mustering decks b s ≡ fine o
    → o.deed ≡ Moves d d → (1 ≤ heads_on decks d) × (decks_mustered decks (mustering decks b s) ≡ decks)

-- A message that is refused leaves ledger and book as they were.
abbrev pub RefusedChangesNothing : Type 0
RefusedChangesNothing =
    (decks : List ℕ) (b : List Sender) (s : List ℕ) (k p : ℕ) → mustering decks b s ≡ refused k p
    → (decks_mustered decks (mustering decks b s) ≡ decks) × (book_mustered b (mustering decks b s) ≡ b)
