-- What a run of calls can lead to (02, Ticket 14): a history begins with the empty ledger and any book, and each
-- further call, a message to muster or a sender to close, takes the ledger and the book last handed back, granted or
-- refused.
-- Each promise here is proved in proofs/History.antt.
use Rattle.std.specs.Prelude.{ℕ, ◌+◌, ◌≤◌, ◌≡◌, cond, List, [], ◌∷◌, ◌++◌, length, eqb}
use Rattle.sim0mq.specs.Answer.{Answer, fine, refused}
use Rattle.senders_book.specs.declared.Sender.{Sender}
use Rattle.senders_book.specs.Book.{closing}
use Rattle.ledger_decks.specs.declared.Deed.{Deed}
use Rattle.ledger_decks.specs.declared.Deed.TheVariants.{Joins, Moves, Leaves}
use Rattle.ledger_decks.specs.Decks.{deck_count, deck_heads, no_heads, heads_on, total}
use Rattle.ledger_decks.specs.Mustering.{Order, mustering, decks_mustered, book_mustered}

-- A call: these bytes are to be mustered; the sender of this type code and these value bytes is closed.
pub data Call : Type 0 where
  musters : List ℕ → Call
  closes : ℕ → List ℕ → Call

-- A point of a history: ledger and book as last handed back, and the deeds that were applied, in order.
pub record Point : Type 0 where
  pub decks : List ℕ
  pub book : List Sender
  pub applied : List Deed

abbrev pub start : List Sender → Point
start b = record { decks = no_heads; book = b; applied = [] }

abbrev pub applied_by : List Deed → Answer Order → List Deed
applied_by ds (fine o) = ds ++ (o.deed ∷ [])
applied_by ds (refused k p) = ds

-- The point after mustering, of which this is the answer; after a call; and after calls.
abbrev pub point_after : Point → Answer Order → Point
point_after p a =
    record {
      decks = decks_mustered p.decks a;
      book = book_mustered p.book a;
      applied = applied_by p.applied a;
    }

unfoldable pub next : Point → Call → Point
next p (musters s) = point_after p (mustering p.decks p.book s)
next p (closes c l) = record { decks = p.decks; book = (closing p.book c l).book; applied = p.applied }

unfoldable pub after_calls : Point → List Call → Point
after_calls p [] = p
after_calls p (c ∷ cs) = after_calls (next p c) cs

-- What a deed counts for: among the news, among the deletes; as an arrival on deck d, as a departure from it.
abbrev pub is_new : Deed → ℕ
is_new (Joins joined) = 1
is_new (Moves joined left) = 0
is_new (Leaves left) = 0

abbrev pub is_delete : Deed → ℕ
is_delete (Joins joined) = 0
is_delete (Moves joined left) = 0
is_delete (Leaves left) = 1

abbrev pub arrives : ℕ → Deed → ℕ
arrives d (Joins joined) = cond (eqb d joined) 1 0
arrives d (Moves joined left) = cond (eqb d joined) 1 0
arrives d (Leaves left) = 0

abbrev pub departs : ℕ → Deed → ℕ
departs d (Joins joined) = 0
departs d (Moves joined left) = cond (eqb d left) 1 0
departs d (Leaves left) = cond (eqb d left) 1 0

-- How often, of these deeds.
unfoldable pub tally : (Deed → ℕ) → List Deed → ℕ
tally f [] = 0
tally f (d ∷ ds) = f d + tally f ds

-- The heads on all decks together are the news applied less the deletes applied.
abbrev pub HeadsAreNewsLessDeletes : Type 0
HeadsAreNewsLessDeletes =
    (b : List Sender) (cs : List Call)
    → total (after_calls (start b) cs).decks + tally is_delete (after_calls (start b) cs).applied
    ≡ tally is_new (after_calls (start b) cs).applied

-- The heads on each deck are its arrivals less its departures.
abbrev pub DecksAreArrivalsLessDepartures : Type 0
DecksAreArrivalsLessDepartures =
    (b : List Sender) (cs : List Call) (d : ℕ)
    → heads_on (after_calls (start b) cs).decks d + tally (departs d) (after_calls (start b) cs).applied
    ≡ tally (arrives d) (after_calls (start b) cs).applied

-- No run makes a deck negative or too full: there are 16 decks, none has more than 65,535 heads, and none has had more
-- departures than arrivals.
pub record InBounds (p : Point) : Type 0 where
  pub many : length p.decks ≡ deck_count
  pub most : (d : ℕ) → heads_on p.decks d ≤ deck_heads
  pub least : (d : ℕ) → tally (departs d) p.applied ≤ tally (arrives d) p.applied

abbrev pub DecksStayInBounds : Type 0
DecksStayInBounds = (b : List Sender) (cs : List Call) → InBounds (after_calls (start b) cs)
