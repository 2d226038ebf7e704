-- What mustering answers of a ledger and a book that are lent as numbers, and the numbers that it leaves; and what a
-- recording comes to, in numbers.
use Rattle.std.specs.Prelude.{ℕ, ◌&&◌, List, ◌∷◌, leb, length, take, replicate}
use Rattle.sim0mq.specs.Answer.{Answer, fine, refused, ◌>>◌, guard}
use Rattle.sim0mq.specs.Table.{stored}
use Rattle.sim0mq_buffers.specs.Placing.{put_in}
use Rattle.ledger_decks.specs.Decks.{deck_count}
use Rattle.ledger_decks.specs.Mustering.{Order, mustering, decks_mustered, book_mustered}
use Rattle.ledger_decks.specs.declared.Ledger.{Ledger}
use Rattle.ledger_recordings.specs.Reckoning.{Comes}
use Rattle.boundary_books.specs.Books.{book_of, book_numbers}
use Rattle.boundary_senders.specs.Calls.{book_size}

-- The ledger of a slice: its first 16 numbers, the heads on each deck. Any numbers of 16 bits are a ledger.
abbrev pub ledger_of : List ℕ → Ledger
ledger_of d = record { heads = take deck_count d }

-- Mustering a message: where a slice has fewer numbers than a ledger, or a book, 14 at 0, before all else; then as
-- mustering it by the ledger and the book of these numbers.
unfoldable pub mustering_in : List ℕ → List ℕ → List ℕ → Answer Order
mustering_in d l s =
    guard (leb deck_count (length d) && leb book_size (length l)) 14 0
    >> mustering (ledger_of d).heads (book_of l).senders s

-- The sender's place in the book.
abbrev pub place_in : Answer Order → Answer ℕ
place_in (fine o) = fine o.entry.place
place_in (refused k p) = refused k p

-- The heads and the book's numbers after it; on a refusal, as they were.
unfoldable pub decks_in : List ℕ → Answer Order → List ℕ
decks_in d (fine o) = stored d (decks_mustered (ledger_of d).heads (fine o))
decks_in d (refused k p) = d

unfoldable pub book_in : List ℕ → Answer Order → List ℕ
book_in l (fine o) = put_in l 0 (book_numbers (book_mustered (book_of l).senders (fine o)))
book_in l (refused k p) = l

-- What a recording comes to, 20 numbers: number, place, messages applied, messages refused, and the heads on each deck.
abbrev pub said_numbers : Answer ℕ → ℕ → List ℕ → List ℕ
said_numbers (fine n) passed heads = 0 ∷ 0 ∷ n ∷ passed ∷ heads
said_numbers (refused k p) passed heads = k ∷ p ∷ replicate 18 0

abbrev pub reckoned_numbers : Comes → List ℕ
reckoned_numbers r = said_numbers r.said r.refused r.ledger.heads
