-- The book of senders in numbers: eight for each of its places, one place after the other.
use Rattle.std.specs.Prelude.{ℕ, zero, suc, ◌+◌, ◌*◌, cond, not, List, [], ◌∷◌, ◌++◌, eqb, get_or}
use Rattle.sim0mq_numbers.specs.Bytes.{big_bytes}
use Rattle.sim0mq_signed.specs.Signed.{bits_of}
use Rattle.sim0mq_numbers.specs.Numbers.{number_at}
use Rattle.sim0mq_signed.specs.Signed.{twos}
use Rattle.senders_book.specs.Book.{book_places, entry_in}
use Rattle.senders_book.specs.declared.Sender.{Sender}
use Rattle.senders_book.specs.declared.Book.{Book}

-- The numbers of a place.
abbrev pub place_size : ℕ
place_size = 8

-- A place, 8 numbers: 1 where a sender is held; the bits of the last number taken from it, in two's complement of 64
-- bits; its id's type code and length; and the id's 32 bytes, eight in each number, the first weighing most.
unfoldable pub sender_numbers : Sender → List ℕ
sender_numbers e =
    cond e.held 1 0
    ∷ bits_of 64 e.number
    ∷ e.id.code
    ∷ e.id.length
    ∷ number_at e.id.bytes 0 8
    ∷ number_at e.id.bytes 8 8
    ∷ number_at e.id.bytes 16 8
    ∷ number_at e.id.bytes 24 8
    ∷ []

-- The bytes of an id that are in these four numbers.
unfoldable pub id_bytes_of : ℕ → ℕ → ℕ → ℕ → List ℕ
id_bytes_of a b c d = big_bytes 8 a ++ (big_bytes 8 b ++ (big_bytes 8 c ++ big_bytes 8 d))

-- The other way, the place of the eight numbers from `at` on, where those past the end are 0. Any numbers are a place:
-- a sender is held by any number but 0, and any code, length and bytes are an id.
unfoldable pub sender_at : List ℕ → ℕ → Sender
sender_at l at =
    record {
      held = not (eqb (get_or l at 0) 0);
      number = twos 64 (get_or l (at + 1) 0);
      id =
          record {
            code = get_or l (at + 2) 0;
            length = get_or l (at + 3) 0;
            bytes = id_bytes_of (get_or l (at + 4) 0) (get_or l (at + 5) 0) (get_or l (at + 6) 0) (get_or l (at + 7) 0);
          };
    }

-- The n places from place i on; and all of a book's.
unfoldable pub places_from : List ℕ → ℕ → ℕ → List Sender
places_from l i zero = []
places_from l i (suc n) = sender_at l (place_size * i) ∷ places_from l (suc i) n

abbrev pub book_of : List ℕ → Book
book_of l = record { senders = places_from l 0 book_places }

-- The numbers of the n places from place i on; and of all of a book's.
unfoldable pub numbers_from : List Sender → ℕ → ℕ → List ℕ
numbers_from b i zero = []
numbers_from b i (suc n) = sender_numbers (entry_in b i) ++ numbers_from b (suc i) n

abbrev pub book_numbers : List Sender → List ℕ
book_numbers b = numbers_from b 0 book_places
