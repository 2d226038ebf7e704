-- What taking and closing answer of a book that is lent as numbers, and the numbers that they leave.
use Rattle.std.specs.Prelude.{ℕ, cond, List, leb, length}
use Rattle.sim0mq.specs.Answer.{Answer, fine, refused, ◌>>◌, guard}
use Rattle.sim0mq_buffers.specs.Placing.{put_in}
use Rattle.senders_book.specs.Book.{Closing, closing}
use Rattle.senders_book.specs.Taking.{Entry, taking, book_after}
use Rattle.boundary_books.specs.Books.{book_of, book_numbers}

-- So many numbers are a book's: eight for each of its 32 places.
abbrev pub book_size : ℕ
book_size = 256

-- Taking a message: where the slice has fewer numbers than a book, 14 at 0, before all else; then as taking it into the
-- book of these numbers.
unfoldable pub taking_in : List ℕ → List ℕ → Answer Entry
taking_in l s = guard (leb book_size (length l)) 14 0 >> taking (book_of l).senders s

-- The sender's place.
abbrev pub place_in : Answer Entry → Answer ℕ
place_in (fine e) = fine e.place
place_in (refused k p) = refused k p

-- The numbers after it: those of the book with the entry in it, at the front; on a refusal, as they were.
unfoldable pub taken_in : List ℕ → Answer Entry → List ℕ
taken_in l (fine e) = put_in l 0 (book_numbers (book_after (book_of l).senders (fine e)))
taken_in l (refused k p) = l

-- Closing a sender, in the same way.
unfoldable pub closing_in : List ℕ → ℕ → List ℕ → Answer Closing
closing_in l c id = guard (leb book_size (length l)) 14 0 >> fine (closing (book_of l).senders c id)

-- 1 where the sender was held, else 0.
abbrev pub held_in : Answer Closing → Answer ℕ
held_in (fine c) = fine (cond c.held 1 0)
held_in (refused k p) = refused k p

-- The numbers after it: those of the book without the sender, where it was held; else as they were.
unfoldable pub closed_in : List ℕ → Answer Closing → List ℕ
closed_in l (fine c) = cond c.held (put_in l 0 (book_numbers c.book)) l
closed_in l (refused k p) = l
