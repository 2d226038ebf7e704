-- The places read so far, and those from here on, are the book's.
use Rattle.std.proofs.Common.{ap, length}
use Rattle.senders_book.specs.declared.Book.{Book}
use Rattle.boundary_books.proofs.ReadLaws.{reading_start, reading_turn, reading_end}
use Rattle.boundary_books.proofs.book_of.Goals as goal

pub loop-i-init : goal.loop-i-init
loop-i-init c = reading_start _ _ (ap (λ (b : Book). length b.senders) c.empty-book.ensures)

pub loop-i-preserved : goal.loop-i-preserved
loop-i-preserved c = reading_turn c.loop-i.invariant _ c.loop-i-test.true c.sender_at.ensures

pub returns : goal.returns
returns c = reading_end c.loop-i.invariant c.loop-i-test.false
