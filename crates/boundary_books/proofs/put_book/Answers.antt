-- The numbers put so far, and those from here on put after them, are the book's.
use Rattle.std.proofs.Common.{arith}
use Rattle.boundary_books.proofs.PutLaws.{putting_short, putting_turn, putting_end}
use Rattle.boundary_books.proofs.put_book.Goals as goal

pub returns-then-numbers-lt-BOOK : goal.returns-then-numbers-lt-BOOK
returns-then-numbers-lt-BOOK c = putting_short _ _ c.if-numbers-lt-BOOK.true

pub loop-i-preserved : goal.loop-i-preserved
loop-i-preserved c =
    putting_turn c.loop-i.invariant c.if-numbers-lt-BOOK.false _ _ _ c.loop-i-test.true c.sender_numbers.ensures c.copy_from_slice.ensures.after
    (omega arith)

pub returns : goal.returns
returns c = putting_end c.loop-i.invariant c.if-numbers-lt-BOOK.false c.loop-i-test.false
