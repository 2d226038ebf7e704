use Rattle.boundary_books.proofs.PutLaws.{Putting}
use Rattle.boundary_books.proofs.put_book.Given as goal

abbrev pub invariant-loop-i : goal.invariant-loop-i
invariant-loop-i l = Putting l.fn.book.senders l.initial.numbers l.numbers l.i
