use Rattle.boundary_books.proofs.ReadLaws.{Reading}
use Rattle.boundary_books.proofs.book_of.Given as goal

abbrev pub invariant-loop-i : goal.invariant-loop-i
invariant-loop-i l = Reading l.numbers l.place-items l.i
