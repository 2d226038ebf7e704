-- What the book's calls hand back, over the definitions of the book.
use Rattle.std.specs.Prelude.{ℕ}
use Rattle.sim0mq.specs.Answer.{Answer, fine, refused}
use Rattle.sim0mq.specs.Views.{judged}
use Rattle.senders_book.specs.declared.Book.{Book}
use Rattle.senders_book.specs.Book.{empty_book, Closing}
use Rattle.senders_book.specs.Taking as T
use Rattle.senders_book.specs.Taking.{Entry, book_after}
use Rattle.senders.specs.declared.Stamp.{Stamp}
use Rattle.senders.specs.declared.Taken.{Taken}
use Rattle.senders.specs.declared.Closed.{Closed}

-- The book of no sender.
abbrev pub emptied : Book
emptied = record { senders = empty_book }

-- A stamp of the code, as the definitions have it.
abbrev pub stamp_as : Stamp → T.Stamp
stamp_as t = T.stamped t.at.sender t.at.numbered t.code t.id.now t.number

-- What taking hands back, in the definitions' numbers.
pub record Took : Type 0 where
  pub said : Answer ℕ
  pub book : Book

abbrev pub took_as : Taken → Took
took_as t = record { said = judged t.said; book = t.book }

-- What taking hands back: the sender's place, or the refusal; and the book after it.
abbrev pub after_taking : Book → Answer Entry → Took
after_taking b (fine e) = record { said = fine e.place; book = record { senders = book_after b.senders (fine e) } }
after_taking b (refused k p) = record { said = refused k p; book = b }

-- What closing hands back: whether the sender was held, and the book after it.
abbrev pub after_closing : Closing → Closed
after_closing c = record { held = c.held; book = record { senders = c.book } }
