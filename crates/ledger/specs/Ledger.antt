-- What the ledger's calls hand back, over the definitions of mustering.
use Rattle.std.specs.Prelude.{ℕ}
use Rattle.sim0mq.specs.Answer.{Answer, fine, refused}
use Rattle.sim0mq.specs.Views.{judged}
use Rattle.senders_book.specs.declared.Book.{Book}
use Rattle.ledger_decks.specs.declared.Ledger.{Ledger}
use Rattle.ledger_decks.specs.Decks.{no_heads}
use Rattle.ledger_decks.specs.Mustering.{Order, decks_mustered, book_mustered}
use Rattle.ledger.specs.declared.Mustered.{Mustered}

-- The ledger of no head.
abbrev pub emptied : Ledger
emptied = record { heads = no_heads }

-- What mustering hands back, in the definitions' numbers.
pub record MusteredAs : Type 0 where
  pub said : Answer ℕ
  pub ledger : Ledger
  pub book : Book

abbrev pub mustered_as : Mustered → MusteredAs
mustered_as m = record { said = judged m.said; ledger = m.ledger; book = m.book }

-- What mustering hands back: the sender's place in the book, or the refusal; and ledger and book after it.
abbrev pub after_mustering : Ledger → Book → Answer Order → MusteredAs
after_mustering l b (fine o) =
    record {
      said = fine o.entry.place;
      ledger = record { heads = decks_mustered l.heads (fine o) };
      book = record { senders = book_mustered b.senders (fine o) };
    }
after_mustering l b (refused k p) = record { said = refused k p; ledger = l; book = b }
