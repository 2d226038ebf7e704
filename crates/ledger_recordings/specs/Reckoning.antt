-- A whole recording mustered (02, Tickets 14 and 1): its messages in order, from the empty ledger and the empty book.
use Rattle.std.specs.Prelude.{ℕ, ◌-◌, List, map, length, Result, Ok, Err}
use Rattle.sim0mq.specs.Answer.{Answer, fine, refused, ◌>>=◌}
use Rattle.sim0mq.specs.Message.{no_table, Reading}
use Rattle.sim0mq.specs.Views.{number_of, judged}
use Rattle.sim0mq.specs.declared.Refusal.{Refusal}
use Rattle.dividing.specs.Run.{stretches}
use Rattle.recordings_format.specs.Judge.{opening}
use Rattle.senders_book.specs.Book.{empty_book}
use Rattle.senders_book.specs.declared.Book.{Book}
use Rattle.ledger_decks.specs.declared.Ledger.{Ledger}
use Rattle.ledger_decks.specs.Decks.{no_heads}
use Rattle.ledger_decks.specs.Mustering.{Order}
use Rattle.ledger_decks.specs.History.{Point, start, musters, after_calls}
use Rattle.ledger.specs.Ledger.{MusteredAs, after_mustering}
use Rattle.ledger_recordings.specs.declared.Reckoned.{Reckoned}

-- The point after these messages are mustered in order; one that is refused is passed over.
abbrev pub mustered : Point → List (List ℕ) → Point
mustered p ms = after_calls p (map musters ms)

-- What messages come to: the heads on each deck, how many messages were applied, and how many refused.
pub record Reckoning : Type 0 where
  pub decks : List ℕ
  pub applied : ℕ
  pub refused : ℕ

abbrev pub reckoning_at : Point → ℕ → Reckoning
reckoning_at p n = record { decks = p.decks; applied = length p.applied; refused = n - length p.applied }

abbrev pub reckoning_of : List (List ℕ) → Reckoning
reckoning_of ms = reckoning_at (mustered (start empty_book) ms) (length ms)

-- What a recording comes to: the refusal of opening it, or the reckoning of its messages.
unfoldable pub reckoning : List ℕ → Answer Reckoning
reckoning s = do
  i ← opening no_table s
  fine (reckoning_of (stretches s 0 i.lengths))

-- What the call answers, in the definitions' numbers.
pub record Comes : Type 0 where
  pub said : Answer ℕ
  pub refused : ℕ
  pub ledger : Ledger

abbrev pub comes_as : Reckoned → Comes
comes_as r = record { said = judged r.said; refused = r.refused; ledger = r.ledger }

-- What the call answers: how many messages were applied, or the refusal with the empty ledger.
abbrev pub reckoned_as : Answer Reckoning → Comes
reckoned_as (fine c) = record { said = fine c.applied; refused = c.refused; ledger = record { heads = c.decks } }
reckoned_as (refused k p) = record { said = refused k p; refused = 0; ledger = record { heads = no_heads } }

-- The same of a recording whose trailer and index are right: what its messages come to, or the refusal of one.
abbrev pub opened_as : Result Reckoned Refusal → Comes
opened_as (Ok r) = comes_as r
opened_as (Err r) = reckoned_as (refused (number_of r.reason) r.place)

-- What came of one message, where this is how it was read and this is what mustering it gives: what mustering hands
-- back, ledger and book after it, whether it was applied or passed over; or the refusal by which the recording does not
-- open.
abbrev pub applied_as : Answer Order → ℕ
applied_as (fine o) = 1
applied_as (refused k p) = 0

unfoldable pub turned : Ledger → Book → Answer Reading → Answer Order → Answer MusteredAs
turned l b (fine m) a = fine (after_mustering l b a)
turned l b (refused k p) a = refused k p
