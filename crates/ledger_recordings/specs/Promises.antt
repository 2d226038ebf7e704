-- What is promised of a recording that is mustered. Each statement here is proved in proofs/Promises.antt.
use Rattle.std.specs.Prelude.{ℕ, ◌+◌, ◌≡◌, ◌↔◌, List, length}
use Rattle.sim0mq.specs.Answer.{fine, refused}
use Rattle.sim0mq.specs.Message.{no_table}
use Rattle.recordings_format.specs.Edition.{Edition}
use Rattle.recordings_format.specs.Text.{IsRecording}
use Rattle.recordings_format.specs.Judge.{opening}
use Rattle.senders_book.specs.Book.{empty_book}
use Rattle.ledger_decks.specs.Decks.{heads_on, total}
use Rattle.ledger_decks.specs.History.{start, is_new, is_delete, arrives, departs, tally}
use Rattle.ledger_recordings.specs.Reckoning.{mustered, reckoning_of, reckoning}

-- The recording of these messages comes to their reckoning_of, and so to mustering them in order.
abbrev pub ReckoningIsOfTheMessages : Type 0
ReckoningIsOfTheMessages =
    (e : Edition) (ms : List (List ℕ)) (s : List ℕ) → IsRecording e ms s → reckoning s ≡ fine (reckoning_of ms)

-- It is refused exactly as opening it is.
abbrev pub RefusedAsOpening : Type 0
RefusedAsOpening = (s : List ℕ) (k p : ℕ) → (reckoning s ≡ refused k p) ↔ (opening no_table s ≡ refused k p)

-- Each message was applied, or refused and passed over.
abbrev pub EachMessageCounts : Type 0
EachMessageCounts = (ms : List (List ℕ)) → (reckoning_of ms).applied + (reckoning_of ms).refused ≡ length ms

-- How many people sleep on deck d: as many as joined it less those that left it, by the messages applied; and on all
-- decks together the news less the deletes.
abbrev pub DeckIsTold : Type 0
DeckIsTold =
    (ms : List (List ℕ)) (d : ℕ)
    → heads_on (reckoning_of ms).decks d + tally (departs d) (mustered (start empty_book) ms).applied
    ≡ tally (arrives d) (mustered (start empty_book) ms).applied

abbrev pub HeadsAreTold : Type 0
HeadsAreTold =
    (ms : List (List ℕ))
    → total (reckoning_of ms).decks + tally is_delete (mustered (start empty_book) ms).applied
    ≡ tally is_new (mustered (start empty_book) ms).applied
