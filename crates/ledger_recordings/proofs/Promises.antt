-- A recording opens as its messages, so that what it comes to is what they come to; and of mustering them the ledger's
-- promises speak.
use Prim.Native.Nat.{ℕ, ◌+◌, ◌≤◌}
use mathlib.Core.Path.{◌≡◌, ap, sym}
use mathlib.Core.List.{List, [], ◌∷◌, map}
use native.Mathlib.Omega.{arith}
use lib.ListN.{length}
use Rattle.sim0mq.specs.Answer.{Answer, fine, refused, ◌>>=◌}
use Rattle.sim0mq.specs.Message.{no_table}
use Rattle.sim0mq.proofs.Answers.{not_fine}
use Rattle.dividing.specs.Run.{stretches}
use Rattle.dividing.proofs.RunLaws.{stretches_over}
use Rattle.recordings_format.specs.Judge.{Index, opening}
use Rattle.recordings_format.specs.Text.{tail_text}
use Rattle.recordings_format.proofs.Promises.{opens_the_recordings}
use Rattle.senders_book.specs.Book.{empty_book}
use Rattle.ledger_decks.specs.Mustering.{mustering}
use Rattle.ledger_decks.specs.History.{Point, start, musters, after_calls, next}
use Rattle.ledger_decks.proofs.History.{heads_are_news_less_deletes, decks_are_arrivals_less_departures}
use Rattle.ledger_recordings.specs.Reckoning.{mustered, reckoning_of, reckoning, applied_as}
use Rattle.ledger_recordings.specs.Promises.{
  ReckoningIsOfTheMessages,
  RefusedAsOpening,
  EachMessageCounts,
  DeckIsTold,
  HeadsAreTold,
}
use Rattle.ledger_recordings.proofs.ReckonLaws.{applied_more, applied_one}

pub reckoning_is_of_the_messages : ReckoningIsOfTheMessages
unfolding reckoning
reckoning_is_of_the_messages e ms s h =
    let opens = opens_the_recordings.0 e ms s h in
    let cut = stretches_over s 0 ms (tail_text e (map length ms)) (sym h.whole) in
    simp opens (ap (λ (l : List (List ℕ)). fine (reckoning_of l)) cut)

pub refused_as_opening : RefusedAsOpening
unfolding reckoning
refused_as_opening s k p = go (opening no_table s)
  where
    go : (a : Answer Index)
        → ((a >>= (λ i. fine (reckoning_of (stretches s 0 i.lengths))) ≡ refused k p) → a ≡ refused k p)
        × (a ≡ refused k p → (a >>= (λ i. fine (reckoning_of (stretches s 0 i.lengths)))) ≡ refused k p)
    go (fine i) = (λ e. absurd (not_fine (sym e)), λ e. absurd (not_fine (sym e)))
    go (refused j v) = (λ e. cc, λ e. cc)

-- no more messages are applied than are mustered
few : (p : Point) (ms : List (List ℕ)) → length (mustered p ms).applied ≤ length p.applied + length ms
unfolding after_calls next
few p [] = omega arith
few p (m ∷ ms) =
    let o = mustering p.decks p.book m in
    let rest = few (next p (musters m)) ms in
    let more : length (next p (musters m)).applied ≡ length p.applied + applied_as o = applied_more p.applied o in
    let one = applied_one o in
    omega arith

pub each_message_counts : EachMessageCounts
each_message_counts ms = let most = few (start empty_book) ms in omega arith

pub deck_is_told : DeckIsTold
deck_is_told ms d = decks_are_arrivals_less_departures empty_book (map musters ms) d

pub heads_are_told : HeadsAreTold
heads_are_told ms = heads_are_news_less_deletes empty_book (map musters ms)
