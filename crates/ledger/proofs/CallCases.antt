-- How the ledger's calls answer, case by case: the book's answer tells whether the deed is done, and reading's answer
-- tells what mustering goes on with.
use Prim.Native.Nat.{ℕ}
use mathlib.Core.Path.{◌≡◌, sym, ap, ◌∙◌}
use mathlib.Core.List.{List, map}
use lib.ListN.{length}
use Rattle.sim0mq.specs.Answer as S
use Rattle.sim0mq.specs.Answer.{fine, refused, ◌>>=◌}
use Rattle.sim0mq.specs.Header as H
use Rattle.sim0mq.specs.Message.{no_table, reading}
use Rattle.std.specs.Prelude.{Ok, Err}
use Rattle.sim0mq.proofs.Answers.{not_fine}
use Rattle.sim0mq.specs.Views.{number_of, judged}
use Rattle.sim0mq.specs.declared.Refusal.{Refusal}
use Rattle.reading_header.specs.Frames.{shown}
use Rattle.reading.specs.declared.Answer.{Answer}
use Rattle.reading.specs.declared.Found.{Found}
use Rattle.reading.specs.Answers.{Answered, answer_as, answered}
use Rattle.reading.proofs.SaidLaws.{found_at, fault_at}
use Rattle.senders_book.specs.declared.Book.{Book}
use Rattle.senders_book.specs.declared.Sender.{Sender}
use Rattle.senders_book.specs.Taking.{Entry, frame_place, taking_framed}
use Rattle.senders.specs.declared.Taken.{Taken}
use Rattle.senders.specs.Senders.{Took, took_as, after_taking}
use Rattle.senders.proofs.CallCases.{shown_back}
use Rattle.ledger_decks.specs.declared.Ledger.{Ledger}
use Rattle.ledger_decks.specs.declared.Deed.{Deed}
use Rattle.ledger_decks.specs.Decks.{decks_after}
use Rattle.ledger_decks.specs.Mustering.{entering, mustering, ordering_framed, mustering_framed}
use Rattle.ledger_decks.proofs.Promises.{reading_comes_first, frames_are_enough}
use Rattle.ledger_judging.specs.Judging.{ordering_by}
use Rattle.ledger.specs.Ledger.{MusteredAs, after_mustering}

-- the book's answer to a message, and what it does
module _ (l : Ledger) (b : Book) (s : List ℕ) (frames : List H.Frame) (d : Deed) (t : Taken)
    (e : took_as t ≡ after_taking b (taking_framed b.senders s frames)) where
  said : judged t.said ≡ (after_taking b (taking_framed b.senders s frames)).said
  said = ap (λ (v : Took). v.said) e

  pub book_stops : (r : Refusal) → t.said ≡ Err r
      → refused (number_of r.reason) r.place ≡ entering d (taking_framed b.senders s frames)
  book_stops r q = go (taking_framed b.senders s frames) (sym (ap judged q) ∙ said)
    where
      go : (x : S.Answer Entry) → refused (number_of r.reason) r.place ≡ (after_taking b x).said
          → refused (number_of r.reason) r.place ≡ entering d x
      go (fine y) z = absurd (not_fine z)
      go (refused k p) z = cc

  pub book_goes : (i : ℕ) (after : List ℕ) → t.said ≡ Ok i → after ≡ decks_after l.heads d
      → ◌≡◌ {A = MusteredAs} (record { said = fine i; ledger = record { heads = after }; book = t.book })
      (after_mustering l b (entering d (taking_framed b.senders s frames)))
  book_goes i after q w = go (taking_framed b.senders s frames) (sym (ap judged q) ∙ said) (ap (λ (v : Took). v.book) e)
    where
      go : (x : S.Answer Entry) → fine i ≡ (after_taking b x).said → t.book ≡ (after_taking b x).book
          → ◌≡◌ {A = MusteredAs} (record { said = fine i; ledger = record { heads = after }; book = t.book })
          (after_mustering l b (entering d x))
      go (fine y) u v = λ j. record { said = u j; ledger = record { heads = w j }; book = v j }
      go (refused k p) u v = absurd (not_fine (sym u))

-- mustering by frames, of which these are the places
module _ (ds : List ℕ) (b : List Sender) (s : List ℕ) (frames : List H.Frame) (kind status count n : ℕ)
    (four : kind ≡ frame_place frames 4) (six : status ≡ frame_place frames 6) (seven : count ≡ frame_place frames 7) where
  pub framed_order : ordering_by ds s kind status count n ≡ ordering_framed ds s frames n
  unfolding ordering_framed
  framed_order = λ i. ordering_by ds s (four i) (six i) (seven i) n

  pub framed_stops : (k p : ℕ) → ordering_by ds s kind status count n ≡ refused k p
      → refused k p ≡ mustering_framed ds b s frames n
  unfolding mustering_framed
  framed_stops k p e =
      ap (λ (a : S.Answer Deed). a >>= (λ (d : Deed). entering d (taking_framed b s frames))) (sym e ∙ framed_order)

  pub framed_goes : (d : Deed) → ordering_by ds s kind status count n ≡ fine d
      → entering d (taking_framed b s frames) ≡ mustering_framed ds b s frames n
  unfolding mustering_framed
  framed_goes d e =
      ap (λ (a : S.Answer Deed). a >>= (λ (d : Deed). entering d (taking_framed b s frames))) (sym e ∙ framed_order)

-- mustering a message of which this is reading's answer
module _ (ds : List ℕ) (b : List Sender) (s : List ℕ) (a : Answer) (e : answer_as a ≡ answered (reading no_table s)) where
  pub muster_stops : (r : Refusal) → a.said ≡ Err r → refused (number_of r.reason) r.place ≡ mustering ds b s
  muster_stops r q = sym (reading_comes_first ds b s _ r.place (fault_at _ a e r q))

  pub muster_goes : (f : Found) → a.said ≡ Ok f
      → mustering_framed ds b s (map shown a.frames) f.fields ≡ mustering ds b s
  muster_goes f q =
      let m = found_at _ a e f q in
      let found : map shown a.frames ≡ m.0.frames
      = ap (map shown) (ap (λ (y : Answered). y.frames) (e ∙ ap answered m.1)) ∙ shown_back m.0.frames in
      let many : f.fields ≡ length m.0.fields = ap (λ (y : Found). y.fields) (sym m.2) in
      (λ i. mustering_framed ds b s (found i) (many i)) ∙ frames_are_enough ds b s m.0 m.1
