-- How the book's calls answer, case by case: an id is made of the bytes put at the front of zeros, numbers come back
-- from their bits, and reading's answer tells what taking goes on with.
use Prim.Native.Nat.{ℕ, zero, suc}
use mathlib.Core.Path.{◌≡◌, refl, sym, ap, ◌∙◌}
use mathlib.Core.Bool.{Bool, true}
use mathlib.Core.List.{List, [], ◌∷◌, map}
use lib.ListN.{length, get_or, set, replicate}
use lib.IntN.{ℤ}
use lib.Signed.{lt_z}
use mir.Syntax.{w64}
use mir.Val.{SFits, to_z, of_z}
use mir.ValLaws.{to_z-of_z}
use Rattle.sim0mq.specs.Answer as S
use Rattle.sim0mq.specs.Answer.{fine, refused}
use Rattle.sim0mq.specs.Header as H
use Rattle.sim0mq.specs.Message.{no_table, reading}
use Rattle.sim0mq.specs.Table.{placed}
use Rattle.std.specs.Prelude.{Ok, Err}
use Rattle.sim0mq.specs.Views.{number_of}
use Rattle.sim0mq.specs.declared.Refusal.{Refusal}
use Rattle.reading_header.specs.declared.Frame.{Frame}
use Rattle.reading_header.specs.Frames.{framed, shown}
use Rattle.reading.specs.declared.Answer.{Answer}
use Rattle.reading.specs.declared.Found.{Found}
use Rattle.reading.specs.Answers.{Answered, answer_as, answered}
use Rattle.reading.proofs.SaidLaws.{found_at, fault_at}
use Rattle.senders_book.specs.declared.Book.{Book}
use Rattle.senders_book.specs.declared.Id.{Id}
use Rattle.senders_book.specs.declared.Sender.{Sender}
use Rattle.senders_book.specs.Book.{id_bytes, id_of, settling}
use Rattle.senders_book.specs.Taking.{Stamp, frame_place, entry_as, taking_framed, taking}
use Rattle.senders.specs.Senders.{Took, after_taking}
use Rattle.senders_book.proofs.StampLaws.{frames_are_enough, reading_comes_first}

-- an id
pub id_made : (c : ℕ) (l x : List ℕ) → x ≡ placed (replicate id_bytes 0) 0 l
    → ◌≡◌ {A = Id} (record { code = c; length = length l; bytes = x }) (id_of c l)
id_made c l x p = λ i. record { code = c; length = length l; bytes = p i }

-- the book with a stamp's sender and number in place i
pub stands_in : (b : Book) (t : Stamp) (i : ℕ) (x : Id) (z : ℤ) → x ≡ id_of t.code t.id → z ≡ t.number
    → ◌≡◌ {A = Took}
    (record {
      said = fine i;
      book = record { senders = set b.senders i (record { held = true; number = z; id = x }) };
    })
    (after_taking b (fine (entry_as t i)))
stands_in b t i x z p q =
    λ j.
    record {
      said = fine i;
      book = record { senders = set b.senders i (record { held = true; number = q j; id = p j }) };
    }

-- signed numbers that the code compares
pub less_as : (x y : ℤ) (t : Bool) → SFits w64 x → SFits w64 y → lt_z (to_z w64 (of_z w64 x)) (to_z w64 (of_z w64 y)) ≡ t
    → lt_z x y ≡ t
less_as x y t f g e = rw (to_z-of_z w64 x f, to_z-of_z w64 y g) at e

-- settling a number that came back from its bits
pub settling_by : (b : List Sender) (id : Id) (x y : ℤ) (sender numbered : ℕ) (a : S.Answer ℕ) → x ≡ y
    → a ≡ settling b id y sender numbered → settling b id x sender numbered ≡ a
settling_by b id x y sender numbered a e q = ap (λ (z : ℤ). settling b id z sender numbered) e ∙ sym q

-- the place of frame k, as the code looks it up
pub place_shown : (fs : List Frame) (k : ℕ) → (get_or fs k (record { place = 0; code = 0 })).place ≡ frame_place (map shown fs) k
unfolding frame_place
place_shown [] k = refl
place_shown (f ∷ fs) zero = refl
place_shown (f ∷ fs) (suc k) = place_shown fs k

-- frames that were handed over are the frames that were found
pub shown_back : (fs : List H.Frame) → map shown (map framed fs) ≡ fs
shown_back [] = refl
shown_back (f ∷ fs) = ap (◌∷◌ f) (shown_back fs)

-- taking a message of which this is reading's answer
module _ (b : List Sender) (s : List ℕ) (a : Answer) (e : answer_as a ≡ answered (reading no_table s)) where
  pub take_stops : (r : Refusal) → a.said ≡ Err r → refused (number_of r.reason) r.place ≡ taking b s
  take_stops r q = sym (reading_comes_first b s _ r.place (fault_at _ a e r q))

  pub take_goes : (f : Found) → a.said ≡ Ok f → taking_framed b s (map shown a.frames) ≡ taking b s
  take_goes f q =
      let m = found_at _ a e f q in
      let found : a.frames ≡ map framed m.0.frames = ap (λ (y : Answered). y.frames) (e ∙ ap answered m.1) in
      ap (taking_framed b s) (ap (map shown) found ∙ shown_back m.0.frames) ∙ frames_are_enough b s m.0 m.1
