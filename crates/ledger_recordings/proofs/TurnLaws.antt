-- What came of one message: where it is not accepted the run stops, and where it is, what mustering it by its frames
-- gives is what mustering it gives.
use Prim.Native.Nat.{ℕ, ◌+◌, ◌-◌, ◌≤◌, ◌<◌}
use mathlib.Core.Path.{◌≡◌, refl, ap, sym, ◌∙◌}
use mathlib.Core.List.{List, map}
use native.Mathlib.Omega.{arith}
use lib.ListN.{length, take, drop}
use mir.Val.{bool_byte}
use Rattle.sim0mq.specs.Answer as S
use Rattle.sim0mq.specs.Answer.{fine, refused}
use Rattle.sim0mq.specs.Message as M
use Rattle.sim0mq.specs.Message.{limit, no_table, reading}
use Rattle.sim0mq.specs.declared.Refusal.{Refusal}
use Rattle.std.specs.Prelude.{Result, Ok, Err}
use Rattle.std.specs.Result.{IsErrAnd, is_ok}
use Rattle.sim0mq.specs.Views.{number_of, judged}
use Rattle.sim0mq.proofs.Answers.{not_fine}
use Rattle.reading_header.specs.Frames.{shown}
use Rattle.reading.specs.declared.Answer.{Answer}
use Rattle.reading.specs.declared.Found.{Found}
use Rattle.reading.specs.Answers.{Answered, answer_as, answered}
use Rattle.reading.proofs.SaidLaws.{found_at}
use Rattle.recordings_format.specs.Judge.{stretch}
use Rattle.recordings.specs.Recordings.{size_of}
use Rattle.recordings.proofs.StretchCases.{stretch_over, stretch-accepted, stretch-refused}
use Rattle.senders_book.specs.declared.Sender.{Sender}
use Rattle.senders_book.specs.declared.Book.{Book}
use Rattle.ledger_decks.specs.declared.Ledger.{Ledger}
use Rattle.ledger_decks.specs.Mustering.{Order, mustering, mustering_framed}
use Rattle.senders.proofs.CallCases.{shown_back}
use Rattle.ledger_decks.proofs.Promises.{frames_are_enough}
use Rattle.ledger.specs.Ledger.{emptied, MusteredAs, after_mustering}
use Rattle.ledger_recordings.specs.Reckoning.{Comes, reckoned_as, opened_as, applied_as, turned}
use Rattle.ledger_recordings.specs.declared.Reckoned.{Reckoned}

-- the refusal, with the empty ledger beside it
pub refused_with : (k p : ℕ) (l : Ledger) → l ≡ emptied
    → ◌≡◌ {A = Comes} (record { said = refused k p; refused = 0; ledger = l }) (reckoned_as (refused k p))
refused_with k p l e = λ i. record { said = refused k p; refused = 0; ledger = e i }

-- the refusal that a `?` hands on
pub opened_on : (r : Result Reckoned Refusal) (e : Refusal) → IsErrAnd r (λ y. y ≡ e)
    → opened_as r ≡ reckoned_as (refused (number_of e.reason) e.place)
opened_on (Ok a) e h = absurd h
opened_on (Err y) e h = ap (λ (z : Refusal). reckoned_as (refused (number_of z.reason) z.place)) h

-- what mustering said: a place in the book is a message applied, and a refusal one passed over
pub one_applied : (l : Ledger) (b : Book) (o : S.Answer Order) (j : Result ℕ Refusal) → judged j ≡ (after_mustering l b o).said
    → bool_byte (is_ok j) ≡ applied_as o
one_applied l b (fine o) (Ok i) e = refl
one_applied l b (fine o) (Err r) e = absurd (not_fine e)
one_applied l b (refused k p) (Ok i) e = absurd (not_fine (sym e))
one_applied l b (refused k p) (Err r) e = refl

-- the length of a message that was judged tells whether it is accepted
pub refused_is : (a : S.Answer M.Reading) (k p : ℕ) → refused k p ≡ size_of a → a ≡ refused k p
refused_is (fine m) k p q = absurd (not_fine q)
refused_is (refused j v) k p q = cc

pub fine_is : (a : S.Answer M.Reading) (n : ℕ) → fine n ≡ size_of a → (m : M.Reading) × (a ≡ fine m)
fine_is (fine m) n q = (m, refl)
fine_is (refused j v) n q = absurd (not_fine (sym q))

module _ (l : Ledger) (b : Book) (a : S.Answer M.Reading) (o : S.Answer Order) where
  turn_stops : (k p : ℕ) → refused k p ≡ size_of a → refused k p ≡ turned l b a o
  unfolding turned
  turn_stops k p q = sym (ap (λ (x : S.Answer M.Reading). turned l b x o) (refused_is a k p q))

  turn_goes : (n : ℕ) → fine n ≡ size_of a → (x : S.Answer Order) → x ≡ o → fine (after_mustering l b x) ≡ turned l b a o
  unfolding turned
  turn_goes n q x e =
      let m = fine_is a n q in
      ap (λ (y : S.Answer Order). fine (after_mustering l b y)) e
      ∙ sym (ap (λ (y : S.Answer M.Reading). turned l b y o) m.1)

-- by what reading found of a message, mustering by frames is mustering it
framed_part : (decks : List ℕ) (b : List Sender) (s : List ℕ) (at n : ℕ) (a : Answer) (f : Found)
    → answer_as a ≡ answered (reading no_table (take (at + n - at) (drop at s))) → a.said ≡ Ok f
    → mustering_framed decks b (take (at + n - at) (drop at s)) (map shown a.frames) f.fields
    ≡ mustering decks b (take n (drop at s))
framed_part decks b s at n a f e g =
    let part = take (at + n - at) (drop at s) in
    let found = found_at (reading no_table part) a e f g in
    let m = found.0 in
    let frames : map shown a.frames ≡ m.frames
    = ap (λ (x : Answered). map shown x.frames) (e ∙ ap answered found.1) ∙ shown_back m.frames in
    let fields : f.fields ≡ length m.fields = ap (λ (x : Found). x.fields) (sym found.2) in
    let whole : at + n - at ≡ n = omega arith in
    (λ i. mustering_framed decks b part (frames i) (fields i))
    ∙ frames_are_enough decks b part m found.1
    ∙ ap (λ (j : ℕ). mustering decks b (take j (drop at s))) whole

-- the part that is read, and what comes of it
module _ (l : Ledger) (b : Book) (most : ℕ) (s : List ℕ) (at n : ℕ) (asked : (at + n ≤ length s) × (most ≤ limit)) where
  abbrev order : S.Answer Order
  order = mustering l.heads b.senders (take n (drop at s))

  abbrev came : S.Answer MusteredAs → Type 0
  came r = r ≡ turned l b (stretch most s at n) order

  pub part_over : most < n → came (refused 8 at)
  part_over h = turn_stops l b (stretch most s at n) order 8 at (stretch_over most s at n asked h)

  module _ (fits : n ≤ most) (a : Answer) (told : answer_as a ≡ answered (reading no_table (take (at + n - at) (drop at s)))) where
    pub part-refused : (r : Refusal) → a.said ≡ Err r → came (refused (number_of r.reason) (at + r.place))
    part-refused r e =
        turn_stops l b (stretch most s at n) order (number_of r.reason) (at + r.place)
        (stretch-refused most s at n asked fits a told r e)

    pub part-accepted : (f : Found) → a.said ≡ Ok f
        → came
        (fine
        (after_mustering l b
        (mustering_framed l.heads b.senders (take (at + n - at) (drop at s)) (map shown a.frames) f.fields)))
    part-accepted f e =
        turn_goes l b (stretch most s at n) order f.length (stretch-accepted most s at n asked fits a told f e) _
        (framed_part l.heads b.senders s at n a f told e)
