-- A refusal that a `?` hands on is the one that it met, whatever value was asked for.
use Rattle.std.proofs.Common.{◌≡◌, refl, sym, ap, ◌∙◌, ◌-◌, [], ◌∷◌, get_or}
use Rattle.std.specs.Prelude.{ℕ, Result, Ok, Err}
use Rattle.std.specs.Result.{IsErrAnd}
use Rattle.sim0mq.specs.declared.Reason.{Reason}
use Rattle.sim0mq.specs.declared.Reason.TheVariants.{BytesEnd, Frame0, Edition, FrameType, NegativeCount, Status, TooManyFields, TooLong, NoSuchCode, Boolean, UnitType, Display, BytesLeft, TooShort, State, NoSuchItem, Kind, Trailer, Currency, MessageType, FieldCount, FieldCode, Text, Pair, NotFinite, IdTooLong, NumberNotGreater, BookFull, NoSuchDeck, NoHead, DeckFull}
use Rattle.sim0mq.specs.declared.Refusal.{Refusal}
use Rattle.sim0mq.specs.Answer.{refused}
use Rattle.sim0mq.specs.Views.{number_of, said_as}
use Rattle.sim0mq.proofs.Answers.{fine_eq, not_fine}

pub handed_on : {A B : Type 0} (f : A → B) (r : Result A Refusal) (e : Refusal) → IsErrAnd r (λ y. y ≡ e)
    → said_as f r ≡ refused (number_of e.reason) e.place
handed_on f (Ok a) e h = absurd h
handed_on f (Err y) e h = ap (λ (z : Refusal). refused (number_of z.reason) z.place) h

-- Each reason has a number of its own, since the number finds it in their list.
reason_of : ℕ → Reason
reason_of n = get_or (BytesEnd ∷ Frame0 ∷ Edition ∷ FrameType ∷ NegativeCount ∷ Status ∷ TooManyFields ∷ TooLong ∷ NoSuchCode ∷ Boolean ∷ UnitType ∷ Display ∷ BytesLeft ∷ TooShort ∷ State ∷ NoSuchItem ∷ Kind ∷ Trailer ∷ Currency ∷ MessageType ∷ FieldCount ∷ FieldCode ∷ Text ∷ Pair ∷ NotFinite ∷ IdTooLong ∷ NumberNotGreater ∷ BookFull ∷ NoSuchDeck ∷ NoHead ∷ DeckFull ∷ []) (n - 1) BytesEnd

reason_back : (r : Reason) → reason_of (number_of r) ≡ r
unfolding reason_of
reason_back BytesEnd = refl
reason_back Frame0 = refl
reason_back Edition = refl
reason_back FrameType = refl
reason_back NegativeCount = refl
reason_back Status = refl
reason_back TooManyFields = refl
reason_back TooLong = refl
reason_back NoSuchCode = refl
reason_back Boolean = refl
reason_back UnitType = refl
reason_back Display = refl
reason_back BytesLeft = refl
reason_back TooShort = refl
reason_back State = refl
reason_back NoSuchItem = refl
reason_back Kind = refl
reason_back Trailer = refl
reason_back Currency = refl
reason_back MessageType = refl
reason_back FieldCount = refl
reason_back FieldCode = refl
reason_back Text = refl
reason_back Pair = refl
reason_back NotFinite = refl
reason_back IdTooLong = refl
reason_back NumberNotGreater = refl
reason_back BookFull = refl
reason_back NoSuchDeck = refl
reason_back NoHead = refl
reason_back DeckFull = refl

pub number_apart : (r s : Reason) → number_of r ≡ number_of s → r ≡ s
number_apart r s e = sym (reason_back r) ∙ ap reason_of e ∙ reason_back s

-- So an answer of the code is told by what it says in the words of the definitions.
pub said_apart : {A B : Type 0} (f : A → B) → ((x y : A) → f x ≡ f y → x ≡ y) → (r s : Result A Refusal) → said_as f r ≡ said_as f s → r ≡ s
said_apart f apart (Ok x) (Ok y) e = ap Ok (apart x y (fine_eq e))
said_apart f apart (Ok x) (Err s) e = absurd (not_fine (sym e))
said_apart f apart (Err r) (Ok y) e = absurd (not_fine e)
said_apart f apart (Err r) (Err s) e =
    let number : number_of r.reason ≡ number_of s.reason = cc in
    let place : r.place ≡ s.place = cc in
    λ i. Err (record { place = place i; reason = number_apart r.reason s.reason number i })
