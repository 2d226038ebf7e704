-- A reason is known by its number: a row of all of them has each at its number.
use Prim.Native.Nat.{ℕ}
use mathlib.Core.Path.{◌≡◌, refl, sym, ap, ◌∙◌}
use mathlib.Core.List.{List, [], ◌∷◌}
use lib.ListN.{get_or}
use Rattle.sim0mq.specs.declared.Reason.{Reason}
use Rattle.sim0mq.specs.declared.Reason.TheVariants.{BytesEnd, Frame0, Edition, FrameType, NegativeCount, Status, TooManyFields, TooLong, NoSuchCode, Boolean, UnitType, Display, BytesLeft, TooShort, State, NoSuchItem, Kind, Trailer, Currency, MessageType, FieldCount, FieldCode, Text, Pair, NotFinite, IdTooLong, NumberNotGreater, BookFull, NoSuchDeck, NoHead, DeckFull}
use Rattle.sim0mq.specs.Views.{number_of}

abbrev reasons : List Reason
reasons =
    BytesEnd ∷ BytesEnd ∷ Frame0 ∷ Edition ∷ FrameType ∷ NegativeCount ∷ Status ∷ TooManyFields ∷ TooLong ∷ NoSuchCode
    ∷ Boolean ∷ UnitType ∷ Display ∷ BytesLeft ∷ TooShort ∷ State ∷ NoSuchItem ∷ Kind ∷ Trailer ∷ Currency ∷ MessageType
    ∷ FieldCount ∷ FieldCode ∷ Text ∷ Pair ∷ NotFinite ∷ IdTooLong ∷ NumberNotGreater ∷ BookFull ∷ NoSuchDeck ∷ NoHead
    ∷ DeckFull ∷ []

at_number : (r : Reason) → get_or reasons (number_of r) BytesEnd ≡ r
at_number BytesEnd = refl
at_number Frame0 = refl
at_number Edition = refl
at_number FrameType = refl
at_number NegativeCount = refl
at_number Status = refl
at_number TooManyFields = refl
at_number TooLong = refl
at_number NoSuchCode = refl
at_number Boolean = refl
at_number UnitType = refl
at_number Display = refl
at_number BytesLeft = refl
at_number TooShort = refl
at_number State = refl
at_number NoSuchItem = refl
at_number Kind = refl
at_number Trailer = refl
at_number Currency = refl
at_number MessageType = refl
at_number FieldCount = refl
at_number FieldCode = refl
at_number Text = refl
at_number Pair = refl
at_number NotFinite = refl
at_number IdTooLong = refl
at_number NumberNotGreater = refl
at_number BookFull = refl
at_number NoSuchDeck = refl
at_number NoHead = refl
at_number DeckFull = refl

pub same_reason : (a b : Reason) → number_of a ≡ number_of b → a ≡ b
same_reason a b e = sym (at_number a) ∙ ap (λ (n : ℕ). get_or reasons n BytesEnd) e ∙ at_number b
