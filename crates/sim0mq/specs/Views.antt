-- What the answers of the code say, in document 01's numbers: each case of an answer, as an answer of the definitions.
use Rattle.std.specs.Prelude.{ℕ, Result, Ok, Err}
use Rattle.sim0mq.specs.declared.Reason.{Reason}
use Rattle.sim0mq.specs.declared.Reason.TheVariants.{BytesEnd, Frame0, Edition, FrameType, NegativeCount, Status, TooManyFields, TooLong, NoSuchCode, Boolean, UnitType, Display, BytesLeft, TooShort, State, NoSuchItem, Kind, Trailer, Currency, MessageType, FieldCount, FieldCode, Text, Pair, NotFinite, IdTooLong, NumberNotGreater, BookFull, NoSuchDeck, NoHead, DeckFull}
use Rattle.sim0mq.specs.declared.Refusal.{Refusal}
use Rattle.sim0mq.specs.Answer.{Answer, fine, refused}

-- The number of each reason (01, "Refusals and their places"; 02 for 18 to 31).
abbrev pub number_of : Reason → ℕ
number_of BytesEnd = 1
number_of Frame0 = 2
number_of Edition = 3
number_of FrameType = 4
number_of NegativeCount = 5
number_of Status = 6
number_of TooManyFields = 7
number_of TooLong = 8
number_of NoSuchCode = 9
number_of Boolean = 10
number_of UnitType = 11
number_of Display = 12
number_of BytesLeft = 13
number_of TooShort = 14
number_of State = 15
number_of NoSuchItem = 16
number_of Kind = 17
number_of Trailer = 18
number_of Currency = 19
number_of MessageType = 20
number_of FieldCount = 21
number_of FieldCode = 22
number_of Text = 23
number_of Pair = 24
number_of NotFinite = 25
number_of IdTooLong = 26
number_of NumberNotGreater = 27
number_of BookFull = 28
number_of NoSuchDeck = 29
number_of NoHead = 30
number_of DeckFull = 31

-- A value as the definitions have it, or the refusal.
abbrev pub said_as : {A B : Type 0} → (A → B) → Result A Refusal → Answer B
said_as f (Ok a) = fine (f a)
said_as f (Err r) = refused (number_of r.reason) r.place

-- A number, or the refusal.
abbrev pub judged : Result ℕ Refusal → Answer ℕ
judged r = said_as (λ n. n) r
