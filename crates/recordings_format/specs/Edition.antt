-- The editions of a recording (02, Tickets 1 and 9): a row for each. What differs between them is in the row, and all
-- else is said once over it.
use Rattle.std.specs.Prelude.{ℕ, ◌+◌, cond, List, [], ◌∷◌, eqb}
use Rattle.sim0mq.specs.Answer.{Answer, fine, refused}
use Rattle.sim0mq.specs.Message.{limit}

-- The number that the trailer states, the bytes of a length in an entry of the index, and the most bytes that a message
-- has.
pub record Edition : Type 0 where
  pub number : ℕ
  pub length_bytes : ℕ
  pub most : ℕ

-- Edition 1 (Ticket 1): a length has two bytes; the most bytes are those of 01, refusal 8.
abbrev pub first : Edition
first = record { number = 1; length_bytes = 2; most = 32768 }

-- Edition 2 (Ticket 9): a length has four; the most bytes are those of a message.
abbrev pub second : Edition
second = record { number = 2; length_bytes = 4; most = limit }

-- The one that is written.
abbrev pub newest : Edition
newest = second

abbrev pub editions : List Edition
editions = first ∷ second ∷ []

-- e is one of these.
pub data Listed (e : Edition) : List Edition → Type 0 where
  here : {es : List Edition} → Listed e (e ∷ es)
  later : {f : Edition} {es : List Edition} → Listed e es → Listed e (f ∷ es)

-- The edition of this number among these; 18 where there is none.
unfoldable pub edition_in : List Edition → ℕ → Answer Edition
edition_in [] n = refused 18 0
edition_in (e ∷ es) n = cond (eqb n e.number) (fine e) (edition_in es n)

abbrev pub edition_of : ℕ → Answer Edition
edition_of n = edition_in editions n

-- A recording has at most so many messages.
unfoldable pub most_messages : ℕ
most_messages = 4096

-- The bytes of an entry: a start in 4, and a length. The bytes of the trailer: the place of the first entry in 4, the
-- number of entries in 4, the edition in 2.
abbrev pub entry_size : Edition → ℕ
entry_size e = 4 + e.length_bytes

unfoldable pub trailer_size : ℕ
trailer_size = 10
