-- The book of senders (02, Ticket 13): a list of places, of which each is free or holds a sender and the last number
-- taken from it.
use Rattle.std.specs.Prelude.{ℕ, zero, suc, Bool, true, false, cond, not, ◌&&◌, List, [], ◌∷◌, length, get_or, set, replicate, leb, ltb, eqb, ℤ, pos}
use Rattle.std.specs.Int.Signed.{lt_z}
use Rattle.sim0mq.specs.Answer.{Answer, fine, ◌>>◌, guard}
use Rattle.sim0mq.specs.Table.{placed}
use Rattle.senders_book.specs.declared.Id.{Id}
use Rattle.senders_book.specs.declared.Sender.{Sender}

-- A sender's id has at most so many value bytes (02, refusal 26).
abbrev pub id_bytes : ℕ
id_bytes = 32

-- A book has so many places (02: up to 32 senders).
abbrev pub book_places : ℕ
book_places = 32

-- A place that is free.
abbrev pub free : Sender
free = record { held = false; number = pos 0; id = record { code = 0; length = 0; bytes = replicate id_bytes 0 } }

-- The book of no sender.
abbrev pub empty_book : List Sender
empty_book = replicate book_places free

-- The id of this type code and these value bytes.
abbrev pub id_of : ℕ → List ℕ → Id
id_of c l = record { code = c; length = length l; bytes = placed (replicate id_bytes 0) 0 l }

-- Are the first n numbers of these two the same?
unfoldable pub alike : ℕ → List ℕ → List ℕ → Bool
alike zero xs ys = true
alike (suc n) xs ys = alike n xs ys && eqb (get_or xs n 0) (get_or ys n 0)

-- Are these the same sender: are type code and value bytes equal? An id that is said to have more bytes than an id may
-- have is nobody's.
unfoldable pub same_id : Id → Id → Bool
same_id x y =
    eqb x.code y.code
    && (eqb x.length y.length && (leb y.length id_bytes && alike y.length x.bytes y.bytes))

-- Does the place e hold this sender? And does it hold another, or none?
unfoldable pub holds : Sender → Id → Bool
holds e id = e.held && same_id e.id id

abbrev pub differs : Sender → Id → Bool
differs e id = not (holds e id)

-- The first place that holds this sender, counted from 0; the number of places where none does.
unfoldable pub place_of : List Sender → Id → ℕ
place_of [] id = 0
place_of (e ∷ es) id = cond (holds e id) 0 (suc (place_of es id))

-- The first place that is free, counted from 0; the number of places where none is.
unfoldable pub free_place : List Sender → ℕ
free_place [] = 0
free_place (e ∷ es) = cond e.held (suc (free_place es)) 0

-- Place i of the book. Past the last there is nothing, and no definition looks there.
abbrev pub nowhere : Sender
nowhere = record { held = false; number = pos 0; id = record { code = 0; length = 0; bytes = [] } }

abbrev pub entry_in : List Sender → ℕ → Sender
entry_in b i = get_or b i nowhere

-- Is this sender held? And the number held: the one in the first place that holds it.
abbrev pub is_held : List Sender → Id → Bool
is_held b id = ltb (place_of b id) (length b)

abbrev pub number_held : List Sender → Id → ℤ
number_held b id = (entry_in b (place_of b id)).number

-- Is a place free?
abbrev pub has_place : List Sender → Bool
has_place b = ltb (free_place b) (length b)

-- The place that a sender is to have for this number, where its sender frame and its number frame stand at these
-- places of the message: its own, if the number is greater than the one held (27); if it is new, the first that is free
-- (28).
unfoldable pub settling : List Sender → Id → ℤ → ℕ → ℕ → Answer ℕ
settling b id number sender numbered =
    cond (is_held b id)
    (guard (lt_z (number_held b id) number) 27 numbered >> fine (place_of b id))
    (guard (has_place b) 28 sender >> fine (free_place b))

-- What closing finds, whether the sender is held, and the book after it.
pub record Closing : Type 0 where
  pub held : Bool
  pub book : List Sender

-- Closing the sender of this type code and these value bytes: its place is free. Closing one that is not held changes
-- nothing.
unfoldable pub closing : List Sender → ℕ → List ℕ → Closing
closing b c l =
    cond (is_held b (id_of c l))
    (record { held = true; book = set b (place_of b (id_of c l)) free })
    (record { held = false; book = b })
