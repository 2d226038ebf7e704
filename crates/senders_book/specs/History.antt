-- What a run of calls can lead to (02, Ticket 13): a history begins with the empty book, and each further call, a
-- message to take or a sender to close, takes the book last handed back, granted or refused. Each promise here is
-- proved in proofs/History.antt.
use Rattle.std.specs.Prelude.{ℕ, ◌≡◌, Bool, true, false, cond, ◌&&◌, ◌↔◌, List, [], ◌∷◌, length, eqb, ℤ}
use Rattle.std.specs.Int.Signed.{lt_z}
use Rattle.sim0mq.specs.Answer.{Answer, fine, refused}
use Rattle.senders_book.specs.declared.Sender.{Sender}
use Rattle.senders_book.specs.Book.{book_places, empty_book, id_of, alike, is_held, number_held, closing}
use Rattle.senders_book.specs.Taking.{Entry, taking, book_after}
use Rattle.senders_book.specs.Promises.{Once}

-- A call: these bytes are to be taken; the sender of this type code and these value bytes is closed.
pub data Call : Type 0 where
  takes : List ℕ → Call
  closes : ℕ → List ℕ → Call

-- What came of it: a message was taken, from the sender of this type code and these value bytes, with this number; a
-- sender was closed, held or not.
pub data Event : Type 0 where
  took : ℕ → List ℕ → ℤ → Event
  shut : ℕ → List ℕ → Event

-- A point of a history: the book last handed back, and what came of all calls, the latest first.
pub record Point : Type 0 where
  pub book : List Sender
  pub events : List Event

abbrev pub start : Point
start = record { book = empty_book; events = [] }

abbrev pub took_by : Answer Entry → List Event → List Event
took_by (fine e) es = took e.stamp.code e.stamp.id e.stamp.number ∷ es
took_by (refused k p) es = es

-- The point after a call, and after calls.
unfoldable pub next : Point → Call → Point
next p (takes s) =
    record { book = book_after p.book (taking p.book s); events = took_by (taking p.book s) p.events }
next p (closes c l) = record { book = (closing p.book c l).book; events = shut c l ∷ p.events }

unfoldable pub after_calls : Point → List Call → Point
after_calls p [] = p
after_calls p (c ∷ cs) = after_calls (next p c) cs

-- The points that the empty book can lead to.
pub data History : Point → Type 0 where
  began : History start
  called : {p : Point} → History p → (c : Call) → History (next p c)

-- Are type code and value bytes equal?
unfoldable pub same_sender : ℕ → List ℕ → ℕ → List ℕ → Bool
same_sender c l d k = eqb c d && (eqb (length l) (length k) && alike (length k) l k)

-- The numbers taken from a sender since it was last closed, the latest first.
unfoldable pub numbers_of : ℕ → List ℕ → List Event → List ℤ
numbers_of c l [] = []
numbers_of c l (took d k n ∷ es) = cond (same_sender c l d k) (n ∷ numbers_of c l es) (numbers_of c l es)
numbers_of c l (shut d k ∷ es) = cond (same_sender c l d k) [] (numbers_of c l es)

-- Each of these is smaller than n.
unfoldable pub Smaller : ℤ → List ℤ → Type 0
Smaller n [] = Unit {0}
Smaller n (m ∷ ms) = (lt_z m n ≡ true) × Smaller n ms

-- Each of these, of which the latest stands first, is greater than all that came before it.
unfoldable pub Rising : List ℤ → Type 0
Rising [] = Unit {0}
Rising (n ∷ ns) = Smaller n ns × Rising ns

-- No sender is held in two places, and the book has 32.
abbrev pub EachSenderOnce : Type 0
EachSenderOnce = (p : Point) → History p → Once p.book × (length p.book ≡ book_places)

-- A sender is not held exactly where no number was taken from it since it was last closed.
abbrev pub HeldWhereTaken : Type 0
HeldWhereTaken =
    (p : Point) → History p → (c : ℕ) (l : List ℕ)
    → (numbers_of c l p.events ≡ []) ↔ (is_held p.book (id_of c l) ≡ false)

-- The numbers taken from a sender since it was last closed rise.
abbrev pub NumbersRise : Type 0
NumbersRise = (p : Point) → History p → (c : ℕ) (l : List ℕ) → Rising (numbers_of c l p.events)

-- The number held is the last taken from the sender since it was last closed, and the greatest: all others are smaller.
abbrev pub NumberIsTheLast : Type 0
NumberIsTheLast =
    (p : Point) → History p → (c : ℕ) (l : List ℕ) (n : ℤ) (ns : List ℤ) → numbers_of c l p.events ≡ n ∷ ns
    → (is_held p.book (id_of c l) ≡ true) × (number_held p.book (id_of c l) ≡ n) × Smaller n ns

-- Is no call of these a closing of this sender?
unfoldable pub keeps : ℕ → List ℕ → List Call → Bool
keeps c l [] = true
keeps c l (takes s ∷ cs) = keeps c l cs
keeps c l (closes d k ∷ cs) = cond (same_sender c l d k) false (keeps c l cs)

-- No message is taken twice without a closing of its sender between: once it was taken, it is refused by 27 at its
-- number frame after any calls that do not close its sender.
abbrev pub NoMessageTwice : Type 0
NoMessageTwice =
    (p : Point) → History p → (s : List ℕ) (e : Entry) (cs : List Call) → taking p.book s ≡ fine e
    → keeps e.stamp.code e.stamp.id cs ≡ true
    → taking (after_calls (next p (takes s)) cs).book s ≡ refused 27 e.stamp.numbered
