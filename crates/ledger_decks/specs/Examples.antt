-- Examples of mustering. In each message the run and the receiver are empty, the sender is the string A, at 15, the
-- type stands at 26, the number at 36, the status at 45, and the fields begin at 49.
use Rattle.std.specs.Prelude.{ℕ, ◌≡◌, refl, List, [], ◌∷◌, ◌++◌, map, set, pos}
use Rattle.sim0mq.specs.Answer.{Answer, fine, refused, big, not_negative}
use Rattle.sim0mq.specs.Codes.{code_known, counts_of, marking_of, width_of, boolean}
use Rattle.sim0mq.specs.Mark.{marks}
use Rattle.sim0mq.specs.Field.{
  count,
  counts,
  mark_count,
  head_rest,
  head,
  booleans,
  booleans_of,
  after,
  outline,
  field,
}
use Rattle.sim0mq.specs.Payload.{payload_from, payload, moved, steps}
use Rattle.sim0mq.specs.Header.{
  among,
  status_taken,
  fields_taken,
  literal,
  digit,
  magic,
  frame,
  status,
  declared,
  header,
}
use Rattle.sim0mq.specs.Message.{limit, enough, message_rest, message, reading}
use Rattle.sim0mq.specs.Table.{placed}
use Rattle.sim0mq_numbers.specs.Numbers.{number_at}
use Rattle.sim0mq_signed.specs.Signed.{twos}
use Rattle.asking.specs.Asking.{nth}
use Rattle.senders_book.specs.declared.Sender.{Sender}
use Rattle.senders_book.specs.Book.{empty_book, alike, same_id, holds, place_of, free_place, settling}
use Rattle.senders_book.specs.Taking.{stamped, frame_place, stamp_at, stamping, taking_framed, taking, holding}
use Rattle.ledger_decks.specs.Decks.{no_heads, decks_after}
use Rattle.ledger_decks.specs.Mustering.{
  is_muster,
  fields_for,
  joining,
  moving,
  leaving,
  deed_of,
  deed_for,
  ordering_at,
  ordering,
  Order,
  mustering,
  book_mustered,
}

-- A message with this type frame, number and status, and these bytes from the number of fields on.
abbrev pub message_with : List ℕ → ℕ → ℕ → List ℕ → List ℕ
message_with kind number status rest =
    (9 ∷ 0 ∷ 0 ∷ 0 ∷ 5 ∷ 83 ∷ 73 ∷ 77 ∷ 48 ∷ 49 ∷ 9 ∷ 0 ∷ 0 ∷ 0 ∷ 0 ∷ 9 ∷ 0 ∷ 0 ∷ 0 ∷ 1 ∷ 65 ∷ 9 ∷ 0 ∷ 0 ∷ 0 ∷ 0 ∷ [])
    ++ (kind ++ (3 ∷ 0 ∷ 0 ∷ 0 ∷ 0 ∷ 0 ∷ 0 ∷ 0 ∷ number ∷ 0 ∷ status ∷ 0 ∷ rest))

-- The type MUS.1; and messages of it with the number 6: new, change and delete.
abbrev pub mus1 : List ℕ
mus1 = 9 ∷ 0 ∷ 0 ∷ 0 ∷ 5 ∷ 77 ∷ 85 ∷ 83 ∷ 46 ∷ 49 ∷ []

abbrev pub new_to : ℕ → List ℕ
new_to joined = message_with mus1 6 1 (1 ∷ 0 ∷ joined ∷ [])

abbrev pub change_to : ℕ → ℕ → List ℕ
change_to joined left = message_with mus1 6 2 (2 ∷ 0 ∷ joined ∷ 0 ∷ left ∷ [])

abbrev pub delete_from : ℕ → List ℕ
delete_from left = message_with mus1 6 3 (1 ∷ 0 ∷ left ∷ [])

-- The decks that mustering gives, or the refusal.
abbrev pub decks_given : List ℕ → Answer Order → Answer (List ℕ)
decks_given decks (fine o) = fine (decks_after decks o.deed)
decks_given decks (refused k p) = refused k p

-- A message that is mustered, with the heads on the decks and the book before it; and what that gives.
pub record Example : Type 0 where
  pub decks : List ℕ
  pub book : List Sender
  pub message : List ℕ
  pub gives : Answer (List ℕ)

-- One head on deck d, and none elsewhere; deck d full, and no head elsewhere.
abbrev pub one : ℕ → List ℕ
one d = set no_heads d 1

abbrev pub full : ℕ → List ℕ
full d = set no_heads d 65535

-- The book that holds the sender A with the number n.
abbrev pub held : ℕ → List Sender
held n = set empty_book 0 (holding (stamped 0 0 9 (65 ∷ []) (pos n)))

-- A message is tried where the number held is smaller than its own; and again, where it is held already.
abbrev pub try : List ℕ → List ℕ → Answer (List ℕ) → Example
try decks message gives = record { decks = decks; book = held 5; message = message; gives = gives }

abbrev pub again : List ℕ → List ℕ → Answer (List ℕ) → Example
again decks message gives = record { decks = decks; book = held 6; message = message; gives = gives }

-- New, change and delete that are applied, at both ends of the decks and of what a deck holds.
unfoldable pub applied : List Example
applied =
    try no_heads (new_to 0) (fine (one 0))
    ∷ try no_heads (new_to 15) (fine (one 15))
    ∷ try (set no_heads 7 65534) (new_to 7) (fine (full 7))
    ∷ try (one 7) (change_to 3 7) (fine (one 3))
    ∷ try (set (full 7) 3 65534) (change_to 3 7) (fine (set (full 3) 7 65534))
    ∷ try (one 7) (change_to 7 7) (fine (one 7))
    ∷ try (full 7) (change_to 7 7) (fine (full 7))
    ∷ try (one 15) (delete_from 15) (fine no_heads)
    ∷ try (full 0) (delete_from 0) (fine (set no_heads 0 65534))
    ∷ []

-- Those that are refused, in the order in which they are judged: by reading, by the type, by the number of fields, by a
-- field's code, by a deck, by the deck left, by the deck joined, and then by the book.
unfoldable pub turned_away : List Example
turned_away =
    try no_heads (message_with mus1 6 4 []) (refused 6 46)
    ∷ try no_heads (message_with (set mus1 9 50) 6 2 (1 ∷ 6 ∷ 1 ∷ [])) (refused 20 26)
    ∷ try no_heads (message_with (9 ∷ 0 ∷ 0 ∷ 0 ∷ 6 ∷ 77 ∷ 85 ∷ 83 ∷ 46 ∷ 49 ∷ 49 ∷ []) 6 1 (1 ∷ 0 ∷ 0 ∷ []))
    (refused 20 26)
    ∷ try no_heads
    (message_with (10 ∷ 0 ∷ 0 ∷ 0 ∷ 5 ∷ 0 ∷ 77 ∷ 0 ∷ 85 ∷ 0 ∷ 83 ∷ 0 ∷ 46 ∷ 0 ∷ 49 ∷ []) 6 1 (1 ∷ 0 ∷ 0 ∷ []))
    (refused 20 26)
    ∷ try no_heads (message_with mus1 6 1 (2 ∷ 6 ∷ 1 ∷ 0 ∷ 1 ∷ [])) (refused 21 26)
    ∷ try no_heads (message_with mus1 6 2 (1 ∷ 6 ∷ 1 ∷ [])) (refused 21 26)
    ∷ try no_heads (message_with mus1 6 3 (0 ∷ [])) (refused 21 26)
    ∷ try no_heads (message_with mus1 6 1 (1 ∷ 6 ∷ 1 ∷ [])) (refused 22 49)
    ∷ try no_heads (message_with mus1 6 2 (2 ∷ 6 ∷ 1 ∷ 6 ∷ 1 ∷ [])) (refused 22 49)
    ∷ try no_heads (message_with mus1 6 2 (2 ∷ 0 ∷ 16 ∷ 6 ∷ 1 ∷ [])) (refused 22 51)
    ∷ try no_heads (new_to 16) (refused 29 49)
    ∷ try no_heads (delete_from 16) (refused 29 49)
    ∷ try no_heads (change_to 16 16) (refused 29 49)
    ∷ try no_heads (change_to 15 16) (refused 29 51)
    ∷ try no_heads (change_to 16 7) (refused 29 49)
    ∷ try (one 6) (delete_from 7) (refused 30 49)
    ∷ try (one 3) (change_to 3 7) (refused 30 51)
    ∷ try no_heads (change_to 7 7) (refused 30 51)
    ∷ try (full 3) (change_to 3 7) (refused 30 51)
    ∷ try (full 7) (new_to 7) (refused 31 49)
    ∷ try (set (full 3) 7 1) (change_to 3 7) (refused 31 49)
    ∷ again (full 7) (new_to 7) (refused 31 49)
    ∷ again no_heads (new_to 7) (refused 27 36)
    ∷ []

abbrev pub outcome : Example → Answer (List ℕ)
outcome e = decks_given e.decks (mustering e.decks e.book e.message)

-- Each example comes to what it gives; and a message that is applied puts its number into the book, while one that is
-- refused leaves the book as it was.
pub examples_hold :
    (map outcome (applied ++ turned_away) ≡ map (λ (e : Example). e.gives) (applied ++ turned_away))
    × (map (λ (s : List ℕ). book_mustered (held 5) (mustering no_heads (held 5) s)) (new_to 7 ∷ delete_from 7 ∷ [])
    ≡ held 6 ∷ held 5 ∷ [])
unfolding
    applied turned_away decks_after is_muster fields_for joining moving leaving deed_of deed_for ordering_at ordering mustering
    nth alike same_id holds place_of free_place settling frame_place stamp_at stamping taking_framed taking placed number_at
    twos reading message message_rest enough limit
    header declared status frame magic digit literal among status_taken fields_taken payload payload_from moved steps
    field outline after booleans booleans_of head head_rest counts count mark_count marks code_known counts_of marking_of
    width_of boolean big not_negative
examples_hold = (refl, refl)
