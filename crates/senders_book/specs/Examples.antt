-- Examples of the book, with S the message of 000, section 2.3.6: its sender, the string MC.1, stands at 24, and its
-- number, 124, at 54.
use Rattle.std.specs.Prelude.{ℕ, ◌≡◌, refl, List, [], ◌∷◌, ◌++◌, map, take, drop, set, replicate, pos}
use Rattle.sim0mq.specs.Answer.{Answer, fine, refused, big, not_negative}
use Rattle.sim0mq.specs.Codes.{code_known, counts_of, marking_of, width_of, boolean}
use Rattle.sim0mq.specs.Mark.{marks}
use Rattle.sim0mq.specs.Field.{
  count,
  counts,
  mark_count,
  head_rest,
  head,
  booleans,
  booleans_of,
  after,
  outline,
  field,
}
use Rattle.sim0mq.specs.Payload.{payload_from, payload, moved, steps}
use Rattle.sim0mq.specs.Header.{
  among,
  status_taken,
  fields_taken,
  literal,
  digit,
  magic,
  frame,
  status,
  declared,
  header,
}
use Rattle.sim0mq.specs.Message.{limit, enough, message_rest, message, reading}
use Rattle.sim0mq.specs.Table.{placed}
use Rattle.sim0mq.specs.Examples.{header_of_s, sample}
use Rattle.sim0mq_numbers.specs.Numbers.{number_at}
use Rattle.sim0mq_signed.specs.Signed.{twos}
use Rattle.senders_book.specs.declared.Sender.{Sender}
use Rattle.senders_book.specs.Book.{
  empty_book,
  alike,
  same_id,
  holds,
  place_of,
  free_place,
  settling,
  closing,
}
use Rattle.senders_book.specs.Taking.{
  stamped,
  frame_place,
  stamp_at,
  Entry,
  stamping,
  taking_framed,
  taking,
  holding,
  book_after,
}

-- The place that taking gives, or the refusal.
abbrev pub place_taken : Answer Entry → Answer ℕ
place_taken (fine e) = fine e.place
place_taken (refused k p) = refused k p

-- S; with the number 125; with −1, which is smaller; from MC.2; as 16-bit characters, from another sender; from a
-- sender of 33 bytes; and with the status 4, which reading refuses.
unfoldable pub messages : List (List ℕ)
unfolding sample header_of_s
messages =
    sample
    ∷ set sample 62 125
    ∷ (take 55 sample ++ (replicate 8 255 ++ drop 63 sample))
    ∷ set sample 32 50
    ∷ (take 24 sample ++ (10 ∷ 0 ∷ 0 ∷ 0 ∷ 2 ∷ drop 29 sample))
    ∷ (take 24 sample ++ (9 ∷ 0 ∷ 0 ∷ 0 ∷ 33 ∷ (replicate 33 65 ++ drop 33 sample)))
    ∷ set sample 64 4
    ∷ []

-- The book that S was taken into; and one of 32 other senders.
unfoldable pub once : List Sender
unfolding sample header_of_s
once = book_after empty_book (taking empty_book sample)

unfoldable pub full : List Sender
full = map (λ (i : ℕ). holding (stamped 0 0 9 (i ∷ []) (pos 5)))
    (0 ∷ 1 ∷ 2 ∷ 3 ∷ 4 ∷ 5 ∷ 6 ∷ 7 ∷ 8 ∷ 9 ∷ 10 ∷ 11 ∷ 12 ∷ 13 ∷ 14 ∷ 15 ∷ 16 ∷ 17 ∷ 18 ∷ 19 ∷ 20 ∷ 21 ∷ 22 ∷ 23
    ∷ 24 ∷ 25 ∷ 26 ∷ 27 ∷ 28 ∷ 29 ∷ 30 ∷ 31 ∷ [])

-- Each message into the empty book; into the one with S in it; into that one with S closed; into the full book; and
-- into the full book with sender 7 closed, whose place is used again.
pub examples_hold :
    map (λ (b : List Sender). map (λ (s : List ℕ). place_taken (taking b s)) messages)
    (empty_book
    ∷ once
    ∷ (closing once 9 (77 ∷ 67 ∷ 46 ∷ 49 ∷ [])).book
    ∷ full
    ∷ (closing full 9 (7 ∷ [])).book
    ∷ [])
    ≡ (fine 0 ∷ fine 0 ∷ fine 0 ∷ fine 0 ∷ fine 0 ∷ refused 26 24 ∷ refused 6 64 ∷ [])
    ∷ (refused 27 54 ∷ fine 0 ∷ refused 27 54 ∷ fine 1 ∷ fine 1 ∷ refused 26 24 ∷ refused 6 64 ∷ [])
    ∷ (fine 0 ∷ fine 0 ∷ fine 0 ∷ fine 0 ∷ fine 0 ∷ refused 26 24 ∷ refused 6 64 ∷ [])
    ∷ (refused 28 24 ∷ refused 28 24 ∷ refused 28 24 ∷ refused 28 24 ∷ refused 28 24 ∷ refused 26 24 ∷ refused 6 64
    ∷ [])
    ∷ (fine 7 ∷ fine 7 ∷ fine 7 ∷ fine 7 ∷ fine 7 ∷ refused 26 24 ∷ refused 6 64 ∷ [])
    ∷ []
unfolding
    messages once full sample header_of_s alike same_id holds place_of free_place settling closing
    frame_place stamp_at stamping taking_framed taking placed number_at twos
    reading message message_rest enough limit
    header declared status frame magic digit literal among status_taken fields_taken payload payload_from moved steps
    field outline after booleans booleans_of head head_rest counts count mark_count marks code_known counts_of marking_of
    width_of boolean big not_negative
examples_hold = refl
