-- Examples of recordings: S twice, and what is wrong with it.
use Rattle.std.specs.Prelude.{ℕ, ◌≡◌, refl, take, drop, set}
use mathlib.Core.List.{List, [], ◌∷◌, map, flat_map}
use Rattle.sim0mq.specs.Answer.{Answer, fine, refused, big, not_negative}
use Rattle.sim0mq.specs.Codes.{code_known, counts_of, marking_of, width_of, boolean}
use Rattle.sim0mq.specs.Mark.{kind_of, currency_taken, display_taken, currency, display, mark_rest, mark, marks}
use Rattle.sim0mq.specs.Field.{count, counts, mark_count, head_rest, head, booleans, booleans_of, after, outline, field}
use Rattle.sim0mq.specs.Payload.{payload_from, payload, moved, steps}
use Rattle.sim0mq.specs.Header.{among, status_taken, fields_taken, literal, digit, magic, frame, status, declared, header}
use Rattle.sim0mq.specs.Message.{no_table, limit, enough, message_rest, message}
use Rattle.sim0mq.specs.Examples.{header_of_s, sample}
use Rattle.sim0mq_numbers.specs.Bytes.{big_bytes}
use Rattle.dividing.specs.Run.{total}
use Rattle.recordings_format.specs.Edition.{first, second, edition_in, most_messages, trailer_size}
use Rattle.recordings_format.specs.Text.{index_text, recording_text}
use Rattle.recordings_format.specs.Judge.{trailer_from, trailer, entries_from, Index, index, stretch, stretches_from, roomy, opening, asking}

-- S and S again, their index, and the trailer: 176 bytes.
unfoldable pub twice : List ℕ
unfolding sample header_of_s
twice = recording_text first (sample ∷ sample ∷ [])

-- The same in the second edition, whose entries have 8 bytes: 180 bytes, of which the last two are the edition's.
unfoldable pub twice_long : List ℕ
unfolding sample header_of_s
twice_long = recording_text second (sample ∷ sample ∷ [])

-- What opening comes to: the messages' lengths, or the refusal.
abbrev pub lengths_of : Answer Index → Answer (List ℕ)
lengths_of (fine i) = fine i.lengths
lengths_of (refused k p) = refused k p

-- Its last 22 bytes: the index, and from 166 on the trailer.
pub twice_ends :
    drop 154 twice
    ≡ 0 ∷ 0 ∷ 0 ∷ 0 ∷ 0 ∷ 77 ∷ 0 ∷ 0 ∷ 0 ∷ 77 ∷ 0 ∷ 77 ∷ 0 ∷ 0 ∷ 0 ∷ 154 ∷ 0 ∷ 0 ∷ 0 ∷ 2 ∷ 0 ∷ 1 ∷ []
unfolding twice sample header_of_s index_text big_bytes total flat_map
twice_ends = refl

-- Opened: it, and the recording of no message. No bytes at all; one byte too few; a byte between the messages; the
-- second begins within the first; it is said to be longer; another place of the first entry; an entry less, and one
-- more; an edition that is none. Status 4 in the first message, and in the second. The second edition; and
-- its bytes with the number of the first, and of one that is none.
pub examples_hold :
    map (λ (s : List ℕ). lengths_of (opening no_table s))
    (twice
    ∷ (0 ∷ 0 ∷ 0 ∷ 0 ∷ 0 ∷ 0 ∷ 0 ∷ 0 ∷ 0 ∷ 1 ∷ [])
    ∷ []
    ∷ take 175 twice
    ∷ set twice 163 78
    ∷ set twice 163 76
    ∷ set twice 165 78
    ∷ set twice 169 148
    ∷ set twice 173 1
    ∷ set twice 173 3
    ∷ set twice 175 0
    ∷ set twice 64 4
    ∷ set twice 141 4
    ∷ twice_long
    ∷ set twice_long 179 1
    ∷ set twice_long 179 3
    ∷ [])
    ≡ fine (77 ∷ 77 ∷ [])
    ∷ fine []
    ∷ refused 18 0
    ∷ refused 18 0
    ∷ refused 18 0
    ∷ refused 18 0
    ∷ refused 18 0
    ∷ refused 18 0
    ∷ refused 18 0
    ∷ refused 18 0
    ∷ refused 18 0
    ∷ refused 6 64
    ∷ refused 6 141
    ∷ fine (77 ∷ 77 ∷ [])
    ∷ refused 18 0
    ∷ refused 18 0
    ∷ []
unfolding
    flat_map twice twice_long sample header_of_s index_text big_bytes total edition_in most_messages trailer_size trailer_from trailer entries_from index stretch stretches_from roomy opening
    message message_rest enough limit
    header declared status frame magic digit literal among status_taken fields_taken payload payload_from moved steps
    field outline after booleans booleans_of head head_rest counts count mark_count mark marks mark_rest display currency kind_of currency_taken
    display_taken code_known counts_of marking_of width_of boolean big not_negative
examples_hold = refl

-- Asking judges that message only: the other may be spoilt.
pub asking_examples_hold :
    map (asking (set twice 64 4)) (0 ∷ 1 ∷ 2 ∷ []) ≡ refused 6 64 ∷ fine (record { start = 77; size = 77 }) ∷ refused 16 0 ∷ []
unfolding
    flat_map twice sample header_of_s index_text big_bytes total edition_in most_messages trailer_size trailer_from trailer entries_from index stretch asking
    message message_rest enough limit
    header declared status frame magic digit literal among status_taken fields_taken payload payload_from moved steps
    field outline after booleans booleans_of head head_rest counts count mark_count mark marks mark_rest display currency kind_of currency_taken
    display_taken code_known counts_of marking_of width_of boolean big not_negative
asking_examples_hold = refl
