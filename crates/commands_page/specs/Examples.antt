-- Messages of some commands, right and wrong, and what the definitions say of them.
use Rattle.std.specs.Prelude.{ℕ, ◌≡◌, refl, List, [], ◌∷◌, ◌++◌, map}
use Rattle.sim0mq.specs.Answer.{Answer, fine, refused, big, not_negative}
use Rattle.sim0mq.specs.Codes.{code_known, counts_of, marking_of, width_of, boolean}
use Rattle.sim0mq.specs.Mark.{kind_of, currency_taken, display_taken, currency, display, mark_rest, mark, marks}
use Rattle.sim0mq.specs.Field.{count, counts, mark_count, head_rest, head, booleans, booleans_of, after, outline, field}
use Rattle.sim0mq.specs.Payload.{payload_from, payload, moved}
use Rattle.sim0mq.specs.Header.{among, status_taken, fields_taken, literal, digit, magic, frame, status, declared, header}
use Rattle.sim0mq.specs.Message.{limit, enough, message_rest, message, reading}
use Rattle.commands_page.specs.Page.{page, row_at}
use Rattle.commands_page.specs.Judging.{stands_at, is_word, is_one_of, code_taken, text_taken, want_in, passes, each, turns_right, number_right, number_from, fields_right, row_right, command_of, commanded}

-- A message of 9 0 0 0 5 SIM01, empty ids, this type id, number 7, this status and this many fields. The type frame is
-- at 25.
abbrev sent : List ℕ → ℕ → ℕ → List ℕ → List ℕ
sent id st n fields =
    9 ∷ 0 ∷ 0 ∷ 0 ∷ 5 ∷ 83 ∷ 73 ∷ 77 ∷ 48 ∷ 49
    ∷ 9 ∷ 0 ∷ 0 ∷ 0 ∷ 0
    ∷ 9 ∷ 0 ∷ 0 ∷ 0 ∷ 0
    ∷ 9 ∷ 0 ∷ 0 ∷ 0 ∷ 0
    ∷ 9 ∷ 0 ∷ 0 ∷ 0 ∷ 4 ∷ (id
    ++ (3 ∷ 0 ∷ 0 ∷ 0 ∷ 0 ∷ 0 ∷ 0 ∷ 0 ∷ 7
    ∷ 0 ∷ st
    ∷ 0 ∷ n
    ∷ fields))

abbrev a_long : List ℕ
a_long = 3 ∷ 0 ∷ 0 ∷ 0 ∷ 0 ∷ 0 ∷ 0 ∷ 0 ∷ 1 ∷ []

abbrev empty : List ℕ
empty = 9 ∷ 0 ∷ 0 ∷ 0 ∷ 0 ∷ []

abbrev ended : List ℕ
ended = 9 ∷ 0 ∷ 0 ∷ 0 ∷ 5 ∷ 101 ∷ 110 ∷ 100 ∷ 101 ∷ 100 ∷ []

abbrev an_int : ℕ → List ℕ
an_int n = 2 ∷ 0 ∷ 0 ∷ 0 ∷ n ∷ []

-- FM.2 with this run time and this number of streams.
abbrev run : List ℕ → ℕ → ℕ → List ℕ → List ℕ
run time streams n pairs =
    sent (70 ∷ 77 ∷ 46 ∷ 50 ∷ []) 1 n
    (time ++ (an_int 1 ++ (an_int 2 ++ ((5 ∷ 0 ∷ 0 ∷ 0 ∷ 0 ∷ 0 ∷ 0 ∷ 0 ∷ 0 ∷ []) ++ (an_int 3 ++ (an_int streams ++ pairs))))))

abbrev letter : List ℕ
letter = 9 ∷ 0 ∷ 0 ∷ 0 ∷ 1 ∷ 97 ∷ []

abbrev yes : List ℕ
yes = 6 ∷ 1 ∷ []

-- FM.1 with this instance id and this last field.
abbrev start : List ℕ → List ℕ → List ℕ
start id last =
    sent (70 ∷ 77 ∷ 46 ∷ 49 ∷ []) 1 12
    (id ++ (letter ++ (empty ++ (letter ++ (empty ++ (letter ++ (empty ++ (letter ++ (letter ++ (yes ++ (yes ++ last)))))))))))

pub record Example : Type 0 where
  pub message : List ℕ
  pub gives : Answer ℕ

infix 5 ◌gives◌
abbrev ◌gives◌ : List ℕ → Answer ℕ → Example
m gives a = record { message = m; gives = a }

unfoldable pub tried : List Example
tried =
    -- MC.1: right; delete for new; a field fewer; that, and an int for the long; an int for the long; a word that is
    -- none; FM.0
    (sent (77 ∷ 67 ∷ 46 ∷ 49 ∷ []) 1 3 (a_long ++ (ended ++ empty)) gives fine 2)
    ∷ (sent (77 ∷ 67 ∷ 46 ∷ 49 ∷ []) 3 3 (a_long ++ (ended ++ empty)) gives refused 21 25)
    ∷ (sent (77 ∷ 67 ∷ 46 ∷ 49 ∷ []) 1 2 (a_long ++ ended) gives refused 21 25)
    ∷ (sent (77 ∷ 67 ∷ 46 ∷ 49 ∷ []) 1 2 (an_int 1 ++ ended) gives refused 21 25)
    ∷ (sent (77 ∷ 67 ∷ 46 ∷ 49 ∷ []) 1 3 (an_int 1 ++ (ended ++ empty)) gives refused 22 47)
    ∷ (sent (77 ∷ 67 ∷ 46 ∷ 49 ∷ []) 1 3 (a_long ++ (empty ++ empty)) gives refused 23 56)
    ∷ (sent (70 ∷ 77 ∷ 46 ∷ 48 ∷ []) 1 0 [] gives refused 20 25)
    -- FM.7: change; new
    ∷ (sent (70 ∷ 77 ∷ 46 ∷ 55 ∷ []) 2 0 [] gives fine 12)
    ∷ (sent (70 ∷ 77 ∷ 46 ∷ 55 ∷ []) 1 0 [] gives refused 21 25)
    -- FM.8: its one field; none
    ∷ (sent (70 ∷ 77 ∷ 46 ∷ 56 ∷ []) 1 1 empty gives fine 13)
    ∷ (sent (70 ∷ 77 ∷ 46 ∷ 56 ∷ []) 1 0 [] gives refused 21 25)
    -- FM.2: a pair; two for one; no pair; a Duration; a Time for it; a pair the other way round
    ∷ (run (an_int 0) 1 8 (empty ++ a_long) gives fine 4)
    ∷ (run (an_int 0) 2 8 (empty ++ a_long) gives refused 21 25)
    ∷ (run (an_int 0) 0 6 [] gives fine 4)
    ∷ (run (25 ∷ 25 ∷ 0 ∷ 0 ∷ 0 ∷ 0 ∷ 0 ∷ []) 0 6 [] gives fine 4)
    ∷ (run (25 ∷ 26 ∷ 0 ∷ 0 ∷ 0 ∷ 0 ∷ 0 ∷ []) 0 6 [] gives refused 22 47)
    ∷ (run (an_int 0) 1 8 (a_long ++ empty) gives refused 22 90)
    -- a sixth that is no int, before a wrong number; five fields
    ∷ (sent (70 ∷ 77 ∷ 46 ∷ 50 ∷ []) 1 7 (an_int 1 ++ (an_int 1 ++ (an_int 1 ++ (an_int 1 ++ (an_int 1 ++ (a_long ++ a_long)))))) gives refused 22 72)
    ∷ (sent (70 ∷ 77 ∷ 46 ∷ 50 ∷ []) 1 5 (an_int 1 ++ (an_int 1 ++ (an_int 1 ++ (an_int 1 ++ a_long)))) gives refused 21 25)
    -- FM.1: right; an empty instance id; that, and a wrong code after it; two wrong codes, the earlier first
    ∷ (start letter yes gives fine 0)
    ∷ (start empty yes gives refused 23 47)
    ∷ (start empty empty gives refused 22 101)
    ∷ (start yes empty gives refused 22 47)
    -- the others, right
    ∷ (sent (70 ∷ 83 ∷ 46 ∷ 49 ∷ []) 1 0 [] gives fine 1)
    ∷ (sent (70 ∷ 83 ∷ 46 ∷ 50 ∷ []) 1 4 (empty ++ (ended ++ ((1 ∷ 0 ∷ 9 ∷ []) ++ empty))) gives fine 3)
    ∷ (sent (77 ∷ 67 ∷ 46 ∷ 50 ∷ []) 1 3 (a_long ++ (yes ++ empty)) gives fine 5)
    ∷ (sent (70 ∷ 77 ∷ 46 ∷ 51 ∷ []) 1 2 (empty ++ yes) gives fine 6)
    ∷ (sent (70 ∷ 77 ∷ 46 ∷ 52 ∷ []) 1 0 [] gives fine 7)
    ∷ (sent (70 ∷ 77 ∷ 46 ∷ 53 ∷ []) 1 0 [] gives fine 8)
    ∷ (sent (70 ∷ 77 ∷ 46 ∷ 54 ∷ []) 1 1 letter gives fine 9)
    ∷ (sent (77 ∷ 67 ∷ 46 ∷ 51 ∷ []) 1 2 (letter ++ a_long) gives fine 10)
    ∷ (sent (77 ∷ 67 ∷ 46 ∷ 52 ∷ []) 1 2 (letter ++ (9 ∷ 0 ∷ 0 ∷ 0 ∷ 4 ∷ 110 ∷ 97 ∷ 109 ∷ 101 ∷ [])) gives fine 11)
    ∷ (sent (77 ∷ 67 ∷ 46 ∷ 52 ∷ []) 1 2 (letter ++ letter) gives refused 23 53)
    ∷ (sent (77 ∷ 67 ∷ 46 ∷ 52 ∷ []) 1 2 (letter ++ ended) gives refused 23 53)
    ∷ (sent (70 ∷ 77 ∷ 46 ∷ 57 ∷ []) 1 0 [] gives fine 14)
    ∷ (sent (70 ∷ 83 ∷ 46 ∷ 51 ∷ []) 1 0 [] gives fine 15)
    ∷ (sent (70 ∷ 83 ∷ 46 ∷ 52 ∷ []) 1 3 (letter ++ (yes ++ empty)) gives fine 16)
    ∷ (sent (70 ∷ 83 ∷ 46 ∷ 53 ∷ []) 1 2 (yes ++ empty) gives fine 17)
    ∷ []

pub tried_hold : map (λ (e : Example). commanded e.message) tried ≡ map (λ (e : Example). e.gives) tried
unfolding
    tried page row_at stands_at is_word is_one_of code_taken text_taken want_in passes each turns_right number_right number_from fields_right row_right command_of commanded
    reading message message_rest enough limit header declared status frame magic digit literal among status_taken fields_taken payload payload_from moved
    field outline after booleans booleans_of head head_rest counts count mark_count mark marks mark_rest display currency kind_of currency_taken
    display_taken code_known counts_of marking_of width_of boolean big not_negative
tried_hold = refl
