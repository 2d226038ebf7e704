-- How many steps an accepted message can take (02, Ticket 10).
use Rattle.std.specs.Prelude.{ℕ, ◌+◌, ◌-◌, ◌*◌, ◌/◌, cond, ltb}
use Rattle.sim0mq.specs.Header.{most_fields}

-- 8 steps, and one for every two bytes of a payload of n bytes, rounded down.
abbrev pub ceiling : ℕ → ℕ
ceiling n = 8 + n / 2

-- The fewest bytes of a header: 10 of frame 0, four ids of 3, a message number of 9, a status of 2 and a number of
-- fields of 2 (01, "The eight header frames").
abbrev pub least_header : ℕ
least_header = 35

-- A field has more than one mark only where it has one per column: its code, its rows and its columns then take nine
-- bytes for one step, seven more than two (01, "Payload fields", codes 31 and 32).
abbrev pub columns_head : ℕ
columns_head = 9

-- From so many bytes on, the most steps are those of a field with marks to the end of the message: without such a field
-- there are at most two steps for each of the most fields.
abbrev pub long_message : ℕ
long_message = least_header + (columns_head - 2) + 2 * (2 * most_fields)

-- No message of n bytes takes more steps than these.
abbrev pub most_steps : ℕ → ℕ
most_steps n = cond (ltb n long_message) (ceiling (n - least_header)) (ceiling (n - least_header - (columns_head - 2)))
