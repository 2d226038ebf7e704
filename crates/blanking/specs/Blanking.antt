-- What blanking's contracts cite, over the definitions of the format.
use Rattle.std.specs.Prelude.{ℕ, ◌*◌, ◌≤◌, ◌≡◌, List, [], ◌++◌, map, length, drop, leb}
use Rattle.sim0mq.specs.Answer.{Answer, fine, refused, ◌>>=◌, ◌>>◌, guard, part_at}
use Rattle.sim0mq.specs.Field.{Field}
use Rattle.sim0mq.specs.Payload.{payload, moved}
use Rattle.sim0mq.specs.Table.{rows, row_size}
use Rattle.sim0mq.specs.Message.{limit}
use Rattle.sim0mq.specs.Blank.{blanked}

-- The blanked copy of the message s, whose payload of n fields begins at `next`: the payload's refusals, then the room
-- (14).
unfoldable pub copying : ℕ → List ℕ → ℕ → ℕ → Answer (List ℕ)
copying room s next n = do
  fs ← part_at next (payload (drop next s) n)
  guard (leb (length s) room) 14 0
  fine (blanked s (map (moved next) fs))

-- The fields of an accepted payload, with places in the message.
abbrev pub taken : Answer (List Field) → List Field
taken (fine fs) = fs
taken (refused k p) = []

unfoldable pub fields_of : List ℕ → ℕ → ℕ → List Field
fields_of s next n = map (moved next) (taken (payload (drop next s) n))

-- A message within the limit, in which the payload begins at `next`; and room for n rows where they are kept.
pub record Copyable (s : List ℕ) (next n kept : ℕ) : Type 0 where
  pub short : length s ≤ limit
  pub within : next ≤ length s
  pub keeps : row_size * n ≤ kept

-- A message whose payload of n fields, from `next` on, is accepted, and whose rows are kept; and room for its copy.
pub record Blankable (s : List ℕ) (next n : ℕ) (kept out : List ℕ) : Type 0 where
  pub accepted : payload (drop next s) n ≡ fine (taken (payload (drop next s) n))
  pub within : next ≤ length s
  pub others : List ℕ
  pub rowed : kept ≡ rows (fields_of s next n) ++ others
  pub room : length s ≤ length out
