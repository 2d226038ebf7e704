-- The table with the rows of a payload, over the definitions of the format.
use Rattle.std.specs.Prelude.{ℕ, ◌*◌, ◌≤◌, List, map, length, drop}
use Rattle.sim0mq.specs.Answer.{Answer, fine, refused}
use Rattle.sim0mq.specs.Field.{Field}
use Rattle.sim0mq.specs.Payload.{payload, moved}
use Rattle.sim0mq.specs.Table.{rows, row_size, stored}
use Rattle.sim0mq.specs.Message.{limit}

-- The table once the rows of these fields are stored in it, whose places are moved by `base`; as it was, on a refusal.
unfoldable pub rows_after : List ℕ → ℕ → Answer (List Field) → List ℕ
rows_after table base (fine fs) = stored table (rows (map (moved base) fs))
rows_after table base (refused k p) = table

-- The table with the rows of the payload of n fields that begins at `next` of the message s.
unfoldable pub filled : List ℕ → ℕ → ℕ → List ℕ → List ℕ
filled s next n table = rows_after table next (payload (drop next s) n)

-- A message within the limit, in which the payload begins at `next`; and room for n rows, both where they are kept and
-- in the table.
pub record Fillable (s : List ℕ) (next n kept table : ℕ) : Type 0 where
  pub short : length s ≤ limit
  pub within : next ≤ length s
  pub keeps : row_size * n ≤ kept
  pub room : row_size * n ≤ table
