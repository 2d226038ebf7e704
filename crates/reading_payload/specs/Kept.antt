-- The rows that the payload's reader keeps, with places in the message.
use Rattle.std.specs.Prelude.{ℕ, List, map, length, drop}
use Rattle.sim0mq.specs.Payload.{moved}
use Rattle.reading_parts.specs.Kept.{before_fault, kept_all, rows_in}

-- What is kept of the payload of n fields that begins at `next` of the message s, from field k on.
unfoldable pub kept_of : List ℕ → ℕ → ℕ → ℕ → List ℕ → List ℕ
kept_of s next n k kept = kept_all (rows_in (length s) (length kept)) k 0 (map (moved next) (before_fault (drop next s) n 0)) kept
