-- What is kept of a payload is what is kept of the part that it is; past the message's end there is no part, and
-- nothing is kept.
use Prim.Native.Nat.{ℕ, ◌+◌, ◌≤◌, ◌<◌}
use mathlib.Core.Path.{◌≡◌, refl}
use mathlib.Core.List.{List, []}
use native.Mathlib.Omega.{arith}
use lib.ListN.{length, drop, length-drop, drop_of_length-le}
use Rattle.sim0mq.specs.Field.{head, outline, field}
use Rattle.reading_parts.specs.Kept.{before_fault, kept_all, kept_part}
use Rattle.reading_parts.proofs.KeptCases.{front_stop}
use Rattle.reading_payload.specs.Kept.{kept_of}

-- of no bytes there is no field, so past the message's end nothing is kept
front_nothing : (n : ℕ) → before_fault [] n 0 ≡ []
unfolding field outline head
front_nothing n = front_stop [] 0 n 1 0 refl

pub kept_none : (s : List ℕ) (next n k : ℕ) (kept : List ℕ) → length s < next → kept ≡ kept_of s next n k kept
unfolding kept_of kept_all
kept_none s next n k kept h =
    let past : drop next s ≡ [] = drop_of_length-le s {i = next} (omega arith) in
    simp (past, front_nothing n)

-- what is kept of the part after the header
pub kept_part_lem : (s part : List ℕ) (next n k : ℕ) (kept : List ℕ) → next ≤ length s → part ≡ drop next s
    → kept_part part next n k kept ≡ kept_of s next n k kept
unfolding kept_of kept_part
kept_part_lem s part next n k kept h d =
    let long : next + length (drop next s) ≡ length s = omega (arith, length-drop next s) in
    rw (d, long) refl
