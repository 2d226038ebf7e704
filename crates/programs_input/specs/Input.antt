-- What the contract of `fill` cites. Assumes nothing.
use Rattle.std.specs.Prelude.{ℕ, ◌<◌, ◌≤◌, List, length, take, Option, Result, IfOk, MatchResult}
use Rattle.std.specs.Io.KnownBytes.{Consumes, IsAtEnd}

-- no more bytes came than the buffer has
abbrev pub Within : {E : Type 0} → Result ℕ E → List ℕ → Type 0
Within r buf = IfOk r (λ n. n ≤ length buf)

-- what was taken of an input whose bytes are known: those at the front of the buffer, in order; fewer than the buffer
-- has only where the input then is at its end. Where a read failed, what it had given before stands there.
abbrev pub Took : {E : Type 0} → Option (List ℕ) → Option (List ℕ) → Result ℕ E → List ℕ → Type 0
Took old new r buf =
    MatchResult r
    (λ n. Consumes old new (take n buf) × (n < length buf → IsAtEnd new))
    (λ _. (n : ℕ) × (n < length buf) × Consumes old new (take n buf))
