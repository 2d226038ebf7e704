-- Request 5, of the definitions: there is one way to divide. Each statement here is proved in proofs/Promises.antt.
-- `most` is the message limit; at `limit` of sim0mq, `message most no_table` is reading.
use Rattle.std.specs.Prelude.{ℕ, ◌+◌, ◌≤◌, ◌<◌, ◌≡◌, ◌↔◌, List, [], ◌++◌, map, length, take, drop}
use Rattle.sim0mq.specs.Answer.{fine, refused}
use Rattle.sim0mq.specs.Message.{no_table, message}
use Rattle.sim0mq.specs.Allowed.{Each, joined}
use Rattle.dividing.specs.Front.{Taken, front_length}
use Rattle.dividing.specs.Run.{Stop, at_end, at_most, at_fault, Run, run_from, division, stretches, total}

-- Bytes are refused by 13 at p exactly when, within the limit, their first p are an accepted message and more follow.
abbrev pub ThirteenIsAMessageAndMore : Type 0
ThirteenIsAMessageAndMore =
    (most : ℕ) (s : List ℕ) (p : ℕ)
    → message most no_table s ≡ refused 13 p ↔ ((length s ≤ most) × (p < length s) × Taken most (take p s))

-- No accepted message is the beginning of a longer accepted one.
abbrev pub NoMessageBeginsAnother : Type 0
NoMessageBeginsAnother = (most : ℕ) (m rest : List ℕ) → Taken most m → Taken most (m ++ rest) → rest ≡ []

-- The message at the front has n bytes exactly when the first n bytes are an accepted message: so there is at most one.
abbrev pub FrontIsFound : Type 0
FrontIsFound =
    (most : ℕ) (s : List ℕ) (n : ℕ) → front_length most s ≡ fine n ↔ ((n ≤ length s) × Taken most (take n s))

-- If none is there, the refusal is that of reading the bytes, cut at the limit.
abbrev pub FaultIsOfReading : Type 0
FaultIsOfReading =
    (most : ℕ) (s : List ℕ) (k p : ℕ) → front_length most s ≡ refused k p
    → message most no_table (take most s) ≡ refused k p

-- Accepted messages that give the same bytes end to end are the same messages.
abbrev pub DividedInOneWay : Type 0
DividedInOneWay =
    (most : ℕ) (ms ns : List (List ℕ)) → Each (Taken most) ms → Each (Taken most) ns → joined ms ≡ joined ns → ms ≡ ns

-- Dividing messages end to end from the front finds each message's length, and then the end of the bytes.
abbrev pub DivisionIsFound : Type 0
DivisionIsFound =
    (most : ℕ) (ms : List (List ℕ)) → Each (Taken most) ms
    → (division most (joined ms) ≡ record { lengths = map length ms; stop = at_end })
    × (stretches (joined ms) 0 (map length ms) ≡ ms)

-- What the division r of s says of s by its stop: at the end, that s is the accepted messages of these lengths end to
-- end; at a fault, that it is no messages end to end, by reading's refusal of the rest, with its place in s.
abbrev pub SaysOf : (most : ℕ) (s : List ℕ) (r : Run) → Stop → Type 0
SaysOf most s r at_end = Each (Taken most) (stretches s 0 r.lengths) × (joined (stretches s 0 r.lengths) ≡ s)
SaysOf most s r at_most = ⊥
SaysOf most s r (at_fault k p) =
    ((ms : List (List ℕ)) → Each (Taken most) ms → joined ms ≡ s → ⊥)
    × ((q : ℕ)
    × (p ≡ total r.lengths + q)
    × (message most no_table (take most (drop (total r.lengths) s)) ≡ refused k q))

abbrev pub DivisionIsTold : Type 0
DivisionIsTold = (most : ℕ) (s : List ℕ) → SaysOf most s (division most s) (division most s).stop

-- Why a run of `count` messages that ends at `end` stopped there: at the end of the bytes; at the most messages, with
-- bytes left; or no message is at the front of what is left, by the refusal of reading that, cut at the limit.
abbrev pub StoppedFor : (most many : ℕ) (s : List ℕ) (count end : ℕ) → Stop → Type 0
StoppedFor most many s count end at_end = end ≡ length s
StoppedFor most many s count end at_most = (end < length s) × (count ≡ many)
StoppedFor most many s count end (at_fault k p) =
    (end < length s)
    × ((q : ℕ) × (p ≡ end + q) × (message most no_table (take most (drop end s)) ≡ refused k q))
    × ((n : ℕ) → n ≤ length (drop end s) → Taken most (take n (drop end s)) → ⊥)

-- What a run from place `at` on is: accepted messages end to end, not more than may be, that lie in the bytes.
pub record IsRun (most many : ℕ) (s : List ℕ) (at : ℕ) (r : Run) : Type 0 where
  pub each : Each (Taken most) (stretches s at r.lengths)
  pub few : length r.lengths ≤ many
  pub within : at + total r.lengths ≤ length s
  pub why : StoppedFor most many s (length r.lengths) (at + total r.lengths) r.stop

abbrev pub RunIsOfMessages : Type 0
RunIsOfMessages = (most many : ℕ) (s : List ℕ) (at : ℕ) → at ≤ length s → IsRun most many s at (run_from most many s at)

-- It is the longest: any messages end to end at the front, not more than may be, are the first messages of the run.
abbrev pub RunIsLongest : Type 0
RunIsLongest =
    (most many : ℕ) (ms : List (List ℕ)) (rest : List ℕ) → Each (Taken most) ms → length ms ≤ many
    → (ns : List ℕ) × ((run_from most many (joined ms ++ rest) 0).lengths ≡ map length ms ++ ns)
