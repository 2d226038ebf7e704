-- Request 10, of the definitions: the steps of an accepted message have a ceiling. Each statement here is proved in
-- proofs/Promises.antt.
use Rattle.std.specs.Prelude.{ℕ, ◌-◌, ◌≤◌, ◌<◌, ◌≡◌, List, length}
use Rattle.sim0mq.specs.Answer.{fine}
use Rattle.sim0mq.specs.Field.{Field}
use Rattle.sim0mq.specs.Header.{Header, header}
use Rattle.sim0mq.specs.Message.{limit, Lent, no_table, Reading, steps_of, reading}
use Rattle.sim0mq.specs.Allowed.{Each}
use Rattle.reading_steps.specs.Ceiling.{ceiling, long_message, most_steps}

-- The payload is all bytes after frame 7, where the header ends. No accepted message takes more steps than its ceiling.
abbrev pub StepsHaveACeiling : Type 0
StepsHaveACeiling =
    (lent : Lent) (s : List ℕ) (m : Reading) (h : Header) → reading lent s ≡ fine m → header s ≡ fine h
    → steps_of m ≤ ceiling (length s - h.next)

-- A payload of byte fields only (code 0) takes exactly so many.
abbrev pub ByteFieldsReachTheCeiling : Type 0
ByteFieldsReachTheCeiling =
    (lent : Lent) (s : List ℕ) (m : Reading) (h : Header) → reading lent s ≡ fine m → header s ≡ fine h
    → Each (λ (f : Field). f.code ≡ 0) m.fields → steps_of m ≡ ceiling (length s - h.next)

-- Before a message is seen, by its length alone.
abbrev pub LengthBoundsTheSteps : Type 0
LengthBoundsTheSteps = (lent : Lent) (s : List ℕ) (m : Reading) → reading lent s ≡ fine m → steps_of m ≤ most_steps (length s)

-- A message of n bytes, each below 256, that takes as many steps as one of n bytes can.
pub record Slowest (n : ℕ) : Type 0 where
  pub bytes : List ℕ
  pub each_byte : Each (λ (b : ℕ). b < 256) bytes
  pub long : length bytes ≡ n
  pub found : Reading
  pub accepted : reading no_table bytes ≡ fine found
  pub steps : steps_of found ≡ most_steps n

-- For long messages that bound is the least: one of each length takes so many steps.
abbrev pub LongMessagesReachIt : Type 0
LongMessagesReachIt = (n : ℕ) → long_message ≤ n → n ≤ limit → Slowest n

-- The worst of all, as a number: no accepted message takes more steps, and one of `limit` bytes takes as many.
pub record Worst (most : ℕ) : Type 0 where
  pub bound : (lent : Lent) (s : List ℕ) (m : Reading) → reading lent s ≡ fine m → steps_of m ≤ most
  pub reached : Slowest limit
  pub number : most_steps limit ≡ most

abbrev pub WorstCase : Type 0
WorstCase = Worst 32755
