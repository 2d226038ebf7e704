-- Request 1, of the definitions: what opening accepts and asking finds. Each statement here is proved in
-- proofs/Promises.antt.
use Rattle.std.specs.Prelude.{ℕ, ◌+◌, ◌<◌, ◌≤◌, ◌*◌, ◌≡◌, true, ◌↔◌, List, [], ◌∷◌, ◌++◌, map, length, take, drop}
use Rattle.sim0mq.specs.Answer.{fine, refused, byte}
use Rattle.sim0mq.specs.Header.{among}
use Rattle.sim0mq.specs.Message.{limit, Lent, no_table, table, Reading, message, reading}
use Rattle.sim0mq.specs.Blank.{blanked}
use Rattle.sim0mq.specs.Allowed.{Each, Allowed}
use Rattle.sim0mq.specs.Demand1.{judging_numbers}
use Rattle.sim0mq.specs.Demand2.{Covers}
use Rattle.sim0mq.specs.Demand3.{IsBlank}
use Rattle.dividing.specs.Front.{Taken}
use Rattle.dividing.specs.Run.{stretches, total}
use Rattle.recordings_format.specs.Edition.{Edition}
use Rattle.recordings_format.specs.Text.{HasTail, IsRecording}
use Rattle.recordings_format.specs.Judge.{Index, index, place_size, opening, places_after, Placed, placed_in, asking}

-- These numbers are bytes.
abbrev pub Bytes : List ℕ → Type 0
Bytes s = (i : ℕ) → byte s i < 256

-- Opening accepts exactly the recordings, and finds their edition and their messages' lengths.
abbrev pub OpensTheRecordings : Type 0
OpensTheRecordings =
    ((e : Edition) (ms : List (List ℕ)) (s : List ℕ) → IsRecording e ms s
    → opening no_table s ≡ fine (record { edition = e; lengths = map length ms }))
    × ((s : List ℕ) (i : Index) → Bytes s → opening no_table s ≡ fine i
    → IsRecording i.edition (stretches s 0 i.lengths) s)

-- A recording is one of one edition and of these messages only.
abbrev pub RecordingIsOfOne : Type 0
RecordingIsOfOne =
    (e f : Edition) (ms ns : List (List ℕ)) (s : List ℕ) → IsRecording e ms s → IsRecording f ns s → (e ≡ f) × (ms ≡ ns)

-- Trailer and index are right exactly when the bytes end in the tail of messages of these lengths, whatever stands
-- before it.
abbrev pub IndexIsTheTail : Type 0
IndexIsTheTail =
    (s : List ℕ) (i : Index) → Bytes s → index s ≡ fine i ↔ HasTail i.edition i.lengths s

-- What demands 2 and 3 say of a message: the manual allows it, its fields cover its payload, and its copy is blank in
-- its value bytes alone and reads alike.
pub record Demanded (m : List ℕ) : Type 0 where
  pub found : Reading
  pub reads : reading no_table m ≡ fine found
  pub allowed : Allowed limit m
  pub covers : Covers m found
  pub blank : IsBlank m found.fields (blanked m found.fields)
  pub alike : reading no_table (blanked m found.fields) ≡ fine found

-- They hold of each message in a recording.
abbrev pub DemandsSpeakOfEach : Type 0
DemandsSpeakOfEach = (e : Edition) (ms : List (List ℕ)) (s : List ℕ) → IsRecording e ms s → Each Demanded ms

-- The refusals of opening and of asking bear these numbers, at a place no greater than the recording's length; 18, 14
-- and 16 have place 0.
abbrev pub opening_numbers : Lent → List ℕ
opening_numbers no_table = 18 ∷ judging_numbers
opening_numbers (table r) = 18 ∷ 14 ∷ judging_numbers

abbrev pub asking_numbers : List ℕ
asking_numbers = 18 ∷ 16 ∷ judging_numbers

pub record IsRefusal (numbers : List ℕ) (s : List ℕ) (number place : ℕ) : Type 0 where
  pub numbered : among number numbers ≡ true
  pub within : place ≤ length s
  pub own : among number (18 ∷ 14 ∷ 16 ∷ []) ≡ true → place ≡ 0

abbrev pub RefusalsOfOpening : Type 0
RefusalsOfOpening =
    (lent : Lent) (s : List ℕ) (number place : ℕ) → opening lent s ≡ refused number place
    → IsRefusal (opening_numbers lent) s number place

abbrev pub RefusalsOfAsking : Type 0
RefusalsOfAsking =
    (s : List ℕ) (k number place : ℕ) → asking s k ≡ refused number place → IsRefusal asking_numbers s number place

-- Once trailer and index are right, opening is refused by the first message that is not accepted: by its own refusal,
-- with its place in the recording.
pub record IsFirstBad (s : List ℕ) (i : Index) (number place : ℕ) : Type 0 where
  pub before : List ℕ
  pub size : ℕ
  pub after : List ℕ
  pub lengths : i.lengths ≡ before ++ (size ∷ after)
  pub good : Each (Taken i.edition.most) (stretches s 0 before)
  pub within : ℕ
  pub bad : message i.edition.most no_table (take size (drop (total before) s)) ≡ refused number within
  pub there : place ≡ total before + within

abbrev pub RefusedByTheFirstBad : Type 0
RefusedByTheFirstBad =
    (s : List ℕ) (i : Index) (number place : ℕ) → index s ≡ fine i → opening no_table s ≡ refused number place
    → IsFirstBad s i number place

-- A table changes no answer where it is long enough, is refused by 14 where it is not, and a refusal leaves it.
abbrev pub TableIsLent : Type 0
TableIsLent =
    (s : List ℕ) (i : Index) (r : ℕ) → index s ≡ fine i
    → (place_size * length i.lengths ≤ r → opening (table r) s ≡ opening no_table s)
    × (r < place_size * length i.lengths → opening (table r) s ≡ refused 14 0)

abbrev pub RefusalKeepsThePlaces : Type 0
RefusalKeepsThePlaces =
    (lent : Lent) (s t : List ℕ) (number place : ℕ) → opening lent s ≡ refused number place
    → places_after t (opening lent s) ≡ t

-- Asking for a message of a recording answers where it stands: for the message recorded k-th, counted from 0.
pub record IsAsked (s m : List ℕ) (k : ℕ) : Type 0 where
  pub placed : Placed
  pub answers : asking s k ≡ fine placed
  pub there : take placed.size (drop placed.start s) ≡ m

abbrev pub AskingFindsTheMessage : Type 0
AskingFindsTheMessage =
    (e : Edition) (before : List (List ℕ)) (m : List ℕ) (after : List (List ℕ)) (s : List ℕ)
    → IsRecording e (before ++ (m ∷ after)) s → IsAsked s m (length before)

-- Whatever asking answers, trailer and index are judged as opening judges them, and an accepted message stands there.
pub record IsPlaced (s : List ℕ) (k : ℕ) (p : Placed) : Type 0 where
  pub found : Index
  pub indexed : index s ≡ fine found
  pub listed : k < length found.lengths
  pub says : p ≡ placed_in found.lengths k
  pub taken : Taken found.edition.most (take p.size (drop p.start s))

abbrev pub AskedIsAMessage : Type 0
AskedIsAMessage = (s : List ℕ) (k : ℕ) (p : Placed) → asking s k ≡ fine p → IsPlaced s k p

-- It judges no other message: where trailer and index say the same, and message k is the same, so is the answer.
abbrev pub AskingJudgesNoOther : Type 0
AskingJudgesNoOther =
    (s t : List ℕ) (i : Index) (k : ℕ) → index s ≡ fine i → index t ≡ fine i
    → take (placed_in i.lengths k).size (drop (placed_in i.lengths k).start s)
    ≡ take (placed_in i.lengths k).size (drop (placed_in i.lengths k).start t) → asking s k ≡ asking t k

-- Once trailer and index are right, it is refused by 16 exactly past the last message, whatever the messages are.
abbrev pub SixteenIsPastTheLast : Type 0
SixteenIsPastTheLast =
    (s : List ℕ) (i : Index) (k : ℕ) → index s ≡ fine i → asking s k ≡ refused 16 0 ↔ length i.lengths ≤ k
