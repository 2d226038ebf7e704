-- Demand 3, lifted to a recording: the copy of an accepted recording has its build and none of its values. Each
-- statement here is proved in proofs/Promises.antt.
use Rattle.std.specs.Prelude.{ℕ, ◌<◌, ◌≤◌, ◌≡◌, ◌↔◌, List, [], ◌∷◌, ◌++◌, map, length, take, drop}
use Rattle.sim0mq.specs.Answer.{fine, refused}
use Rattle.sim0mq.specs.Field.{Field}
use Rattle.sim0mq.specs.Payload.{moved}
use Rattle.sim0mq.specs.Message.{no_table, reading}
use Rattle.sim0mq.specs.Demand3.{IsBlank, SameBuild}
use Rattle.dividing.specs.Run.{stretches}
use Rattle.recordings_format.specs.Judge.{Index, opening, placed_in, asking}
use Rattle.recordings_blanking.specs.Blanking.{fields_of, copy_of, blanked_recording, blanking_recording}

-- The fields of messages that stand end to end, with places in the whole: those of the first, then those of the others,
-- which stand after it.
unfoldable pub fields_over : List (List ℕ) → List Field
fields_over [] = []
fields_over (m ∷ ms) = fields_of (reading no_table m) ++ map (moved (length m)) (fields_over ms)

-- The fields of a recording's messages, which have these lengths: their value bytes are the recording's.
abbrev pub fields_in : List ℕ → List ℕ → List Field
fields_in s ns = fields_over (stretches s 0 ns)

-- The copy of an accepted recording is as long, zero in every value byte of every message, and the recording's own byte
-- elsewhere.
abbrev pub RecordingCopyIsBlank : Type 0
RecordingCopyIsBlank =
    (s : List ℕ) (i : Index) → opening no_table s ≡ fine i
    → IsBlank s (fields_in s i.lengths) (blanked_recording s i.lengths)

-- It is accepted, and opening finds the same edition and the same entries in it.
abbrev pub RecordingCopyOpensAlike : Type 0
RecordingCopyOpensAlike =
    (s : List ℕ) (i : Index) → opening no_table s ≡ fine i → opening no_table (blanked_recording s i.lengths) ≡ fine i

-- Asking for message k finds it at the same place, and there stands the blanked copy of message k.
abbrev pub AskedOfTheCopy : Type 0
AskedOfTheCopy =
    (s : List ℕ) (i : Index) (k : ℕ) → opening no_table s ≡ fine i → k < length i.lengths
    → (asking (blanked_recording s i.lengths) k ≡ asking s k)
    × (take (placed_in i.lengths k).size (drop (placed_in i.lengths k).start (blanked_recording s i.lengths))
    ≡ copy_of (take (placed_in i.lengths k).size (drop (placed_in i.lengths k).start s)))

-- Two accepted recordings have the same copy exactly when they are as long and agree wherever no value byte of the
-- first is; and then opening finds the same in both.
abbrev pub RecordingCopyTellsOnlyTheBuild : Type 0
RecordingCopyTellsOnlyTheBuild =
    (s t : List ℕ) (i j : Index) → opening no_table s ≡ fine i → opening no_table t ≡ fine j
    → (blanked_recording s i.lengths ≡ blanked_recording t j.lengths ↔ SameBuild (fields_in s i.lengths) s t)
    × (SameBuild (fields_in s i.lengths) s t → i ≡ j)

-- Blanking is refused as opening is, then by 14 where there is no room for as many bytes as the recording has, and
-- answers the copy else.
abbrev pub BlankedOrRefused : Type 0
BlankedOrRefused =
    (room : ℕ) (s : List ℕ)
    → ((k p : ℕ) → opening no_table s ≡ refused k p → blanking_recording room s ≡ refused k p)
    × ((i : Index) → opening no_table s ≡ fine i
    → (room < length s → blanking_recording room s ≡ refused 14 0)
    × (length s ≤ room → blanking_recording room s ≡ fine (blanked_recording s i.lengths)))
