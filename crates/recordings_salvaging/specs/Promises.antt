-- Request 7, of the definitions: what salvage promises. Each statement here is proved in proofs/Promises.antt.
use Rattle.std.specs.Prelude.{ℕ, ◌+◌, ◌≤◌, ◌<◌, ◌≡◌, List, ◌++◌, map, length}
use Rattle.sim0mq.specs.Answer.{refused}
use Rattle.sim0mq.specs.Allowed.{Each, joined}
use Rattle.dividing.specs.Front.{Taken}
use Rattle.dividing.specs.Run.{at_most, at_fault, stretches, total}
use Rattle.dividing.specs.Promises.{IsRun}
use Rattle.recordings_format.specs.Edition.{Edition, editions, Listed, most_messages}
use Rattle.recordings_format.specs.Text.{tail_text, recording_text, IsRecording}
use Rattle.recordings_salvaging.specs.Salvage.{rescued, salvage_text, report, salvage, output_after}

-- What is salvaged of any file is the recording of accepted messages from its front, of the reported length; it stopped
-- for the reason that is reported, and what was not kept was dropped.
pub record IsSalvaged (e : Edition) (s : List ℕ) : Type 0 where
  pub run : IsRun e.most most_messages s 0 (rescued e s)
  pub recording : IsRecording e (stretches s 0 (rescued e s).lengths) (salvage_text e s)
  pub bytes : (report e s).bytes ≡ length (salvage_text e s)
  pub kept : (report e s).kept ≡ length (stretches s 0 (rescued e s).lengths)
  pub dropped : length (joined (stretches s 0 (rescued e s).lengths)) + (report e s).dropped ≡ length s

abbrev pub SalvagedIsARecording : Type 0
SalvagedIsARecording = (e : Edition) (s : List ℕ) → Listed e editions → IsSalvaged e s

-- It is the longest run: any messages end to end at the file's front, not more than a recording has, are the first that
-- are kept.
abbrev pub SalvageKeepsTheLongest : Type 0
SalvageKeepsTheLongest =
    (e : Edition) (ms : List (List ℕ)) (rest : List ℕ) → Each (Taken e.most) ms → length ms ≤ most_messages
    → (ns : List ℕ) × ((rescued e (joined ms ++ rest)).lengths ≡ map length ms ++ ns)

-- A recording of edition e comes back in its messages, as one of edition f. The dropped bytes are its old index and
-- trailer. It stops at the index, which is no message by its first byte, or at the most messages.
pub record ComesBack (e f : Edition) (ms : List (List ℕ)) (s : List ℕ) : Type 0 where
  pub text : salvage_text f s ≡ recording_text f ms
  pub kept : (report f s).kept ≡ length ms
  pub dropped : (report f s).dropped ≡ length (tail_text e (map length ms))
  pub index : length ms < most_messages → (report f s).stop ≡ at_fault 2 (total (map length ms))
  pub most : length ms ≡ most_messages → (report f s).stop ≡ at_most

abbrev pub RecordingComesBack : Type 0
RecordingComesBack =
    (e f : Edition) (ms : List (List ℕ)) (s : List ℕ) → Listed f editions → e.most ≤ f.most → IsRecording e ms s
    → ComesBack e f ms s

-- Of the edition that is written, it is the same file.
abbrev pub IntactComesBack : Type 0
IntactComesBack = (e : Edition) (ms : List (List ℕ)) (s : List ℕ) → IsRecording e ms s → salvage_text e s ≡ s

-- It is refused by 14 at 0 alone, exactly where the room is too short for the result, and then the output is as it was.
pub record IsShort (e : Edition) (room : ℕ) (s out : List ℕ) (number place : ℕ) : Type 0 where
  pub numbered : number ≡ 14
  pub placed : place ≡ 0
  pub short : room < length (salvage_text e s)
  pub kept : output_after e s out (salvage e room s) ≡ out

abbrev pub RefusedForRoomAlone : Type 0
RefusedForRoomAlone =
    ((e : Edition) (room : ℕ) (s out : List ℕ) (number place : ℕ) → salvage e room s ≡ refused number place
    → IsShort e room s out number place)
    × ((e : Edition) (room : ℕ) (s : List ℕ) → room < length (salvage_text e s) → salvage e room s ≡ refused 14 0)
