-- Salvage (02, Ticket 7): the messages found from the front of a file, with a new index and trailer after them.
use Rattle.std.specs.Prelude.{ℕ, ◌-◌, List, ◌++◌, leb, length, take}
use Rattle.sim0mq.specs.Answer.{Answer, fine, refused, ◌>>◌, guard}
use Rattle.sim0mq.specs.Table.{stored}
use Rattle.dividing.specs.Run.{Stop, Run, run_from, total}
use Rattle.recordings_format.specs.Edition.{Edition, most_messages}
use Rattle.recordings_format.specs.Text.{tail_text}

-- The longest run of messages from the front, not more than a recording has: the next message is the beginning of the
-- rest that is accepted, and if there is none, the refusal is that of reading the rest, cut at the message limit, with
-- its place in the file.
abbrev pub rescued : Edition → List ℕ → Run
rescued e s = run_from e.most most_messages s 0

-- The new recording: the messages' bytes, and their index and trailer.
unfoldable pub salvage_text : Edition → List ℕ → List ℕ
salvage_text e s = take (total (rescued e s).lengths) s ++ tail_text e (rescued e s).lengths

-- What is reported: the new recording's length, how many messages were kept, how many bytes dropped, and why it
-- stopped: at the end of the bytes, at the most messages with bytes left, or at a refusal.
pub record Report : Type 0 where
  pub bytes : ℕ
  pub kept : ℕ
  pub dropped : ℕ
  pub stop : Stop

unfoldable pub report : Edition → List ℕ → Report
report e s =
    record {
      bytes = length (salvage_text e s);
      kept = length (rescued e s).lengths;
      dropped = length s - total (rescued e s).lengths;
      stop = (rescued e s).stop;
    }

-- Salvage, with room for so many bytes (14).
unfoldable pub salvage : Edition → ℕ → List ℕ → Answer Report
salvage e room s = do
  guard (leb (length (salvage_text e s)) room) 14 0
  fine (report e s)

-- The lent output after it: the new recording stored in it, or, on a refusal, as it was.
unfoldable pub output_after : Edition → List ℕ → List ℕ → Answer Report → List ℕ
output_after e s out (fine r) = stored out (salvage_text e s)
output_after e s out (refused k p) = out
