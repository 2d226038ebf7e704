-- What is promised of asking by the last bytes of a file. Each statement here is proved in proofs/Promises.antt.
use Rattle.std.specs.Prelude.{ℕ, ◌+◌, ◌-◌, ◌≤◌, ◌<◌, ◌≡◌, ◌⊎◌, List, length, take, drop}
use Rattle.sim0mq.specs.Answer.{Answer, fine, refused, ◌>>=◌, part_at}
use Rattle.sim0mq.specs.Message.{limit, no_table, reading}
use Rattle.recordings_format.specs.Edition.{trailer_size}
use Rattle.recordings_format.specs.Judge.{Placed, asking}
use Rattle.recordings_index.specs.Tail.{Reached, there, wanted}
use Rattle.recordings_reaching.specs.Reaching.{asking_in}

-- The last n bytes of s; all of them where it has no more.
abbrev pub last_of : ℕ → List ℕ → List ℕ
last_of n s = drop (length s - n) s

-- Asking by the last n bytes of the file s is refused as asking the file is; it finds a message that lies in the file
-- and is short enough to be read, and then asking the file answers the same once reading accepts that message, and that
-- reading's refusal, placed in the file, where it does not; or it wants more bytes than it had, no more than the file
-- has, and no more than 32,778.
abbrev pub AnswersAs : List ℕ → ℕ → ℕ → Answer (Reached Placed) → Type 0
AnswersAs s n k (refused number place) = asking s k ≡ refused number place
AnswersAs s n k (fine (there p)) =
    (asking s k ≡ (part_at p.start (reading no_table (take p.size (drop p.start s))) >>= (λ m. fine p)))
    × (p.start + p.size ≤ length s)
    × (p.size ≤ limit)
AnswersAs s n k (fine (wanted w)) = (n < w) × (w ≤ length s) × (w ≤ 32778)

abbrev pub TailAnswersAsTheWhole : Type 0
TailAnswersAsTheWhole = (s : List ℕ) (n k : ℕ) → AnswersAs s n k (asking_in (length s) (last_of n s) k)

-- So the last 32,778 bytes are always enough, and so is the whole file.
abbrev pub LongestTailIsEnough : Type 0
LongestTailIsEnough =
    (s : List ℕ) (n k w : ℕ) → (32778 ≤ n) ⊎ (length s ≤ n) → asking_in (length s) (last_of n s) k ≡ fine (wanted w) → ⊥

-- As many bytes as are wanted are enough, once the trailer was had.
abbrev pub WantedIsEnough : Type 0
WantedIsEnough =
    (s : List ℕ) (n k w v : ℕ) → trailer_size ≤ n → asking_in (length s) (last_of n s) k ≡ fine (wanted w)
    → asking_in (length s) (last_of w s) k ≡ fine (wanted v) → ⊥
