-- The blanked copy: zero in every payload value byte, and the message's own byte elsewhere (01, "Blanking" and refusal
-- 14).
use Rattle.std.specs.Prelude.{ℕ, ◌+◌, List, [], ◌∷◌, ◌++◌, length, take, drop, replicate, leb}
use Rattle.sim0mq.specs.Answer.{Answer, fine, refused, ◌>>=◌, ◌>>◌, guard}
use Rattle.sim0mq.specs.Field.{Field}
use Rattle.sim0mq.specs.Message.{no_table, reading}
use Rattle.sim0mq.specs.Table.{stored}

-- The bytes with zero in the n of them from `at` on.
unfoldable pub zeroed : List ℕ → ℕ → ℕ → List ℕ
zeroed s at n = take at s ++ (replicate n 0 ++ drop (at + n) s)

-- The bytes with zero in every value byte of these fields.
unfoldable pub blanked : List ℕ → List Field → List ℕ
blanked s [] = s
blanked s (f ∷ fs) = blanked (zeroed s f.first f.size) fs

-- Blanking, with room for so many bytes: reading's refusals with no table, then the room (14); the answer is the copy.
unfoldable pub blanking : ℕ → List ℕ → Answer (List ℕ)
blanking room s = do
  m ← reading no_table s
  guard (leb (length s) room) 14 0
  fine (blanked s m.fields)

-- The lent output after blanking: the copy stored in it, or, on a refusal, as it was.
unfoldable pub output_after : List ℕ → Answer (List ℕ) → List ℕ
output_after out (fine copy) = stored out copy
output_after out (refused k p) = out
