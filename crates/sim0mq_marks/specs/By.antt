-- A mark judged by a row of last display codes that is lent, so that the code lays the row out once for many marks. By
-- the format's own row it is the format's mark (proofs/ByLaws.antt).
use Rattle.std.specs.Prelude.{ℕ, ◌+◌, List, get_or, leb}
use Rattle.sim0mq.specs.Answer.{Answer, fine, refused, ◌>>=◌, ◌>>◌, guard, need, byte}
use Rattle.sim0mq.specs.Mark.{Kind, plain, money, money_per, unknown, kind_of, currency}

-- As `display`, `mark_rest` and `mark` of the format, with this row in the place of its own.
unfoldable pub display_by : List ℕ → List ℕ → ℕ → ℕ → Answer ℕ
display_by row s t at = do
  need s at 1
  guard (leb (byte s at) (get_or row t 0)) 12 at
  fine (at + 1)

unfoldable pub mark_rest_by : List ℕ → List ℕ → ℕ → Kind → Answer ℕ
mark_rest_by row s at (plain t) = display_by row s t (at + 1)
mark_rest_by row s at money = currency s (at + 1)
mark_rest_by row s at (money_per t) = do
  p ← currency s (at + 1)
  display_by row s t p
mark_rest_by row s at unknown = refused 11 at

unfoldable pub mark_by : List ℕ → List ℕ → ℕ → Answer ℕ
mark_by row s at = do
  need s at 1
  mark_rest_by row s at (kind_of (byte s at))
