-- Texts and zeros in a buffer.
use Rattle.std.specs.Prelude.{ℕ, ◌+◌, cond, List, leb, length}
use Rattle.sim0mq.specs.Table.{placed}
use Rattle.sim0mq.specs.Blank.{zeroed}

-- The buffer with a text in it from `at` on, where there is room for it; else the buffer as it was.
unfoldable pub put_in : List ℕ → ℕ → List ℕ → List ℕ
put_in out at text = cond (leb (at + length text) (length out)) (placed out at text) out

-- The buffer with zero in the n bytes from `at` on, where there is room for them; else the buffer as it was.
unfoldable pub cleared_in : List ℕ → ℕ → ℕ → List ℕ
cleared_in out at n = cond (leb (at + n) (length out)) (zeroed out at n) out
