-- What putting one text into a buffer does. Assumes nothing.
use Rattle.std.specs.Prelude.{ℕ, ◌+◌, min, cond, List, leb, length}
use Rattle.std.proofs.Math.Seq.{paste}

-- the place after a text put from `from` on: one past the end of `out` where the text does not fit
unfoldable pub place_after : List ℕ → ℕ → List ℕ → ℕ
place_after out from text = min (from + length text) (length out + 1)

-- `out` with a text put from `from` on: as it was where the text does not fit
unfoldable pub with_text : List ℕ → ℕ → List ℕ → List ℕ
with_text out from text = cond (leb (from + length text) (length out)) (paste out from text (length text)) out
