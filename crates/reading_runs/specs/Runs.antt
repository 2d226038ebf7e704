-- Fields that are alike: of one code, each one value of any bytes, one after the other (01, "Payload fields").
use Rattle.std.specs.Prelude.{ℕ, zero, suc, ◌+◌, ◌*◌, Bool, false, cond, List, [], ◌∷◌, leb, eqb, length}
use Rattle.sim0mq.specs.Answer.{byte}
use Rattle.sim0mq.specs.Codes.{width_of, boolean}
use Rattle.sim0mq.specs.Field.{Field}
use Rattle.reading_runs.specs.declared.Run.{Run}

-- The bytes of the one value of a field of code c, where they may be any bytes and neither count nor mark stands before
-- them: codes 0 to 8, but for Booleans, which are judged. Any other code has none here.
unfoldable pub plain_size : ℕ → ℕ
plain_size c = cond (leb c 8) (cond (boolean c) 0 (width_of c)) 0

-- The field of code c and one value of w bytes at `at`; and m of them, one after the other.
abbrev pub plain_at : ℕ → ℕ → ℕ → Field
plain_at c w at = record { code = c; place = at; first = at + 1; size = w; marked = 0; values = 1 }

unfoldable pub alike_fields : ℕ → ℕ → ℕ → ℕ → List Field
alike_fields c w zero at = []
alike_fields c w (suc m) at = plain_at c w at ∷ alike_fields c w m (at + (w + 1))

-- The place after them.
unfoldable pub far : ℕ → ℕ → ℕ → ℕ
far w zero at = at
far w (suc m) at = far w m (at + (w + 1))

-- Does a field of code c and one value of w bytes, all there, stand at `at`?
unfoldable pub stands_at : List ℕ → ℕ → ℕ → ℕ → Bool
stands_at s c w at = cond (leb (length s) (at + w)) false (eqb (byte s at) c)

-- How many of them stand one after the other from `at` on, up to n.
unfoldable pub alike : List ℕ → ℕ → ℕ → ℕ → ℕ → ℕ
alike s c w zero at = 0
alike s c w (suc n) at = cond (stands_at s c w at) (suc (alike s c w n (at + (w + 1)))) 0

-- So many fields of code c and one value of w bytes from `at` on, with the place after them.
abbrev pub run_of : ℕ → ℕ → ℕ → ℕ → Run
run_of c w m at = record { code = c; size = w; fields = m; end = at + m * (w + 1) }

-- The run at `at` of up to n fields: of none, where no field stands there that may be of any bytes.
unfoldable pub sized : List ℕ → ℕ → ℕ → ℕ → ℕ → Run
sized s c zero n at = run_of 0 0 0 at
sized s c (suc v) n at = run_of c (suc v) (alike s c (suc v) n at) at

unfoldable pub run_at : List ℕ → ℕ → ℕ → Run
run_at s at zero = run_of 0 0 0 at
run_at s at (suc n) = cond (leb (length s) at) (run_of 0 0 0 at) (sized s (byte s at) (plain_size (byte s at)) (suc n) at)
