-- What a text leaves in a buffer where it fits and where it does not: the cases of the code's tests. Assumes nothing.
use Prim.Native.Nat.{ℕ, ◌+◌, ◌<◌, ◌≤◌}
use native.Mathlib.Omega.{arith}
use mathlib.Core.Path.{◌≡◌, refl, ◌∙◌, ap}
use mathlib.Core.Bool.{Bool, true, false}
use mathlib.Core.List.{List}
use lib.Dec.{leb}
use lib.ListN.{length}
use lib.Seq.{paste, length-paste}
use borrow.Author.Tests.{le-leb, lt-leb, leb-true, leb-false}
use Rattle.programs_pieces.specs.Put.{with_text}

-- a text that fits, and one that does not
pub with_fits : (out : List ℕ) (from : ℕ) (t : List ℕ) → from + length t ≤ length out → with_text out from t ≡ paste out from t (length t)
unfolding with_text
with_fits out from t h = rw (le-leb (from + length t) (length out) h)

pub with_over : (out : List ℕ) (from : ℕ) (t : List ℕ) → length out < from + length t → with_text out from t ≡ out
unfolding with_text
with_over out from t h = rw (lt-leb (from + length t) (length out) h)

-- the buffer keeps its length
pub with_length : (out : List ℕ) (from : ℕ) (t : List ℕ) → length (with_text out from t) ≡ length out
with_length out from t = go (leb (from + length t) (length out)) refl
  where
    go : (b : Bool) → leb (from + length t) (length out) ≡ b → length (with_text out from t) ≡ length out
    go true e =
        let h : from + length t ≤ length out = leb-true _ _ e in
        ap length (with_fits out from t h) ∙ length-paste out from t (length t) h (omega arith)
    go false e = ap length (with_over out from t (leb-false _ _ e))
