-- programs_listing::row meets its contract. The invariant: putting the pieces from number j on, where the buffer
-- stands, comes to putting all of them. Assumes nothing.
use Prim.Native.Nat.{ℕ, ◌+◌, ◌<◌, ◌≤◌}
use native.Mathlib.Omega.{arith}
use native.Mathlib.Numerals.{add-one}
use mathlib.Core.Path.{◌≡◌, refl, ◌∙◌, ap}
use mathlib.Core.List.{List, [], ◌∷◌}
use lib.ListN.{length, get_or, drop_of_length-le}
use lib.Seq.{drop-cons}
use Rattle.programs_pieces.specs.Put.{place_after, with_text}
use Rattle.programs_pieces.specs.Decimal.{decimal}
use Rattle.programs_listing.specs.Put.{buffer, put_all}
use Rattle.programs_listing.specs.Text.{ascii, numbers_text, row_text}
use Rattle.programs_listing.proofs.PutCases.{put_none, put_then}
use Rattle.programs_listing.proofs.row.Invariants.{rest_text}
use Rattle.programs_listing.proofs.row.Goals as goal

-- a turn puts a space and a number
turn : (numbers : List ℕ) (j x : ℕ) (out out₁ out₂ : List ℕ) (at at₁ at₂ : ℕ) → j < length numbers → x ≡ get_or numbers j 0
    → at₁ ≡ place_after out at (ascii " ") → out₁ ≡ with_text out at (ascii " ")
    → at₂ ≡ place_after out₁ at₁ (decimal x) → out₂ ≡ with_text out₁ at₁ (decimal x)
    → put_all (buffer out₂ at₂) (rest_text numbers (j + 1)) ≡ put_all (buffer out at) (rest_text numbers j)
unfolding numbers_text
turn numbers j x out out₁ out₂ at at₁ at₂ h ex e₁ f₁ e₂ f₂ =
    put_then _ _ _ _ _ _ _ e₁ f₁ (put_then _ _ _ _ _ _ _ e₂ f₂ refl)
    ∙ rw (ex, add-one j, drop-cons numbers j 0 h)

-- after the last number only the newline is left
ended : (numbers : List ℕ) (j : ℕ) → length numbers ≤ j → ascii "\n" ∷ [] ≡ rest_text numbers j
unfolding numbers_text
ended numbers j h = rw (drop_of_length-le numbers h)

pub loop-x-preserved : goal.loop-x-preserved
loop-x-preserved c =
    turn c.args.numbers.now c.loop-x.x-index c.from.result _ _ _ _ _ _ (omega arith) c.from.ensures
    c.put-at.ensures.value c.put-at.ensures.out_after c.number-at-in-loop-x.ensures.value c.number-at-in-loop-x.ensures.out_after
    ∙ c.loop-x.invariant

pub returns : goal.returns
unfolding row_text
returns c =
    let e = ended c.args.numbers.now c.loop-x.x-index (omega arith) in
    put_then _ _ _ _ _ _ _ c.number-at.ensures.value c.number-at.ensures.out_after
    (put_then _ _ _ _ _ _ _ c.put.ensures.value c.put.ensures.out_after (put_none _)
    ∙ (ap (put_all (buffer c.loop-x.out c.loop-x.at)) e ∙ c.loop-x.invariant))
