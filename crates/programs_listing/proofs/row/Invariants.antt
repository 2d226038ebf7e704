use mathlib.Core.Path.{◌≡◌}
use mathlib.Core.List.{List, [], ◌∷◌, ◌++◌}
use lib.ListN.{drop}
use Prim.Native.Nat.{ℕ}
use Rattle.programs_listing.specs.Put.{buffer, put_all}
use Rattle.programs_listing.specs.Text.{ascii, numbers_text}
use Rattle.programs_listing.proofs.row.Given as goal

-- the pieces of a row from number j on
abbrev pub rest_text : List ℕ → ℕ → List (List ℕ)
rest_text numbers j = numbers_text (drop j numbers) ++ (ascii "\n" ∷ [])

abbrev pub invariant-loop-x : goal.invariant-loop-x
invariant-loop-x l = put_all (buffer l.out l.at) (rest_text l.numbers l.x-index) ≡ put_all (buffer l.initial.out l.initial.at) (rest_text l.numbers 0)
