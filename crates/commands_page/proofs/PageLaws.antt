-- What holds of every row of the page: it is computed for each of the eighteen, and so it is at row k.
use Prim.Native.Nat.{ℕ, ◌-◌, ◌<◌}
use mathlib.Core.Path.{◌≡◌, refl, ap, sym, ◌∙◌}
use mathlib.Core.Bool.{Bool, true, false, cond, ◌||◌}
use mathlib.Core.List.{List, [], ◌∷◌, map}
use lib.ListN.{length, get_or, get_or-map}
use lib.Dec.{eqb}
use borrow.Author.Tests.{eqb-true}
use Rattle.sim0mq.proofs.Rows.{all_below, below_at}
use Rattle.commands_page.specs.Page.{Want, basic, long, Row, fixed, page, row_at}
use Rattle.commands_page.specs.Judging.{code_taken, want_in}

pub page_long : length page ≡ 18
unfolding page
page_long = refl

abbrev eighteen : List ℕ
eighteen = 0 ∷ 1 ∷ 2 ∷ 3 ∷ 4 ∷ 5 ∷ 6 ∷ 7 ∷ 8 ∷ 9 ∷ 10 ∷ 11 ∷ 12 ∷ 13 ∷ 14 ∷ 15 ∷ 16 ∷ 17 ∷ []

-- what stands past the last row
abbrev pub no_row : Row
no_row = fixed [] 0 []

eighteen_at : (k : ℕ) → k < 18 → get_or eighteen k 18 ≡ k
unfolding all_below
eighteen_at k h = eqb-true _ k (below_at (λ (k : ℕ). eqb (get_or eighteen k 18) k) 18 k refl h)

-- what is computed for each of the rows is so at row k
pub row_by_row : {A : Type 0} (f : Row → A) (g : ℕ → A) → map f page ≡ map g eighteen → f no_row ≡ g 18
    → (k : ℕ) → k < 18 → f (row_at k) ≡ g k
unfolding row_at
row_by_row {A} f g e d k h =
    sym (get_or-map f page k no_row)
    ∙ ap (λ (l : List A). get_or l k (f no_row)) e
    ∙ ap (λ (x : A). get_or (map g eighteen) k x) d
    ∙ get_or-map g eighteen k 18
    ∙ ap g (eighteen_at k h)

-- only FM.2, row 4, has fields by turns
pub row_turns : (k : ℕ) → k < 18 → (row_at k).turns ≡ cond (eqb k 4) (basic ∷ long ∷ []) []
unfolding page
row_turns k h = row_by_row (λ (r : Row). r.turns) (λ (k : ℕ). cond (eqb k 4) (basic ∷ long ∷ []) []) refl refl k h

pub turned : (k : ℕ) → k < 18 → (length (row_at k).turns ≡ 0 → ⊥) → k ≡ 4
turned k h some = go (eqb k 4) refl
  where
    go : (b : Bool) → eqb k 4 ≡ b → k ≡ 4
    go true q = eqb-true k 4 q
    go false q =
        let none : (row_at k).turns ≡ [] = row_turns k h ∙ simp q in absurd (some (ap (λ (x : List Want). length x) none))

-- and six before them, of which the last is an int
pub six_own : (k : ℕ) → k ≡ 4 → length (row_at k).fields ≡ 6
unfolding row_at page
six_own k q = ap (λ (x : ℕ). length (row_at x).fields) q

pub or_no : (b : Bool) → b || false ≡ b
or_no true = refl
or_no false = refl

pub int_wanted : (k c u : ℕ) → k ≡ 4 → code_taken (want_in (row_at k) (length (row_at k).fields - 1)).codes c u ≡ eqb c 2
unfolding row_at page want_in code_taken
int_wanted k c u q = rw (q, or_no)
