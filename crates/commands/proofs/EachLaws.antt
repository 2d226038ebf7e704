-- The fields of a command, one by one.
use Prim.Native.Nat.{ℕ, zero, suc, ◌+◌, ◌*◌, ◌≤◌, ◌<◌}
use mathlib.Core.Path.{◌≡◌, refl, ap, sym, ◌∙◌}
use mathlib.Core.Bool.{Bool, true, false}
use mathlib.Core.List.{List, [], ◌∷◌, ◌++◌}
use native.Mathlib.Omega.{arith}
use native.Mathlib.Numerals.{add-one}
use native.Mathlib.Nat.{not-suc-le-zero, le_of_suc-le-suc}
use lib.ListN.{length, get_or, drop, drop_of_length-le}
use lib.Seq.{drop-cons}
use borrow.Author.Tests.{eq-eqb, ne_eqb}
use Rattle.sim0mq.specs.Answer.{fine, refused, byte}
use Rattle.sim0mq.specs.Field.{Field}
use Rattle.sim0mq.specs.Table.{row as row_of, row_size, rows, stored}
use Rattle.commands_page.specs.Page.{Want, Row}
use Rattle.commands_page.specs.Judging.{code_taken, text_taken, passes, want_in, each, no_field}
use Rattle.commands.specs.Tables.{Cell, Held}

module _ (s : List ℕ) (row : Row) (k : ℕ) (fs : List Field) (i : ℕ) where
  abbrev pub test : Bool
  test =
      passes k s (want_in row i) (get_or fs i no_field)

  here : i < length fs → each s row k i (drop i fs) ≡ each s row k i (get_or fs i no_field ∷ drop (i + 1) fs)
  here h = rw (add-one i, drop-cons fs i no_field h)

  pub each_turn : i < length fs → test ≡ true → each s row k i (drop i fs) ≡ each s row k (i + 1) (drop (i + 1) fs)
  unfolding each
  each_turn h e = here h ∙ simp e

  pub each_stop : i < length fs → test ≡ false → each s row k i (drop i fs) ≡ refused k (get_or fs i no_field).place
  unfolding each
  each_stop h e = here h ∙ simp e

  pub each_end : length fs ≤ i → each s row k i (drop i fs) ≡ fine tt
  unfolding each
  each_end h = rw (drop_of_length-le fs h)

-- the table holds the rows that were stored in it
row_cell : (fs : List Field) (rest : List ℕ) (i j : ℕ) → i < length fs → j < row_size
    → get_or (rows fs ++ rest) (row_size * i + j) 0 ≡ get_or (row_of (get_or fs i no_field)) j 0
unfolding rows row_of row_size
row_cell [] rest i j h l = absurd (not-suc-le-zero h)
row_cell (f ∷ fs) rest zero j h l =
    let z : row_size * 0 + j ≡ j = omega arith in
    ap (λ (n : ℕ). get_or (rows (f ∷ fs) ++ rest) n 0) z ∙ in_row j l
  where
    in_row : (j : ℕ) → j < row_size → get_or (row_of f ++ rows fs ++ rest) j 0 ≡ get_or (row_of f) j 0
    in_row zero l = refl
    in_row (suc zero) l = refl
    in_row (suc (suc zero)) l = refl
    in_row (suc (suc (suc zero))) l = refl
    in_row (suc (suc (suc (suc zero)))) l = refl
    in_row (suc (suc (suc (suc (suc zero))))) l = refl
    in_row (suc (suc (suc (suc (suc (suc j)))))) l = absurd (omega arith)
row_cell (f ∷ fs) rest (suc i) j h l =
    let e : row_size * suc i + j ≡ suc (suc (suc (suc (suc (suc (row_size * i + j)))))) = omega arith in
    ap (λ (n : ℕ). get_or (rows (f ∷ fs) ++ rest) n 0) e ∙ row_cell fs rest i j (le_of_suc-le-suc h) l

pub held : (fs : List Field) (t : List ℕ) (n : ℕ) → length fs ≡ n → Held (stored t (rows fs)) n fs
unfolding stored row_of row_size
held fs t n e =
    record {
      many = e;
      cells =
          λ i h.
          let l : i < length fs = omega arith in
          let z : row_size * i + 0 ≡ row_size * i = omega arith in
          record {
            code = ap (λ (k : ℕ). get_or (stored t (rows fs)) k 0) (sym z) ∙ row_cell fs _ i 0 l (omega arith);
            place = row_cell fs _ i 1 l (omega arith);
            first = row_cell fs _ i 2 l (omega arith);
            size = row_cell fs _ i 3 l (omega arith);
          };
    }

-- a field's test, by what the table has of it
module _ (s t : List ℕ) (w : Want) (k at : ℕ) (f : Field) (h : Cell t at f) (b : Bool) where
  pub right_code : (c u place : ℕ) → k ≡ 22 → c ≡ get_or t at 0 → place ≡ get_or t (at + 1) 0 → u ≡ byte s (place + 1)
      → b ≡ code_taken w.codes c u → b ≡ passes k s w f
  unfolding passes
  right_code c u place e p q r z =
      let code = p ∙ h.code in
      let mark = r ∙ ap (λ (x : ℕ). byte s (x + 1)) (q ∙ h.place) in
      z ∙ (λ j. code_taken w.codes (code j) (mark j)) ∙ sym (simp (eq-eqb k 22 e))

  pub right_text : (first size : ℕ) → (k ≡ 22 → ⊥) → first ≡ get_or t (at + 2) 0 → size ≡ get_or t (at + 3) 0
      → b ≡ text_taken w.rule s first size → b ≡ passes k s w f
  unfolding passes
  right_text first size d p q z =
      let from = p ∙ h.first in
      let long = q ∙ h.size in
      z ∙ (λ j. text_taken w.rule s (from j) (long j)) ∙ sym (simp (ne_eqb k 22 d))

-- the loop over the fields
module _ (s t : List ℕ) (row : Row) (k n i : ℕ) (fs : List Field) (h : Held t n fs) (so : each s row k 0 fs ≡ each s row k i (drop i fs)) where
  pub each_refuses : (place : ℕ) → i < n → place ≡ get_or t (row_size * i + 1) 0 → test s row k fs i ≡ false → refused k place ≡ each s row k 0 fs
  each_refuses place l p e =
      let many = h.many in
      let stop = each_stop s row k fs i (omega arith) e in
      let at = p ∙ (h.cells i l).place in
      sym (so ∙ stop ∙ ap (λ (x : ℕ). refused k x) (sym at))

  pub each_goes : i < n → test s row k fs i ≡ true → each s row k 0 fs ≡ each s row k (i + 1) (drop (i + 1) fs)
  each_goes l e = let many = h.many in so ∙ each_turn s row k fs i (omega arith) e

  pub each_ends : n ≤ i → fine tt ≡ each s row k 0 fs
  each_ends l = let many = h.many in sym (so ∙ each_end s row k fs i (omega arith))
