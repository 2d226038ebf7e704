-- What the code has of a command is what its row has, and the first name whose id is found is the row that is found.
use Prim.Native.Nat.{ℕ, suc, ◌+◌, ◌-◌, ◌%◌, ◌≤◌, ◌<◌}
use mathlib.Core.Path.{◌≡◌, refl, ap, sym, ◌∙◌}
use mathlib.Core.Bool.{Bool, true, false, cond}
use mathlib.Core.List.{List, [], ◌∷◌, map}
use native.Mathlib.Omega.{arith}
use lib.ListN.{length, get_or, get_or-map, length-map}
use lib.Dec.{eqb}
use borrow.Author.Tests.{eq-eqb, ne_eqb, lt-ltb, le-ltb}
use Rattle.std.specs.Prelude.{Option, Some, None}
use Rattle.std.specs.List.{find}
use Rattle.commands_page.specs.Page.{Want, string, basic, long, Row, page, row_at}
use Rattle.commands_page.specs.Judging.{is_word, want_in, number_from}
use Rattle.commands_page.proofs.PageLaws.{row_by_row, row_turns}
use Rattle.commands.specs.declared.Name.{Name}
use Rattle.commands.specs.declared.Name.TheVariants.{SimReset}
use Rattle.commands.specs.declared.Wanted.{Wanted}
use Rattle.commands.specs.declared.Wanted.TheVariants.{Text}
use Rattle.commands.specs.declared.TheConstants.{NAMES}
use Rattle.commands.specs.Names.{id_of, number_of, repeats_of}
use Rattle.commands.specs.Tables.{want_of}
use Rattle.commands.proofs.NameLaws.{in_page, same_name}

-- only FM.7, row 12, is a change
row_status : (k : ℕ) → k < 18 → (row_at k).status ≡ cond (eqb k 12) 2 1
unfolding page
row_status k h =
    row_by_row (λ (r : Row). r.status) (λ (k : ℕ). cond (eqb k 12) 2 (cond (eqb k 18) 0 1)) refl refl k h
    ∙ simp (ne_eqb k 18 (λ e. omega arith))

pub status_change : (c : Name) → c ≡ SimReset → 2 ≡ (row_at (number_of c)).status
status_change c e = sym (row_status (number_of c) (in_page c) ∙ simp (eq-eqb (number_of c) 12 (ap number_of e)))

pub status_new : (c : Name) → (c ≡ SimReset → ⊥) → 1 ≡ (row_at (number_of c)).status
status_new c d =
    sym (row_status (number_of c) (in_page c) ∙ simp (ne_eqb (number_of c) 12 (λ e. d (same_name c SimReset e))))

-- the want of a field: one of the row's, and in FM.2 by turns
module _ (c : Name) (ws : List Wanted) (own : map want_of ws ≡ (row_at (number_of c)).fields) where
  pub many_own : length (row_at (number_of c)).fields ≡ length ws
  many_own = sym (ap length own) ∙ length-map ws want_of

  module _ (i : ℕ) where
    pub want_own : i < length ws → want_of (get_or ws i Text) ≡ want_in (row_at (number_of c)) i
    unfolding want_in
    want_own l =
        let inside = lt-ltb i (length (row_at (number_of c)).fields) (let e = many_own in omega arith) in
        sym (simp inside (ap (λ (x : List Want). get_or x i string) (sym own) ∙ get_or-map want_of ws i Text))

    past : length ws ≤ i
        → want_in (row_at (number_of c)) i ≡ get_or (cond (repeats_of c) (basic ∷ long ∷ []) []) ((i - length ws) % 2) string
    unfolding want_in
    past l =
        let outside = le-ltb i (length (row_at (number_of c)).fields) (let e = many_own in omega arith) in
        let turns = row_turns (number_of c) (in_page c) in
        simp outside (λ j. get_or (turns j) ((i - many_own j) % 2) string)

    pub want_none : length ws ≤ i → repeats_of c ≡ false → string ≡ want_in (row_at (number_of c)) i
    want_none l r = sym (past l ∙ rw r refl)

    pub want_basic : length ws ≤ i → repeats_of c ≡ true → (i - length ws) % 2 ≡ 0
        → basic ≡ want_in (row_at (number_of c)) i
    want_basic l r e = sym (past l ∙ rw (r, e) refl)

    pub want_long : length ws ≤ i → repeats_of c ≡ true → ((i - length ws) % 2 ≡ 0 → ⊥)
        → long ≡ want_in (row_at (number_of c)) i
    want_long l r d = let e : (i - length ws) % 2 ≡ 1 = odd (i - length ws) d in sym (past l ∙ rw (r, e) refl)
      where
        odd : (m : ℕ) → (m % 2 ≡ 0 → ⊥) → m % 2 ≡ 1
        odd m d = omega arith

-- these names have the ids of these rows, which are counted from k on
Follows : List Name → List Row → ℕ → Type 0
Follows [] [] k = Unit {0}
Follows [] (r ∷ rs) k = ⊥
Follows (c ∷ cs) [] k = ⊥
Follows (c ∷ cs) (r ∷ rs) k = (r.id ≡ id_of c) × (number_of c ≡ k) × Follows cs rs (k + 1)

-- the row of a name that is found, and else the number after the last
abbrev row_found : ℕ → Option Name → ℕ
row_found n (Some c) = number_of c
row_found n None = n

module _ (s : List ℕ) (at size : ℕ) where
  found : (cs : List Name) (rs : List Row) (k : ℕ) → Follows cs rs k
      → number_from s at size rs k ≡ row_found (k + length rs) (find (λ c. is_word s at size (id_of c)) cs)
  unfolding number_from Follows
  found [] [] k f = omega arith
  found [] (r ∷ rs) k f = absurd f
  found (c ∷ cs) [] k f = absurd f
  found (c ∷ cs) (r ∷ rs) k f =
      let more : k + 1 + length rs ≡ k + suc (length rs) = omega arith in
      let later = found cs rs (k + 1) f.2 ∙ ap (λ (n : ℕ). row_found n (find (λ c. is_word s at size (id_of c)) cs)) more in
      rw f.0 (go (is_word s at size (id_of c)) later)
    where
      go : (b : Bool) → number_from s at size rs (k + 1) ≡ row_found (k + suc (length rs)) (find (λ c. is_word s at size (id_of c)) cs)
          → cond b k (number_from s at size rs (k + 1))
          ≡ row_found (k + suc (length rs)) (cond b (Some c) (find (λ c. is_word s at size (id_of c)) cs))
      go true later = sym f.1
      go false later = later

  all_follow : Follows NAMES page 0
  unfolding Follows page
  all_follow = (
    refl,
    refl,
    (
      refl,
      refl,
      (
        refl,
        refl,
        (
          refl,
          refl,
          (
            refl,
            refl,
            (
              refl,
              refl,
              (
                refl,
                refl,
                (
                  refl,
                  refl,
                  (
                    refl,
                    refl,
                    (
                      refl,
                      refl,
                      (
                        refl,
                        refl,
                        (
                          refl,
                          refl,
                          (
                            refl,
                            refl,
                            (
                              refl,
                              refl,
                              (
                                refl,
                                refl,
                                (
                                  refl,
                                  refl,
                                  (
                                    refl,
                                    refl,
                                    (
                                      refl,
                                      refl,
                                      tt,
                                    ),
                                  ),
                                ),
                              ),
                            ),
                          ),
                        ),
                      ),
                    ),
                  ),
                ),
              ),
            ),
          ),
        ),
      ),
    ),
  )

  module _ (o : Option Name) (e : o ≡ find (λ c. is_word s at size (id_of c)) NAMES) where
    by_name : number_from s at size page 0 ≡ row_found 18 o
    unfolding page
    by_name = found NAMES page 0 all_follow ∙ ap (row_found 18) (sym e)

    pub number_named : (c : Name) → o ≡ Some c → number_of c ≡ number_from s at size page 0
    number_named c q = sym (by_name ∙ ap (row_found 18) q)

    pub number_none : o ≡ None → 18 ≡ number_from s at size page 0
    number_none q = sym (by_name ∙ ap (row_found 18) q)
