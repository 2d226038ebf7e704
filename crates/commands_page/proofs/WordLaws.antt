-- Words are told apart by their bytes, so a type id is that of one row only.
use Prim.Native.Nat.{ℕ, zero, suc, ◌+◌, ◌≤◌, ◌<◌}
use mathlib.Core.Path.{◌≡◌, refl, ap, ◌∙◌}
use mathlib.Core.Bool.{Bool, true, false, cond, ◌&&◌, ◌||◌}
use mathlib.Core.List.{List, [], ◌∷◌}
use native.Mathlib.Omega.{arith}
use native.Mathlib.Nat.{not-suc-le-zero, le_of_suc-le-suc}
use lib.ListN.{length, get_or}
use lib.Dec.{eqb}
use borrow.Author.Tests.{eqb-true}
use Rattle.sim0mq.specs.Answer.{byte}
use Rattle.sim0mq.proofs.Answers.{and_true}
use Rattle.sim0mq.proofs.Rows.{all_below, below_at}
use Rattle.commands_page.specs.Page.{Row, page, row_at}
use Rattle.commands_page.proofs.PageLaws.{no_row}
use Rattle.commands_page.specs.Judging.{stands_at, is_word, is_one_of, number_from}

-- the bytes of a word that stands
pub stands_bytes : (s : List ℕ) (at : ℕ) (w : List ℕ) → stands_at s at w ≡ true → (i : ℕ) → i < length w → byte s (at + i) ≡ get_or w i 0
unfolding stands_at
stands_bytes s at [] e i h = absurd (not-suc-le-zero h)
stands_bytes s at (b ∷ bs) e zero h =
    let a = and_true (eqb (byte s at) b) (stands_at s (at + 1) bs) e in
    let z : at + 0 ≡ at = omega arith in
    ap (λ (x : ℕ). byte s x) z ∙ eqb-true (byte s at) b a.0
stands_bytes s at (b ∷ bs) e (suc i) h =
    let a = and_true (eqb (byte s at) b) (stands_at s (at + 1) bs) e in
    let z : at + suc i ≡ at + 1 + i = omega arith in
    ap (λ (x : ℕ). byte s x) z ∙ stands_bytes s (at + 1) bs a.1 i (le_of_suc-le-suc h)

-- where the bytes are the same, so is what stands
pub stands_same : (s t : List ℕ) (a b : ℕ) (v : List ℕ) → ((i : ℕ) → i < length v → byte s (a + i) ≡ byte t (b + i)) → stands_at s a v ≡ stands_at t b v
unfolding stands_at
stands_same s t a b [] h = refl
stands_same s t a b (x ∷ v) h =
    let z : a ≡ a + 0 = omega arith in
    let y : b + 0 ≡ b = omega arith in
    let e : byte s a ≡ byte t b = ap (λ (i : ℕ). byte s i) z ∙ h 0 (omega arith) ∙ ap (λ (i : ℕ). byte t i) y in
    let rest = stands_same s t (a + 1) (b + 1) v (λ i l. step i (h (suc i) (omega arith))) in
    (λ j. eqb (e j) x && rest j)
  where
    step : (i : ℕ) → byte s (a + suc i) ≡ byte t (b + suc i) → byte s (a + 1 + i) ≡ byte t (b + 1 + i)
    step i e =
        let p : a + 1 + i ≡ a + suc i = omega arith in
        let q : b + suc i ≡ b + 1 + i = omega arith in
        ap (λ (k : ℕ). byte s k) p ∙ e ∙ ap (λ (k : ℕ). byte t k) q

-- a string that is a word is any other word exactly as that word is
word_same : (s : List ℕ) (at size : ℕ) (w v : List ℕ) → is_word s at size w ≡ true → is_word s at size v ≡ is_word w 0 (length w) v
unfolding is_word
word_same s at size w v e = go (eqb (length w) (length v)) refl
  where
    both : (size ≡ length w) × (stands_at s at w ≡ true)
    both = let a = and_true (eqb size (length w)) (stands_at s at w) e in (eqb-true size (length w) a.0, a.1)

    go : (b : Bool) → eqb (length w) (length v) ≡ b → is_word s at size v ≡ is_word w 0 (length w) v
    go false q = simp (both.0, q)
    go true q =
        let l = eqb-true (length w) (length v) q in
        simp (both.0, q) (stands_same s w at 0 v (λ i h. stands_bytes s at w both.1 i (omega arith) ∙ zero-at i))
      where
        zero-at : (i : ℕ) → get_or w i 0 ≡ byte w (0 + i)
        zero-at i = let z : i ≡ 0 + i = omega arith in ap (λ (k : ℕ). get_or w k 0) z

number_same : (s : List ℕ) (at size : ℕ) (w : List ℕ) (rs : List Row) (j : ℕ) → is_word s at size w ≡ true → number_from s at size rs j ≡ number_from w 0 (length w) rs j
unfolding number_from
number_same s at size w [] j e = refl
number_same s at size w (r ∷ rs) j e =
    let p = word_same s at size w r.id e in
    let q = number_same s at size w rs (j + 1) e in
    (λ i. cond (p i) j (q i))

-- so the row of a type id is the first that has it, and the only one
each_own : (k : ℕ) → k < 18 → number_from (row_at k).id 0 (length (row_at k).id) page 0 ≡ k
unfolding all_below number_from is_word stands_at page row_at
each_own k h =
    eqb-true _ k (below_at (λ (k : ℕ). eqb (number_from (row_at k).id 0 (length (row_at k).id) page 0) k) 18 k refl h)

pub number_only : (s : List ℕ) (at size k : ℕ) → k < 18 → is_word s at size (row_at k).id ≡ true → number_from s at size page 0 ≡ k
number_only s at size k h e = number_same s at size (row_at k).id page 0 e ∙ each_own k h

number_least : (s : List ℕ) (at size : ℕ) (rs : List Row) (j : ℕ) → j ≤ number_from s at size rs j
unfolding number_from
number_least s at size [] j = omega arith
number_least s at size (r ∷ rs) j = go (is_word s at size r.id) (number_least s at size rs (j + 1))
  where
    go : (b : Bool) → j + 1 ≤ number_from s at size rs (j + 1) → j ≤ cond b j (number_from s at size rs (j + 1))
    go true l = omega arith
    go false l = omega arith

number_found : (s : List ℕ) (at size : ℕ) (rs : List Row) (j i : ℕ) → number_from s at size rs j ≡ j + i → i < length rs → is_word s at size (get_or rs i no_row).id ≡ true
unfolding number_from
number_found s at size [] j i e h = absurd (not-suc-le-zero h)
number_found s at size (r ∷ rs) j i e h = go (λ i e h. number_found s at size rs (j + 1) i e h) (is_word s at size r.id) refl i e h
  where
    go : ((i : ℕ) → number_from s at size rs (j + 1) ≡ j + 1 + i → i < length rs → is_word s at size (get_or rs i no_row).id ≡ true)
        → (b : Bool) → is_word s at size r.id ≡ b → (i : ℕ) → cond b j (number_from s at size rs (j + 1)) ≡ j + i → i < suc (length rs) → is_word s at size (get_or (r ∷ rs) i no_row).id ≡ true
    go more true q zero e h = q
    go more true q (suc i) e h = absurd (omega arith)
    go more false q zero e h = absurd (let l = number_least s at size rs (j + 1) in omega arith)
    go more false q (suc i) e h = let z : j + suc i ≡ j + 1 + i = omega arith in more i (e ∙ z) (le_of_suc-le-suc h)

pub number_word : (s : List ℕ) (at size k : ℕ) → k < length page → number_from s at size page 0 ≡ k → is_word s at size (row_at k).id ≡ true
unfolding row_at
number_word s at size k h e = let z : k ≡ 0 + k = omega arith in number_found s at size page 0 k (e ∙ z) h

-- where the bytes of a string are the same, so is what word it is
pub word_agree : (s t : List ℕ) (at size : ℕ) (w : List ℕ) → ((i : ℕ) → i < size → byte s (at + i) ≡ byte t (at + i)) → is_word s at size w ≡ is_word t at size w
unfolding is_word
word_agree s t at size w h = go (eqb size (length w)) refl
  where
    go : (b : Bool) → eqb size (length w) ≡ b → is_word s at size w ≡ is_word t at size w
    go false q = simp q
    go true q = let l = eqb-true size (length w) q in simp q (stands_same s t at at w (λ i k. h i (omega arith)))

pub number_agree : (s t : List ℕ) (at size : ℕ) (rs : List Row) (j : ℕ) → ((i : ℕ) → i < size → byte s (at + i) ≡ byte t (at + i))
    → number_from s at size rs j ≡ number_from t at size rs j
unfolding number_from
number_agree s t at size [] j h = refl
number_agree s t at size (r ∷ rs) j h =
    let p = word_agree s t at size r.id h in
    let q = number_agree s t at size rs (j + 1) h in
    (λ i. cond (p i) j (q i))

pub words_agree : (s t : List ℕ) (at size : ℕ) (ws : List (List ℕ)) → ((i : ℕ) → i < size → byte s (at + i) ≡ byte t (at + i))
    → is_one_of s at size ws ≡ is_one_of t at size ws
unfolding is_one_of
words_agree s t at size [] h = refl
words_agree s t at size (w ∷ ws) h =
    let p = word_agree s t at size w h in
    let q = words_agree s t at size ws h in
    (λ i. p i || q i)
