-- A word has bytes and none of them is 0, so it stands in s where its part of s is the same, and nowhere past the end.
use Prim.Native.Nat.{ℕ, suc, ◌+◌, ◌≤◌, ◌<◌}
use mathlib.Core.Path.{◌≡◌, refl, sym, ap, ◌∙◌}
use mathlib.Core.Bool.{Bool, true, false, ◌&&◌}
use mathlib.Core.Logic.{◌⊎◌, inl, inr}
use mathlib.Core.List.{List, [], ◌∷◌}
use native.Mathlib.Omega.{arith}
use native.Mathlib.Numerals.{add-one}
use lib.ListN.{length, take, drop, get_or-eq_default}
use lib.Seq.{drop-cons}
use lib.Dec.{eqb, ltb, leb}
use borrow.Author.Tests.{eq-eqb, ne_eqb, ltb-true, leb-true, leb-false}
use Rattle.std.specs.Str.{bytes_eq}
use Rattle.sim0mq.specs.Answer.{byte}
use Rattle.sim0mq.proofs.Answers.{and_true}
use Rattle.commands_page.specs.Judging.{stands_at, is_word}
use Rattle.commands.specs.Tables.{no_zero, IsWord}

-- a part that is there is compared byte by byte
stands_part : (s : List ℕ) (at : ℕ) (w : List ℕ) → at + length w ≤ length s
    → bytes_eq (take (length w) (drop at s)) w ≡ stands_at s at w
unfolding stands_at
stands_part s at [] h = refl
stands_part s at (b ∷ bs) h =
    let there : drop at s ≡ byte s at ∷ drop (suc at) s = drop-cons s at 0 (omega arith) in
    let later = stands_part s (at + 1) bs (omega arith) in
    ap (λ (l : List ℕ). bytes_eq (take (suc (length bs)) l) (b ∷ bs)) there
    ∙ ap (λ (x : Bool). eqb (byte s at) b && x) (rw (← add-one at) later)

no_and : (b : Bool) → (b && false) ≡ false
no_and true = refl
no_and false = refl

le_or_lt : (m n : ℕ) → (m ≤ n) ⊎ (n < m)
le_or_lt m n = go (leb m n) refl
  where
    go : (b : Bool) → leb m n ≡ b → (m ≤ n) ⊎ (n < m)
    go true e = inl (leb-true m n e)
    go false e = inr (leb-false m n e)

-- past the end there is 0
stands_past : (s : List ℕ) (at : ℕ) (w : List ℕ) → 0 < length w → no_zero w ≡ true → length s < at + length w
    → false ≡ stands_at s at w
unfolding stands_at
stands_past s at [] l z h = absurd (omega arith)
stands_past s at (b ∷ bs) l z h =
    let both = and_true (ltb 0 b) (no_zero bs) z in
    go (le_or_lt (length s) at) (ltb-true 0 b both.0) (λ q. stands_past s (at + 1) bs (omega arith) both.1 (omega arith))
  where
    go : (length s ≤ at) ⊎ (at < length s) → 0 < b → (at < length s → false ≡ stands_at s (at + 1) bs)
        → false ≡ (eqb (byte s at) b && stands_at s (at + 1) bs)
    go (inl e) filled later =
        let none : byte s at ≡ 0 = get_or-eq_default s 0 {n = at} e in
        simp (ne_eqb (byte s at) b (λ q. omega arith))
    go (inr e) filled later = rw (← later e) (sym (no_and (eqb (byte s at) b)))

-- the test of a word
module _ (s : List ℕ) (at size : ℕ) (w : List ℕ) where
  pub word_long : (size ≡ length w → ⊥) → false ≡ is_word s at size w
  unfolding is_word
  word_long h = simp (ne_eqb size (length w) h)

  pub word_past : size ≡ length w → IsWord w → length s < at + size → false ≡ is_word s at size w
  unfolding is_word
  word_past e i h =
      let both = and_true (ltb 0 (length w)) (no_zero w) i in
      simp (eq-eqb size (length w) e) (stands_past s at w (ltb-true 0 (length w) both.0) both.1 (omega arith))

  pub word_part : size ≡ length w → at + size ≤ length s → bytes_eq (take size (drop at s)) w ≡ is_word s at size w
  unfolding is_word
  word_part e h = simp (eq-eqb size (length w) e) (rw e (stands_part s at w (omega arith)))
