-- What is kept, case by case: a field's row is stored where it is asked for and there is room, and what is kept from
-- here on is what is kept of the whole.
use Prim.Native.Nat.{ℕ, zero, suc, ◌+◌, ◌-◌, ◌*◌, ◌/◌, ◌≤◌, ◌<◌}
use mathlib.Core.Path.{◌≡◌, refl, ap, sym, ◌∙◌}
use mathlib.Core.Bool.{Bool, true, false, cond, false≢true}
use mathlib.Core.List.{List, [], ◌∷◌, map}
use native.Mathlib.Omega.{arith}
use native.Mathlib.Numerals.{add-one}
use native.Mathlib.Nat.{not-suc-le-zero}
use lib.ListN.{length}
use lib.Dec.{leb, ltb}
use lib.Seq.{sets, length-sets}
use borrow.Author.Tests.{leb-true, le-leb, lt-leb, lt-ltb, le-ltb}
use Rattle.sim0mq.specs.Answer.{fine, refused}
use Rattle.sim0mq.specs.Field.{Field, field, after}
use Rattle.sim0mq.specs.Payload.{moved}
use Rattle.sim0mq.specs.Table.{row, row_size}
use Rattle.sim0mq.specs.Message.{limit}
use Rattle.reading_heads.proofs.HeadCases.{head_short}
use Rattle.reading_parts.specs.Kept.{first, before_fault, kept_one, kept_all, rows_in, kept_rest}
use Rattle.reading_parts.proofs.PartCases.{field_head_stop}

-- the rows that there are
pub rows_within : (bytes numbers : ℕ) → bytes ≤ limit → numbers / row_size ≡ rows_in bytes numbers
unfolding rows_in
rows_within bytes numbers h = simp (le-leb bytes limit h)

pub rows_none : (bytes numbers : ℕ) → limit < bytes → 0 ≡ rows_in bytes numbers
unfolding rows_in
rows_none bytes numbers h = simp (lt-leb bytes limit h)

pub rows_room : (bytes numbers : ℕ) → row_size * rows_in bytes numbers ≤ numbers
unfolding rows_in row_size
rows_room bytes numbers = go (leb bytes limit)
  where
    go : (b : Bool) → row_size * cond b (numbers / row_size) 0 ≤ numbers
    go true = omega arith
    go false = omega arith

pub rows_some : (bytes numbers : ℕ) → 0 < rows_in bytes numbers → bytes ≤ limit
unfolding rows_in
rows_some bytes numbers h = go (leb bytes limit) refl h
  where
    go : (b : Bool) → leb bytes limit ≡ b → 0 < cond b (numbers / row_size) 0 → bytes ≤ limit
    go true e h = leb-true bytes limit e
    go false e h = absurd (not-suc-le-zero h)

-- one field
module _ (many k i : ℕ) (f : Field) (kept : List ℕ) where
  pub kept_before : i < k → kept ≡ kept_one many k i f kept
  unfolding kept_one
  kept_before h = simp (lt-ltb i k h)

  pub kept_here : k ≤ i → i - k < many → sets kept (row_size * (i - k)) (row f) ≡ kept_one many k i f kept
  unfolding kept_one
  kept_here h l = simp (le-ltb i k h, lt-ltb (i - k) many l)

  pub kept_full : k ≤ i → many ≤ i - k → kept ≡ kept_one many k i f kept
  unfolding kept_one
  kept_full h l = simp (le-ltb i k h, le-ltb (i - k) many l)

  pub kept_rowless : many ≡ 0 → kept ≡ kept_one many k i f kept
  unfolding kept_one
  kept_rowless e = go (ltb i k) (ltb (i - k) many) (ap (ltb (i - k)) e ∙ le-ltb (i - k) 0 (omega arith))
    where
      go : (a b : Bool) → b ≡ false → kept ≡ cond a kept (cond b (sets kept (row_size * (i - k)) (row f)) kept)
      go true b q = refl
      go false true q = absurd (false≢true (sym q))
      go false false q = refl

  pub kept_long : length (kept_one many k i f kept) ≡ length kept
  unfolding kept_one
  kept_long = go (ltb i k) (ltb (i - k) many)
    where
      go : (a b : Bool) → length (cond a kept (cond b (sets kept (row_size * (i - k)) (row f)) kept)) ≡ length kept
      go true b = refl
      go false true = length-sets kept (row_size * (i - k)) (row f)
      go false false = refl

-- the fields before the first fault
module _ (s : List ℕ) (at : ℕ) where
  pub front_none : (n : ℕ) → n ≡ 0 → before_fault s n at ≡ []
  unfolding before_fault
  front_none n e = simp e

  pub front_stop : (n r p : ℕ) → field s at ≡ refused r p → before_fault s n at ≡ []
  unfolding before_fault first
  front_stop zero r p q = refl
  front_stop (suc n) r p q = simp q

  pub front_more : (n m : ℕ) (f : Field) → n ≡ m + 1 → field s at ≡ fine f → before_fault s n at ≡ f ∷ before_fault s m (after f)
  unfolding before_fault first
  front_more n m f e q = simp (e, add-one m, q)

-- past the bytes' end no field stands, and nothing is kept
pub kept_short : (s : List ℕ) (base from n k : ℕ) (kept : List ℕ) → length s < from → kept ≡ kept_rest s base from n k kept
unfolding kept_rest kept_all
kept_short s base from n k kept h =
    let none : before_fault s n from ≡ [] = front_stop s from n 1 (length s) (field_head_stop s from 1 (length s) (head_short s from (omega arith))) in
    simp none

-- at first no field was passed
pub kept_start : (s : List ℕ) (base from n k many : ℕ) (kept : List ℕ) → many ≡ rows_in (base + length s) (length kept)
    → kept_rest s base from n k kept ≡ kept_all many k (n - n) (map (moved base) (before_fault s n from)) kept
unfolding kept_rest
kept_start s base from n k many kept e = let none : 0 ≡ n - n = omega arith in rw (e, ← none) refl

-- what is kept from here on
module _ (s : List ℕ) (base many k : ℕ) (all kept : List ℕ) (left at i : ℕ)
    (whole : all ≡ kept_all many k i (map (moved base) (before_fault s left at)) kept) where
  nothing : before_fault s left at ≡ [] → kept ≡ all
  unfolding kept_all
  nothing e = sym (whole ∙ simp e)

  pub kept_end : left ≡ 0 → kept ≡ all
  kept_end e = nothing (front_none s at left e)

  pub kept_stop : (r p : ℕ) → field s at ≡ refused r p → kept ≡ all
  kept_stop r p q = nothing (front_stop s at left r p q)

  pub kept_more : (m j end : ℕ) (f g : Field) (next : List ℕ) → left ≡ m + 1 → field s at ≡ fine f → after f ≡ end → j ≡ i + 1 → g ≡ f
      → next ≡ kept_one many k i (moved base g) kept
      → (all ≡ kept_all many k j (map (moved base) (before_fault s m end)) next) × (length next ≡ length kept)
  unfolding kept_all
  kept_more m j end f g next e q d c same n =
      (whole ∙ simp (front_more s at left m f e q) (sym (rw (n, c, same, ← d))), ap length n ∙ kept_long many k i (moved base g) kept)
