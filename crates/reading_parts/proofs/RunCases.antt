-- Fields that are alike, in a part: they are judged and kept one after the other, as fields are.
use Prim.Native.Nat.{ℕ, zero, suc, ◌+◌, ◌-◌, ◌*◌, ◌≤◌, ◌<◌}
use mathlib.Core.Path.{◌≡◌, refl, ap, sym, ◌∙◌, subst}
use mathlib.Core.List.{List, [], ◌∷◌, map}
use native.Mathlib.Omega.{arith}
use native.Mathlib.Numerals.{add-one}
use native.Mathlib.Nat.{add-zero}
use lib.ListN.{length}
use Rattle.sim0mq.specs.Field.{Field, after}
use Rattle.sim0mq.specs.Payload.{moved}
use Rattle.reading_runs.specs.Runs.{plain_at, alike_fields, far}
use Rattle.reading_runs.specs.declared.Run.{Run}
use Rattle.reading_runs.proofs.RunLaws.{Standing, far_off, far_on, Lead}
use Rattle.sim0mq.specs.Message.{limit}
use Rattle.reading_parts.specs.Parts.{steps_from}
use Rattle.reading_parts.specs.Kept.{before_fault, kept_one, kept_all, rows_in, Small, Keepable}
use Rattle.reading_parts.proofs.PartCases.{steps_more}
use Rattle.reading_parts.proofs.KeptCases.{rows_some, front_more, kept_before, kept_rowless, kept_long}

-- what is kept of them: nothing where there is no row, nothing before field k, else the first and those after it
module _ (many k base c w : ℕ) where
  pub run_unkept : (m i at : ℕ) (kept : List ℕ) → many ≡ 0 → kept ≡ kept_all many k i (map (moved base) (alike_fields c w m at)) kept
  unfolding kept_all alike_fields
  run_unkept zero i at kept e = refl
  run_unkept (suc m) i at kept e =
      let here = kept_rowless many k i (moved base (plain_at c w at)) kept e in
      run_unkept m (i + 1) (at + (w + 1)) kept e
      ∙ ap (kept_all many k (i + 1) (map (moved base) (alike_fields c w m (at + (w + 1))))) here

  pub run_turn : (m l i at : ℕ) (kept : List ℕ) → m ≡ l + 1
      → kept_all many k i (map (moved base) (alike_fields c w m at)) kept
      ≡ kept_all many k (i + 1) (map (moved base) (alike_fields c w l (at + (w + 1)))) (kept_one many k i (moved base (plain_at c w at)) kept)
  unfolding kept_all alike_fields
  run_turn m l i at kept e = simp (e, add-one l)

  pub run_done : (m i at : ℕ) (kept : List ℕ) → m ≡ 0 → kept_all many k i (map (moved base) (alike_fields c w m at)) kept ≡ kept
  unfolding kept_all alike_fields
  run_done m i at kept e = simp e

pub far_turn : (w m l at : ℕ) → m ≡ l + 1 → far w m at ≡ far w l (at + (w + 1))
unfolding far
far_turn w m l at e = simp (e, add-one l)

-- the one field of a run
pub run_one : (many k base c w m i at : ℕ) (kept next : List ℕ) (g : Field) → m ≡ 1 → g ≡ plain_at c w at → next ≡ kept_one many k i (moved base g) kept
    → next ≡ kept_all many k i (map (moved base) (alike_fields c w m at)) kept
run_one many k base c w m i at kept next g e same n =
    let turn = run_turn many k base c w m 0 i at kept e in
    let done = run_done many k base c w 0 (i + 1) (at + (w + 1)) (kept_one many k i (moved base (plain_at c w at)) kept) refl in
    n ∙ ap (λ (f : Field). kept_one many k i (moved base f) kept) same ∙ sym (turn ∙ done)

-- those before field k are passed over
pub run_skip : (many k base c w j m i at : ℕ) (kept : List ℕ) → j ≤ m → (0 < j → i + j ≤ k)
    → (kept_all many k i (map (moved base) (alike_fields c w m at)) kept ≡ kept_all many k (i + j) (map (moved base) (alike_fields c w (m - j) (far w j at))) kept)
    × (far w (m - j) (far w j at) ≡ far w m at)
unfolding far
run_skip many k base c w zero m i at kept h b =
    let same : m - 0 ≡ m = omega arith in
    let first : i + 0 ≡ i = add-zero i in
    (rw (same, first) refl, rw same refl)
run_skip many k base c w (suc j) m i at kept h b =
    let up = b (omega arith) in
    let turn = run_turn many k base c w m (m - 1) i at kept (omega arith) in
    let before = sym (kept_before many k i (moved base (plain_at c w at)) kept (omega arith)) in
    let rest = run_skip many k base c w j (m - 1) (i + 1) (at + (w + 1)) kept (omega arith) (λ some. omega arith) in
    let left : m - 1 - j ≡ m - suc j = omega arith in
    let place : i + 1 + j ≡ i + suc j = omega arith in (
      turn ∙ ap (kept_all many k (i + 1) (map (moved base) (alike_fields c w (m - 1) (at + (w + 1))))) before ∙ rest.0 ∙ rw (left, place) refl,
      rw (← left) rest.1 ∙ sym (far_turn w m (m - 1) at (omega arith)),
    )

-- they end where the others begin, within the run
pub run_reach : (w j m at end : ℕ) → j ≤ m → far w m at ≡ end → at + j * (w + 1) ≤ end
run_reach w j m at end h e =
    let skip = (run_skip 0 (0 + j) 0 0 w j m 0 at [] h (λ some. omega arith)).1 in
    let on = far_on w (m - j) (far w j at) in
    subst (λ (x : ℕ). x ≤ end) (far_off w j at) (subst (λ (x : ℕ). far w j at ≤ x) (skip ∙ e) on)

-- the fields of a run after those that are passed over
pub run_start : (many k base c w j m i at end : ℕ) (kept : List ℕ) → j ≤ m → (0 < j → i + j ≤ k) → far w m at ≡ end
    → (kept_all many k i (map (moved base) (alike_fields c w m at)) kept
    ≡ kept_all many k (i + j) (map (moved base) (alike_fields c w (m - j) (at + j * (w + 1)))) kept)
    × (far w (m - j) (at + j * (w + 1)) ≡ end)
run_start many k base c w j m i at end kept h b e =
    let skip = run_skip many k base c w j m i at kept h b in
    let off = far_off w j at in
    (skip.0 ∙ rw off refl, rw (← off) (skip.1 ∙ e))

-- one more of them kept, with those from the next on
pub run_kept : (many k base c w m i j p : ℕ) (all kept next : List ℕ) (g : Field)
    → all ≡ kept_all many k (i + j) (map (moved base) (alike_fields c w (m - j) p)) kept → j < m → g ≡ plain_at c w p
    → next ≡ kept_one many k (i + j) (moved base g) kept
    → (all ≡ kept_all many k (i + (j + 1)) (map (moved base) (alike_fields c w (m - (j + 1)) (p + (w + 1)))) next) × (length next ≡ length kept)
run_kept many k base c w m i j p all kept next g e h same n =
    let turn = run_turn many k base c w (m - j) (m - (j + 1)) (i + j) p kept (omega arith) in
    let place : i + j + 1 ≡ i + (j + 1) = omega arith in
    let here : kept_one many k (i + j) (moved base (plain_at c w p)) kept ≡ next = sym (n ∙ ap (λ (f : Field). kept_one many k (i + j) (moved base f) kept) same) in
    (e ∙ turn ∙ rw (place, here) refl, ap length n ∙ kept_long many k (i + j) (moved base g) kept)

-- the next of them begins where this one ends, and all end where the run does
pub run_next : (w m j p end : ℕ) → j < m → far w (m - j) p ≡ end → (far w (m - (j + 1)) (p + (w + 1)) ≡ end) × (p + (w + 1) ≤ end)
run_next w m j p end h e =
    let on : far w (m - (j + 1)) (p + (w + 1)) ≡ end = sym (far_turn w (m - j) (m - (j + 1)) p (omega arith)) ∙ e in
    let further = far_on w (m - (j + 1)) (p + (w + 1)) in
    (on, omega arith)

-- their numbers fit 32 bits where the run's do
pub run_small : (base c w p end : ℕ) → c ≤ 8 → w ≤ 8 → p + (w + 1) ≤ end → base + end < 4294967296 → Small base (plain_at c w p)
run_small base c w p end hc hw h l =
    record { code = omega arith; place = omega arith; first = omega arith; size = omega arith; marked = omega arith; values = omega arith }

-- fields that stand one after the other are judged, and kept, as those that a run has
module _ (s : List ℕ) (base c w : ℕ) where
  pub after_plain : (at : ℕ) → after (plain_at c w at) ≡ at + (w + 1)
  unfolding after
  after_plain at = omega arith

  pub steps_run : (m n left at k j end : ℕ) → Standing s c w m at → far w m at ≡ end → n ≡ m + left → j ≡ k + m
      → steps_from s n at k ≡ steps_from s left end j
  unfolding Standing far
  steps_run zero n left at k j end st e q d =
      let same : n ≡ left = omega arith in
      let none : k ≡ j = omega arith in
      rw (same, none, e) refl
  steps_run (suc m) n left at k j end st e q d =
      steps_more s at k n (m + left) (k + 1) (at + (w + 1)) (plain_at c w at) (omega arith) st.0 (after_plain at) (omega arith)
      ∙ steps_run m (m + left) left (at + (w + 1)) (k + 1) j end st.1 e refl (omega arith)

  front_run : (many k m n left at i j end : ℕ) (kept : List ℕ) → Standing s c w m at → far w m at ≡ end → n ≡ m + left → j ≡ i + m
      → kept_all many k i (map (moved base) (before_fault s n at)) kept
      ≡ kept_all many k j (map (moved base) (before_fault s left end)) (kept_all many k i (map (moved base) (alike_fields c w m at)) kept)
  unfolding Standing far kept_all alike_fields
  front_run many k zero n left at i j end kept st e q d =
      let same : n ≡ left = omega arith in
      let none : i ≡ j = omega arith in
      rw (same, none, e) refl
  front_run many k (suc m) n left at i j end kept st e q d =
      let first : before_fault s n at ≡ plain_at c w at ∷ before_fault s (m + left) (at + (w + 1))
      = front_more s at n (m + left) (plain_at c w at) (omega arith) st.0
      ∙ ap (λ (p : ℕ). plain_at c w at ∷ before_fault s (m + left) p) (after_plain at) in
      ap (λ (fs : List Field). kept_all many k i (map (moved base) fs) kept) first
      ∙ front_run many k m (m + left) left (at + (w + 1)) (i + 1) j end (kept_one many k i (moved base (plain_at c w at)) kept) st.1 e refl (omega arith)

  all_long : (many k i : ℕ) (fs : List Field) (kept : List ℕ) → length (kept_all many k i fs kept) ≡ length kept
  unfolding kept_all
  all_long many k i [] kept = refl
  all_long many k i (f ∷ fs) kept = all_long many k (i + 1) fs (kept_one many k i f kept) ∙ kept_long many k i f kept

  pub kept_run : (many k m n left at i j end : ℕ) (all kept next : List ℕ) → all ≡ kept_all many k i (map (moved base) (before_fault s n at)) kept
      → Standing s c w m at → far w m at ≡ end → n ≡ m + left → j ≡ i + m
      → next ≡ kept_all many k i (map (moved base) (alike_fields c w m at)) kept
      → (all ≡ kept_all many k j (map (moved base) (before_fault s left end)) next) × (length next ≡ length kept)
  kept_run many k m n left at i j end all kept next whole st e q d here =
      (whole ∙ front_run many k m n left at i j end kept st e q d ∙ ap (kept_all many k j (map (moved base) (before_fault s left end))) (sym here), ap length here ∙ all_long many k i (map (moved base) (alike_fields c w m at)) kept)

-- a run of a part can be kept
pub run_goes : (s : List ℕ) (base many i at left numbers : ℕ) (r : Run) → Lead s at left r → at ≤ length s → length s < 18446744073709551616
    → i + left < 18446744073709551616 → many ≡ rows_in (base + length s) numbers → Keepable many i base at r
unfolding limit
run_goes s base many i at left numbers r run h long counted rowed =
    let most = run.most in
    let ends = run.within h in
    record {
      counted = omega arith;
      ends = run.ends;
      code = run.code;
      size = run.size;
      fits = omega arith;
      small = λ some. (let short = rows_some _ _ (subst (λ (m : ℕ). 0 < m) rowed some) in omega arith);
    }

-- each of its fields has a byte at least
far_many : (w m at : ℕ) → at + m ≤ far w m at
unfolding far
far_many w zero at = omega arith
far_many w (suc m) at = let further = far_many w m (at + (w + 1)) in omega arith

pub run_far : (s : List ℕ) (at n : ℕ) (r : Run) → Lead s at n r → at + r.fields ≤ r.end
run_far s at n r run = subst (λ (e : ℕ). at + r.fields ≤ e) run.ends (far_many r.size r.fields at)

-- the one field of a run ends where the run does
pub run_step : (w m at end : ℕ) → m ≡ 1 → far w m at ≡ end → at + (w + 1) ≤ end
run_step w m at end e q =
    let turn = far_turn w m 0 at e in
    let on = far_on w 0 (at + (w + 1)) in
    subst (λ (x : ℕ). at + (w + 1) ≤ x) (sym turn ∙ q) on
