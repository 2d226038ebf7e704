-- How the numbers of a run are judged before it is kept, case by case; and a run whose numbers agree can be kept.
use Prim.Native.Nat.{ℕ, ◌+◌, ◌-◌, ◌*◌, ◌/◌, ◌≤◌, ◌<◌}
use mathlib.Core.Path.{◌≡◌, sym, ◌∙◌}
use mathlib.Core.Bool.{true, false}
use mathlib.Core.List.{List, map}
use native.Mathlib.Omega.{arith}
use native.Mathlib.Nat.{mul-le-mul, lt_of_le_of_lt, zero-add}
use lib.ListN.{length}
use lib.Dec.{leb, eqb, lit<}
use borrow.Author.Tests.{le-leb, lt-leb, leb-true, eqb-true, eq-eqb}
use Rattle.sim0mq.specs.Message.{limit}
use Rattle.sim0mq.specs.Payload.{moved}
use Rattle.sim0mq.specs.Table.{row_size}
use Rattle.sim0mq.proofs.Answers.{and_true}
use Rattle.reading_runs.specs.Runs.{alike_fields}
use Rattle.reading_runs.specs.declared.Run.{Run}
use Rattle.reading_runs.proofs.RunLaws.{far_off, Lead}
use Rattle.reading_parts.specs.Kept.{kept_all, Keepable, agrees_at, kept_lead}
use Rattle.reading_parts.proofs.RunCases.{run_far}

-- a product of few and small numbers is small
pub product_small : (m w : ℕ) → m ≤ 65536 → w ≤ 8 → m * (w + 1) < 18446744073709551616
product_small m w h k = lt_of_le_of_lt (bounded (w + 1) (omega arith)) (lit< tt)
  where
    bounded : (q : ℕ) → q ≤ 9 → m * q ≤ 65536 * 9
    bounded q l = mul-le-mul h l

module _ (base : ℕ) (r : Run) where
  pub odd_code : 8 < r.code → false ≡ agrees_at base r
  unfolding agrees_at
  odd_code h = simp (lt-leb r.code 8 h)

  module _ (a : r.code ≤ 8) where
    pub odd-size : 8 < r.size → false ≡ agrees_at base r
    unfolding agrees_at
    odd-size h = simp (le-leb r.code 8 a, lt-leb r.size 8 h)

    module _ (b : r.size ≤ 8) where
      pub odd-fields : limit < r.fields → false ≡ agrees_at base r
      unfolding agrees_at
      odd-fields h = simp (le-leb r.code 8 a, le-leb r.size 8 b, lt-leb r.fields limit h)

      module _ (d : r.fields ≤ limit) where
        pub odd_base : limit < base → false ≡ agrees_at base r
        unfolding agrees_at
        odd_base h = simp (le-leb r.code 8 a, le-leb r.size 8 b, le-leb r.fields limit d, lt-leb base limit h)

        module _ (e : base ≤ limit) where
          pub odd-end : limit - base < r.end → false ≡ agrees_at base r
          unfolding agrees_at
          odd-end h = simp (le-leb r.code 8 a, le-leb r.size 8 b, le-leb r.fields limit d, le-leb base limit e, lt-leb r.end (limit - base) h)

          pub end-told : r.end ≤ limit - base → eqb r.end (r.fields * (r.size + 1)) ≡ agrees_at base r
          unfolding agrees_at
          end-told h = simp (le-leb r.code 8 a, le-leb r.size 8 b, le-leb r.fields limit d, le-leb base limit e, le-leb r.end (limit - base) h)

  pub agrees_keepable : (many : ℕ) → agrees_at base r ≡ true → Keepable many 0 base 0 r
  unfolding agrees_at limit
  agrees_keepable many q =
      let a = and_true (leb r.code 8) _ q in
      let b = and_true (leb r.size 8) _ a.1 in
      let d = and_true (leb r.fields limit) _ b.1 in
      let e = and_true (leb base limit) _ d.1 in
      let f = and_true (leb r.end (limit - base)) _ e.1 in
      let few : r.fields ≤ limit = leb-true _ _ d.0 in
      let low : base ≤ limit = leb-true _ _ e.0 in
      let within : r.end ≤ limit - base = leb-true _ _ f.0 in
      let end = eqb-true _ _ f.1 in
      record {
        counted = omega arith;
        ends = far_off r.size r.fields 0 ∙ zero-add (r.fields * (r.size + 1)) ∙ sym end;
        code = leb-true _ _ a.0;
        size = leb-true _ _ b.0;
        fits = omega arith;
        small = λ some. omega arith;
      }

-- what is kept of a run whose numbers agree, and of one whose do not
module _ (base : ℕ) (r : Run) (kept : List ℕ) where
  pub lead_agrees : agrees_at base r ≡ true
      → kept_all (length kept / row_size) 0 0 (map (moved base) (alike_fields r.code r.size r.fields 0)) kept ≡ kept_lead base r kept
  unfolding kept_lead
  lead_agrees q = simp q

  pub lead_differs : agrees_at base r ≡ false → kept ≡ kept_lead base r kept
  unfolding kept_lead
  lead_differs q = simp q

-- the numbers of a run that stands at the front of a part agree
pub lead_agreed : (s : List ℕ) (base n : ℕ) (r : Run) → Lead s 0 n r → base + length s ≤ limit → agrees_at base r ≡ true
unfolding limit
lead_agreed s base n r run h =
    let end : r.end ≡ r.fields * (r.size + 1) = sym run.ends ∙ far_off r.size r.fields 0 ∙ zero-add (r.fields * (r.size + 1)) in
    let within = run.within (omega arith) in
    let many = run_far s 0 n r run in
    sym (end-told base r run.code run.size (omega arith) (omega arith) (omega arith)) ∙ eq-eqb r.end (r.fields * (r.size + 1)) end
