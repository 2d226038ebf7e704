-- A run is fields of the format: each field that it counts is accepted as it stands, and the next begins where it ends.
use Prim.Native.Nat.{ℕ, zero, suc, ◌+◌, ◌*◌, ◌≤◌, ◌<◌}
use mathlib.Core.Path.{◌≡◌, refl, sym, ap, ◌∙◌, subst}
use mathlib.Core.Bool.{Bool, true, false, cond}
use mathlib.Core.List.{List}
use native.Mathlib.Omega.{arith}
use native.Mathlib.Nat.{add-zero, zero-mul, one-mul, suc-mul}
use lib.ListN.{length}
use lib.Dec.{leb, eqb}
use borrow.Author.Tests.{le-leb, leb-true, eqb-true}
use Rattle.sim0mq.specs.Answer.{fine, byte}
use Rattle.sim0mq.specs.Codes.{code_known, counts_of, marking_of, width_of, boolean}
use Rattle.sim0mq.specs.Mark.{marks}
use Rattle.sim0mq.specs.Field.{counts, mark_count, head_rest, head, booleans, booleans_of, outline, field}
use Rattle.sim0mq.proofs.Rows.{all_below, below_at, eight_wide}
use Rattle.reading_runs.specs.Runs.{plain_size, plain_at, far, stands_at, alike, run_of, sized, run_at}
use Rattle.reading_runs.specs.declared.Run.{Run}
use Rattle.reading_runs.proofs.RunCases.{stands_is}

-- what a code that has a size asks for: no count, no mark, one value of that size, which is no Boolean
pub record Plain (c w : ℕ) : Type 0 where
  pub known : c ≤ 8
  pub uncounted : counts_of c ≡ 0
  pub unmarked : marking_of c ≡ 0
  pub wide : width_of c ≡ w
  pub any : boolean c ≡ false

plain : (c w : ℕ) → w ≡ plain_size c → 0 < w → Plain c w
unfolding plain_size all_below counts_of marking_of
plain c w q p = go (leb c 8) (boolean c) refl refl q
  where
    go : (a b : Bool) → leb c 8 ≡ a → boolean c ≡ b → w ≡ cond a (cond b 0 (width_of c)) 0 → Plain c w
    go true false known any q =
        let within = leb-true c 8 known in
        record {
          known = within;
          uncounted = eqb-true _ _ (below_at (λ (k : ℕ). eqb (counts_of k) 0) 9 c refl (omega arith));
          unmarked = eqb-true _ _ (below_at (λ (k : ℕ). eqb (marking_of k) 0) 9 c refl (omega arith));
          wide = sym q;
          any = any;
        }
    go true true known any q = absurd (let z : w ≡ 0 = q in omega arith)
    go false b known any q = absurd (let z : w ≡ 0 = q in omega arith)

-- so a field of that code that is all there is accepted, whatever its value
pub plain_field : (s : List ℕ) (c w at : ℕ) → Plain c w → stands_at s c w at ≡ true → field s at ≡ fine (plain_at c w at)
unfolding field outline head head_rest code_known counts mark_count marks booleans_of booleans
plain_field s c w at p e =
    let there = stands_is s c w at e in
    let within = there.0 in
    let last = p.known in
    let size : 1 * w ≡ w = one-mul w in
    simp
    (le-leb (at + 1) (length s) (omega arith), there.1, le-leb c 32 (omega arith), p.uncounted, p.unmarked, p.wide, size, le-leb (at + 1 + w) (length s) (omega arith), p.any)

-- the fields that a run counts, each accepted
unfoldable pub Standing : List ℕ → ℕ → ℕ → ℕ → ℕ → Type 0
Standing s c w zero at = Unit {0}
Standing s c w (suc m) at = (field s at ≡ fine (plain_at c w at)) × Standing s c w m (at + (w + 1))

pub far_off : (w m at : ℕ) → far w m at ≡ at + m * (w + 1)
unfolding far
far_off w zero at = sym (ap (λ (k : ℕ). at + k) (zero-mul (w + 1)) ∙ add-zero at)
far_off w (suc m) at = far_off w m (at + (w + 1)) ∙ further (m * (w + 1)) (suc m * (w + 1)) (suc-mul m (w + 1))
  where
    further : (p q : ℕ) → q ≡ p + (w + 1) → at + (w + 1) + p ≡ at + q
    further p q d = omega arith

pub far_on : (w m at : ℕ) → at ≤ far w m at
unfolding far
far_on w zero at = omega arith
far_on w (suc m) at = let further = far_on w m (at + (w + 1)) in omega arith

-- what a run is of: no more fields than asked for, which stand one after the other and end in the bytes
pub record Lead (s : List ℕ) (at n : ℕ) (r : Run) : Type 0 where
  pub code : r.code ≤ 8
  pub size : r.size ≤ 8
  pub stand : Standing s r.code r.size r.fields at
  pub ends : far r.size r.fields at ≡ r.end
  pub most : r.fields ≤ n
  pub within : at ≤ length s → r.end ≤ length s

none : (s : List ℕ) (at n : ℕ) → Lead s at n (run_of 0 0 0 at)
unfolding Standing far
none s at n =
    let end : at ≡ at + 0 = sym (add-zero at) in
    record { code = omega arith; size = omega arith; stand = tt; ends = end; most = omega arith; within = λ h. omega arith }

module _ (s : List ℕ) (c w : ℕ) (p : Plain c w) where
  abbrev Counted : ℕ → ℕ → ℕ → Type 0
  Counted m n at = Standing s c w m at × (m ≤ n) × (at ≤ length s → far w m at ≤ length s)

  counted : (n at : ℕ) → Counted (alike s c w n at) n at
  unfolding alike Standing far
  counted zero at = (tt, omega arith, λ h. h)
  counted (suc n) at = go (stands_at s c w at) refl (counted n (at + (w + 1)))
    where
      go : (b : Bool) → stands_at s c w at ≡ b → Counted (alike s c w n (at + (w + 1))) n (at + (w + 1))
          → Counted (cond b (suc (alike s c w n (at + (w + 1)))) 0) (suc n) at
      go false e rest = (tt, omega arith, λ h. h)
      go true e rest =
          let fewer = rest.1 in
          let there = (stands_is s c w at e).0 in
          ((plain_field s c w at p e, rest.0), omega arith, λ h. rest.2 (omega arith))

sized_lead : (s : List ℕ) (c w n at : ℕ) → w ≡ plain_size c → Lead s at n (sized s c w n at)
unfolding sized
sized_lead s c zero n at q = none s at n
sized_lead s c (suc v) n at q =
    let p = plain c (suc v) q (omega arith) in
    let all = counted s c (suc v) p n at in
    let off = far_off (suc v) (alike s c (suc v) n at) at in
    record { code = p.known; size = subst (λ (k : ℕ). k ≤ 8) p.wide (eight_wide c); stand = all.0; ends = off; most = all.1; within = λ h. subst (λ (k : ℕ). k ≤ length s) off (all.2 h) }

pub lead : (s : List ℕ) (at n : ℕ) (r : Run) → r ≡ run_at s at n → Lead s at n r
unfolding run_at
lead s at n r e = subst (Lead s at n) (sym e) (at-any n)
  where
    past : (b : Bool) (n : ℕ) → Lead s at n (cond b (run_of 0 0 0 at) (sized s (byte s at) (plain_size (byte s at)) n at))
    past true n = none s at n
    past false n = sized_lead s (byte s at) (plain_size (byte s at)) n at refl

    at-any : (n : ℕ) → Lead s at n (run_at s at n)
    at-any zero = none s at zero
    at-any (suc n) = past (leb (length s) at) (suc n)
