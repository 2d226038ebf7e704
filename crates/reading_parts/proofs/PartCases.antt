-- How a part's judge goes on from a place, case by case, with the steps counted so far: what the two loops of the code
-- cite.
use Prim.Native.Nat.{ℕ, zero, suc, ◌+◌, ◌-◌, ◌*◌, ◌≤◌, ◌<◌}
use mathlib.Core.Path.{◌≡◌, refl, ap, ◌∙◌, subst}
use mathlib.Core.List.{List, ◌∷◌}
use native.Mathlib.Omega.{arith}
use native.Mathlib.Numerals.{add-one}
use native.Mathlib.Nat.{add-zero, le-mul_of_pos_right}
use lib.ListN.{length}
use borrow.Author.Tests.{le-leb, lt-leb, leb-true}
use Rattle.sim0mq.specs.Answer.{Answer, fine, refused, ◌>>=◌, need, byte}
use Rattle.sim0mq.specs.Codes.{code_known, counts_of, width_of}
use Rattle.sim0mq.specs.Mark.{mark, marks}
use Rattle.sim0mq.specs.Field.{count, Counted, counts, Head, head_rest, head, booleans, booleans_of, Field, field_of, after, outline, field}
use Rattle.sim0mq.specs.Payload.{payload_from, steps}
use Rattle.sim0mq.specs.Message.{limit}
use Rattle.sim0mq.specs.Allowed.{IsMark, with_display, with_currency, with_both}
use Rattle.sim0mq.proofs.Answers.{needed, needed_bind, guarded, bind_fine, fine_eq}
use Rattle.sim0mq.proofs.MarkLaws.{mark_sound}
use Rattle.sim0mq.proofs.FieldLaws.{count_sound}
use Rattle.reading_values.specs.Values.{size_of, size_at, booleans_end, values_end}
use Rattle.reading_parts.specs.Parts.{steps_from, rest_steps}
use Rattle.reading_parts.specs.Kept.{Small}
use Rattle.reading_values.proofs.ValueCases.{size_goes, width_positive}

-- how far each item goes
mark_long : {l : List ℕ} → IsMark l → 2 ≤ length l
mark_long (with_display a b) = omega arith
mark_long (with_currency a b) = omega arith
mark_long (with_both a b c) = omega arith

module _ (s : List ℕ) where
  pub mark_goes : (at e : ℕ) → mark s at ≡ fine e → (at + 2 ≤ e) × (e ≤ length s)
  mark_goes at e q =
      let x = mark_sound s at e q in
      let f = x.there.fits in
      let g = x.ends in
      (omega (arith, mark_long x.is), omega arith)

  count_goes : (at n : ℕ) → count s at ≡ fine n → at + 4 ≤ length s
  count_goes at n q = let x = count_sound s at n q in let f = x.there.fits in let l = x.is.long in omega arith

  counts_goes : (k at : ℕ) (r : Counted) → at ≤ length s → counts s k at ≡ fine r → (at ≤ r.next) × (r.next ≤ length s)
  unfolding counts
  counts_goes zero at r h q = let e : at ≡ r.next = ap (λ (x : Counted). x.next) (fine_eq q) in (omega arith, omega arith)
  counts_goes (suc zero) at r h q =
      let a = bind_fine (count s at) _ q in
      let l = count_goes at a.0 a.1 in
      let e : at + 4 ≡ r.next = ap (λ (x : Counted). x.next) (fine_eq a.2) in
      (omega arith, omega arith)
  counts_goes (suc (suc k)) at r h q =
      let a = bind_fine (count s at) _ q in
      let b = bind_fine (count s (at + 4)) _ a.2 in
      let l = count_goes (at + 4) b.0 b.1 in
      let e : at + 8 ≡ r.next = ap (λ (x : Counted). x.next) (fine_eq b.2) in
      (omega arith, omega arith)

  pub head_goes : (at : ℕ) (h : Head) → head s at ≡ fine h → (at + 1 ≤ h.next) × (h.next ≤ length s)
  unfolding head head_rest
  head_goes at h q =
      let a = needed s at 1 _ q in
      let b = guarded (code_known (byte s at)) _ _ _ a.1 in
      let d = bind_fine (counts s (counts_of (byte s at)) (at + 1)) _ b.1 in
      let g = counts_goes (counts_of (byte s at)) (at + 1) d.0 a.0 d.1 in
      let e : d.0.next ≡ h.next = ap (λ (x : Head). x.next) (fine_eq d.2) in
      let l = g.0 in
      let m = g.1 in
      (omega arith, omega arith)

  pub values_goes : (c n first e : ℕ) → values_end s c n first ≡ fine e → (e ≡ first + n * width_of c) × (e ≤ length s)
  unfolding values_end
  values_goes c n first e q =
      let a = bind_fine (size_at s c n first) _ q in
      let g = size_goes s c n first a.0 a.1 in
      let b = bind_fine (booleans_end s (booleans_of c a.0) first) _ a.2 in
      let z : first + a.0 ≡ e = fine_eq b.2 in
      let l = g.1 in
      let m = g.0 in
      (omega arith, omega arith)

-- a field of this head at `at`, with so many value bytes from `first` on
abbrev pub found : ℕ → Head → ℕ → ℕ → Field
found at h first size = record { code = h.code; place = at; first = first; size = size; marked = h.marked; values = h.values }

-- a field whose head and marks were taken is judged by its values
module _ (s : List ℕ) (at : ℕ) (h : Head) (first : ℕ) (a : head s at ≡ fine h) (b : marks s h.marked h.next ≡ fine first) where
  field_of_lem : field s at ≡ (values_end s h.code h.values first >>= (λ e. fine (field_of at h first)))
  unfolding field outline values_end size_of booleans_end
  field_of_lem = go (need s first size) (booleans s (booleans_of h.code size) first) refl refl
    where
      size : ℕ
      size = h.values * width_of h.code

      go : (n j : Answer (Unit {0})) → need s first size ≡ n → booleans s (booleans_of h.code size) first ≡ j
          → field s at ≡ (values_end s h.code h.values first >>= (λ e. fine (field_of at h first)))
      go (fine u) (fine v) e f = simp (a, b, e, f)
      go (fine u) (refused k p) e f = simp (a, b, e, f)
      go (refused k p) j e f = simp (a, b, e)

-- a field is judged by its head, its marks and its values
module _ (s : List ℕ) (at : ℕ) where
  pub field_head_stop : (r p : ℕ) → head s at ≡ refused r p → field s at ≡ refused r p
  unfolding field outline
  field_head_stop r p q = simp q

  module _ (h : Head) (a : head s at ≡ fine h) where
    pub field-mark-stop : (r p : ℕ) → marks s h.marked h.next ≡ refused r p → field s at ≡ refused r p
    unfolding field outline
    field-mark-stop r p q = simp (a, q)

    module _ (first : ℕ) (b : marks s h.marked h.next ≡ fine first) where
      pub field-values-stop : (r p : ℕ) → values_end s h.code h.values first ≡ refused r p → field s at ≡ refused r p
      field-values-stop r p q = field_of_lem s at h first a b ∙ simp q

      pub field-taken : (e : ℕ) → values_end s h.code h.values first ≡ fine e → field s at ≡ fine (found at h first (e - first))
      field-taken e q =
          let g = (values_goes s h.code h.values first e q).0 in
          let size : h.values * width_of h.code ≡ e - first = omega arith in
          field_of_lem s at h first a b ∙ simp q (ap (λ (z : ℕ). fine (found at h first z)) size)

    -- and ends where its values do
    pub taken-end : (first e : ℕ) → values_end s h.code h.values first ≡ fine e → after (found at h first (e - first)) ≡ e
    unfolding after
    taken-end first e q = let g = (values_goes s h.code h.values first e q).0 in omega arith

-- the n fields from a place on: past the bytes' end there is none
module _ (s : List ℕ) (from n : ℕ) where
  pub rest_short : length s < from → rest_steps s from n ≡ refused 1 (length s)
  unfolding rest_steps
  rest_short h = simp (lt-leb (from + 0) (length s) (omega arith))

  pub rest_start : from ≤ length s → rest_steps s from n ≡ steps_from s n from 0
  unfolding rest_steps
  rest_start h = simp (le-leb (from + 0) (length s) (omega arith))

-- the fields from a place on, with k steps counted before
module _ (s : List ℕ) (at k : ℕ) where
  pub steps_over : (n : ℕ) → n ≡ 0 → at < length s → steps_from s n at k ≡ refused 13 at
  unfolding steps_from payload_from
  steps_over n e h = simp (e, lt-leb (length s) at h)

  pub steps_end : (n : ℕ) → n ≡ 0 → length s ≤ at → steps_from s n at k ≡ fine k
  unfolding steps_from payload_from steps
  steps_end n e h = simp (e, le-leb (length s) at h, add-zero k)

  pub steps_stop : (n r p : ℕ) → (n ≡ 0 → ⊥) → field s at ≡ refused r p → steps_from s n at k ≡ refused r p
  unfolding steps_from payload_from
  steps_stop zero r p h q = absurd (h refl)
  steps_stop (suc n) r p h q = simp q

  pub steps_more : (n m j end : ℕ) (f : Field) → n ≡ m + 1 → field s at ≡ fine f → after f ≡ end → j ≡ k + (1 + f.marked)
      → steps_from s n at k ≡ steps_from s m end j
  unfolding steps_from payload_from steps
  steps_more n m j end f e q d i = simp (e, add-one m, q, ← d) (same (payload_from s m (after f)))
    where
      same : (a : Answer (List Field)) → ((a >>= (λ fs. fine (f ∷ fs))) >>= (λ fs. fine (k + steps fs))) ≡ (a >>= (λ fs. fine (j + steps fs)))
      same (fine fs) = ap fine (omega arith)
      same (refused r p) = refl

-- how far marks and outlines go
module _ (s : List ℕ) where
  marks_go : (n at e : ℕ) → marks s n at ≡ fine e → at + n ≤ e
  unfolding marks
  marks_go zero at e q = let z : at ≡ e = fine_eq q in omega arith
  marks_go (suc n) at e q =
      let a = bind_fine (mark s at) _ q in
      let g = (mark_goes s at a.0 a.1).0 in
      let r = marks_go n a.0 e a.2 in
      omega arith

  head_code : (at : ℕ) (h : Head) → head s at ≡ fine h → h.code ≤ 32
  unfolding head head_rest code_known
  head_code at h q =
      let a = needed s at 1 _ q in
      let b = guarded (code_known (byte s at)) _ _ _ a.1 in
      let d = bind_fine (counts s (counts_of (byte s at)) (at + 1)) _ b.1 in
      let e : byte s at ≡ h.code = ap (λ (x : Head). x.code) (fine_eq d.2) in
      subst (λ (c : ℕ). c ≤ 32) e (leb-true _ 32 b.0)

-- where an accepted field stands: it begins at its place, and its numbers are no greater than the bytes
pub record Goes (s : List ℕ) (at : ℕ) (f : Field) : Type 0 where
  pub code : f.code ≤ 32
  pub place : f.place ≡ at
  pub before : f.place ≤ f.first
  pub marked : f.marked ≤ f.first
  pub end : f.first + f.size ≤ length s
  pub valued : f.values ≤ f.size

pub field_goes : (s : List ℕ) (at : ℕ) (f : Field) → field s at ≡ fine f → Goes s at f
unfolding field outline
field_goes s at f q =
    let d = bind_fine (outline s at) _ q in
    let o = bind_fine (head s at) _ d.1 in
    let h = o.0 in
    let m = bind_fine (marks s h.marked h.next) _ o.2 in
    let v = needed_bind s m.0 (h.values * width_of h.code) _ m.2 in
    let j = bind_fine (booleans s (booleans_of d.0.code d.0.size) d.0.first) _ d.2 in
    let g = (head_goes s at h o.1).0 in
    let k = marks_go s h.marked h.next m.0 m.1 in
    let code = head_code s at h o.1 in
    subst (Goes s at) (fine_eq v.1 ∙ fine_eq j.2)
    (record {
      code = code;
      place = refl;
      before = omega arith;
      marked = omega arith;
      end = v.0;
      valued = le-mul_of_pos_right h.values (width_positive h.code code);
    })

-- an accepted field's numbers fit 32 bits, in a message within the limit
pub field_small : (s : List ℕ) (base at : ℕ) (f : Field) → base + length s ≤ limit → field s at ≡ fine f → Small base f
unfolding limit
field_small s base at f h q =
    let g = field_goes s at f q in
    let code = g.code in
    let place = g.before in
    let marked = g.marked in
    let end = g.end in
    let valued = g.valued in
    record { code = omega arith; place = omega arith; first = omega arith; size = omega arith; marked = omega arith; values = omega arith }
