-- The payload judge takes exactly runs of fields that fill the part: each field is judged where the one before ends,
-- and nothing may follow the last.
use Prim.Native.Nat.{ℕ, zero, suc, ◌+◌, ◌≤◌}
use mathlib.Core.Path.{◌≡◌, refl, ap, ap₂, sym, ◌∙◌, subst}
use mathlib.Core.List.{List, [], ◌∷◌, map, flat_map}
use native.Mathlib.Omega.{arith}
use native.Mathlib.Nat.{add-zero}
use lib.ListN.{length, length-append}
use lib.Dec.{leb}
use borrow.Author.Tests.{leb-true, le-leb}
use Rattle.sim0mq.specs.Answer.{fine}
use Rattle.sim0mq.specs.Field.{Field, after, field}
use Rattle.sim0mq.specs.Payload.{payload_from, moved, steps}
use Rattle.sim0mq.specs.Table.{row, rows}
use Rattle.sim0mq.specs.Allowed.{Each, none, more, FieldParts, joined, field_bytes, IsField}
use Rattle.sim0mq.specs.Demand2.{cut_rows, Tiles, marks_in}
use Rattle.sim0mq.proofs.Answers.{guarded, bind_fine, fine_eq}
use Rattle.sim0mq.proofs.Stands.{Stands, stands_to, stands_left, stands_right, stands_nil, stands_join}
use Rattle.sim0mq.proofs.FieldLaws.{field_at, after_at, field_complete, FoundField, field_sound}

-- what is to be known of fields that begin at `at`, one after the other
unfoldable pub fields_at : ℕ → List FieldParts → List Field
fields_at at [] = []
fields_at at (f ∷ fs) = field_at at f ∷ fields_at (at + length (field_bytes f)) fs

pub payload_complete : {s : List ℕ} {at : ℕ} (fs : List FieldParts) → Each IsField fs → Stands s at (flat_map field_bytes fs)
    → at + length (flat_map field_bytes fs) ≡ length s → payload_from s (length fs) at ≡ fine (fields_at at fs)
unfolding payload_from fields_at flat_map
payload_complete {s} {at} [] none st e = simp (le-leb (length s) at (omega arith))
payload_complete {s} {at} (f ∷ fs) (more a b) st e =
    let bytes = field_bytes f in
    let rest = flat_map field_bytes fs in
    let here = field_complete f a (stands_left bytes rest st) in
    let there = payload_complete {at = at + length bytes} fs b (stands_right bytes rest st) (omega (arith, length-append bytes rest)) in
    simp (here, after_at at f, there)

pub record FoundFields (s : List ℕ) (n at : ℕ) (xs : List Field) : Type 0 where
  pub parts : List FieldParts
  pub many : length parts ≡ n
  pub are : Each IsField parts
  pub there : Stands s at (flat_map field_bytes parts)
  pub ends : at + length (flat_map field_bytes parts) ≡ length s
  pub says : xs ≡ fields_at at parts

-- one field more in front
fields_more : {s : List ℕ} {n at : ℕ} {x : Field} {xs : List Field} → FoundField s at x → FoundFields s n (after x) xs
    → FoundFields s (suc n) at (x ∷ xs)
unfolding fields_at flat_map
fields_more {s} {n} {at} {x} {xs} a b =
    let bytes = field_bytes a.parts in
    let rest = flat_map field_bytes b.parts in
    let e : after x ≡ at + length bytes = ap after a.says ∙ after_at at a.parts in
    let end = b.ends in
    record {
      parts = a.parts ∷ b.parts;
      many = ap suc b.many;
      are = more a.is b.are;
      there = stands_join bytes rest a.there (stands_to (at + length bytes) e b.there);
      ends = omega (arith, length-append bytes rest);
      says = ap₂ ◌∷◌ a.says (b.says ∙ ap (λ (p : ℕ). fields_at p b.parts) e);
    }

pub payload_sound : (n : ℕ) (s : List ℕ) (at : ℕ) (xs : List Field) → at ≤ length s → payload_from s n at ≡ fine xs → FoundFields s n at xs
unfolding payload_from fields_at flat_map
payload_sound zero s at xs h q =
    let g = guarded (leb (length s) at) _ _ _ q in
    let l : length s ≤ at = leb-true _ _ g.0 in
    record { parts = []; many = refl; are = none; there = stands_nil h; ends = omega arith; says = sym (fine_eq g.1) }
payload_sound (suc n) s at xs h q =
    let a = bind_fine (field s at) _ q in
    let x = field_sound s at a.0 a.1 in
    let e : after a.0 ≡ at + length (field_bytes x.parts) = ap after x.says ∙ after_at at x.parts in
    let fits = x.there.fits in
    let b = bind_fine (payload_from s n (after a.0)) _ a.2 in
    subst (λ (ys : List Field). FoundFields s (suc n) at ys) (fine_eq b.2)
    (fields_more x (payload_sound n s (after a.0) b.0 (omega arith) b.1))

-- what the fields of a cut come to: moved with their part, as rows, as tiles, and counted
pub fields_moved : (b at : ℕ) (fs : List FieldParts) → map (moved b) (fields_at at fs) ≡ fields_at (b + at) fs
unfolding fields_at moved
fields_moved b at [] = refl
fields_moved b at (f ∷ fs) =
    let e : b + (at + length (field_bytes f)) ≡ b + at + length (field_bytes f) = omega arith in
    let first : b + (at + 1 + length (joined f.counts) + length (joined f.marks))
    ≡ b + at + 1 + length (joined f.counts) + length (joined f.marks)
    = omega arith in
    simp (fields_moved b (at + length (field_bytes f)) fs, e, first)

pub fields_many : (at : ℕ) (fs : List FieldParts) → length (fields_at at fs) ≡ length fs
unfolding fields_at
fields_many at [] = refl
fields_many at (f ∷ fs) = ap suc (fields_many (at + length (field_bytes f)) fs)

pub fields_rows : (at : ℕ) (fs : List FieldParts) → rows (fields_at at fs) ≡ cut_rows at fs
unfolding fields_at rows row cut_rows
fields_rows at [] = refl
fields_rows at (f ∷ fs) = simp (fields_rows (at + length (field_bytes f)) fs)

pub fields_tile : (at end : ℕ) (fs : List FieldParts) → at + length (flat_map field_bytes fs) ≡ end → Tiles at (fields_at at fs) end
unfolding fields_at Tiles flat_map
fields_tile at end [] e = sym (add-zero at) ∙ e
fields_tile at end (f ∷ fs) e =
    let bytes = field_bytes f in
    let rest = flat_map field_bytes fs in
    (refl, omega arith, rw (after_at at f) (fields_tile (at + length bytes) end fs (omega (arith, length-append bytes rest))))

pub fields_steps : (at : ℕ) (fs : List FieldParts) → steps (fields_at at fs) ≡ length fs + marks_in fs
unfolding fields_at steps marks_in
fields_steps at [] = refl
fields_steps at (f ∷ fs) = let e = fields_steps (at + length (field_bytes f)) fs in omega arith
