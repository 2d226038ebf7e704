-- A field that is asked for, of a code with no counts, has one value: its code, its marks and that value stand in the
-- message at its place.
use Prim.Native.Nat.{ℕ, ◌+◌, ◌≤◌, ◌<◌}
use mathlib.Core.Path.{◌≡◌, refl, ap, sym, ◌∙◌, subst}
use mathlib.Core.Bool.{true}
use mathlib.Core.List.{List, [], ◌∷◌, ◌++◌, flat_map}
use native.Mathlib.Omega.{arith}
use lib.ListN.{length, get_or}
use Rattle.sim0mq.specs.Answer.{fine, byte}
use Rattle.sim0mq.specs.Codes.{counts_of, marking_of, width_of, boolean}
use Rattle.sim0mq.specs.Field.{Field}
use Rattle.sim0mq.specs.Allowed.{Each, IsMark, FieldParts, joined, field_bytes, values_asked, marks_asked, IsField}
use Rattle.sim0mq.proofs.Stands.{Stands, stands_tail, stands_left, stands_right}
use Rattle.sim0mq.proofs.FieldLaws.{field_at}
use Rattle.asking.specs.Asking.{asked}
use Rattle.asking.proofs.PartLaws.{asked_parts}

-- what stands at the place of a scalar field: a code, its marks and one value
pub record OneValue (s : List ℕ) (f : Field) : Type 0 where
  pub marks : List (List ℕ)
  pub many : length marks ≡ marks_asked (marking_of f.code) []
  pub are : Each IsMark marks
  pub there : Stands s (f.place + 1) (joined marks)
  pub first : f.first ≡ f.place + 1 + length (joined marks)
  pub size : f.size ≡ width_of f.code
  pub within : f.first + f.size ≤ length s
  pub is_boolean : boolean f.code ≡ true → 0 < f.size → byte s f.first ≤ 1

none_of : (l : List (List ℕ)) → length l ≡ 0 → l ≡ []
none_of [] e = refl
none_of (x ∷ l) e = absurd (omega arith)

-- parts with no counts are such a field
abbrev uncounted : ℕ → List (List ℕ) → List ℕ → FieldParts
uncounted c ms vs = record { code = c; counts = []; marks = ms; values = vs }

one_value : (s : List ℕ) (at c : ℕ) (ms : List (List ℕ)) (vs : List ℕ) → IsField (uncounted c ms vs)
    → Stands s at (field_bytes (uncounted c ms vs)) → OneValue s (field_at at (uncounted c ms vs))
unfolding values_asked flat_map
one_value s at c ms vs i st =
    let tail : Stands s (at + 1) (joined ms ++ vs) = stands_tail st in
    let values = stands_right (joined ms) vs tail in
    let fits = values.fits in
    let sized = i.sized in
    record {
      marks = ms;
      many = i.marked;
      are = i.is_marks;
      there = stands_left (joined ms) vs tail;
      first = omega arith;
      size = omega arith;
      within = omega arith;
      is_boolean =
          λ b h.
          let same : byte s (at + 1 + 0 + length (joined ms)) ≡ get_or vs 0 0 = ap (λ (n : ℕ). get_or s n 0) (omega arith) ∙ values.same 0 h in
          let low = i.is_boolean b 0 h in
          omega arith;
    }

-- a field that was asked for, of a code with no counts, is such a field
pub asked_one : (s : List ℕ) (k : ℕ) (f : Field) → asked s k ≡ fine f → counts_of f.code ≡ 0 → OneValue s f
asked_one s k f q z =
    let a = asked_parts s k f q in
    let p = a.parts in
    let code : f.code ≡ p.code = ap (λ (x : Field). x.code) a.says in
    let e : p.counts ≡ [] = none_of p.counts (a.is.counted ∙ ap counts_of (sym code) ∙ z) in
    let same : p ≡ uncounted p.code p.marks p.values
    = λ i. record { code = p.code; counts = e i; marks = p.marks; values = p.values } in
    subst (λ (x : Field). OneValue s x) (sym (a.says ∙ ap (field_at f.place) same))
    (one_value s f.place p.code p.marks p.values (subst IsField same a.is)
    (subst (λ (x : FieldParts). Stands s f.place (field_bytes x)) same a.there))
