-- A header frame after the ids is its code and one number, since the types that frames 5 to 7 may have ask for no count
-- and no mark.
use Prim.Native.Nat.{ℕ}
use mathlib.Core.Path.{◌≡◌, refl, ap, ap₂, ◌∙◌}
use mathlib.Core.Bool.{Bool, true, false, not, ◌&&◌}
use mathlib.Core.List.{List, [], ◌∷◌, ◌++◌, flat_map}
use native.Mathlib.Omega.{arith}
use lib.ListN.{length}
use lib.Dec.{eqb}
use borrow.Author.Tests.{eqb-true, not-true}
use Rattle.sim0mq.specs.Codes.{code_known, counts_of, marking_of, width_of, boolean}
use Rattle.sim0mq.specs.Header.{among}
use Rattle.sim0mq.specs.Allowed.{FieldParts, joined, field_bytes, marks_asked, IsFrame}
use Rattle.sim0mq.proofs.Answers.{and_true}
use Rattle.sim0mq.proofs.HeaderLaws.{scalar_size}
use Rattle.sim0mq.proofs.Rows.{all_pass, pass_among}
use Rattle.writing_returning.proofs.NumberLaws.{number_parts, number_is}

-- a field of this code is one number
unfoldable pub one_number : ℕ → Bool
one_number c = code_known c && (eqb (counts_of c) 0 && (eqb (marking_of c) 0 && not (boolean c)))

record OneNumber (c : ℕ) : Type 0 where
  known : code_known c ≡ true
  counts : counts_of c ≡ 0
  marks : marking_of c ≡ 0
  other : boolean c ≡ false

one_number_lem : (codes : List ℕ) (c : ℕ) → all_pass one_number codes ≡ true → among c codes ≡ true → OneNumber c
unfolding one_number
one_number_lem codes c all e =
    let a = and_true (code_known c) _ (pass_among one_number codes c all e) in
    let b = and_true (eqb (counts_of c) 0) _ a.1 in
    let d = and_true (eqb (marking_of c) 0) _ b.1 in
    record { known = a.0; counts = eqb-true _ _ b.0; marks = eqb-true _ _ d.0; other = not-true (boolean c) d.1 }

-- a number of one of these types is such a frame
pub number_frame : (codes : List ℕ) (c n x : ℕ) → all_pass one_number codes ≡ true → among c codes ≡ true → width_of c ≡ n
    → IsFrame codes (number_parts c n x)
number_frame codes c n x all e w =
    let i = one_number_lem codes c all e in
    record { is_field = number_is c n x i.known i.counts i.marks w i.other; allowed = e }

-- no strings are no bytes
none_joined : (l : List (List ℕ)) → length l ≡ 0 → joined l ≡ []
unfolding flat_map
none_joined [] e = refl
none_joined (x ∷ l) e = absurd (omega arith)

-- and such a frame is its code and its value
pub frame_text : (codes : List ℕ) (f : FieldParts) → all_pass one_number codes ≡ true → IsFrame codes f
    → (field_bytes f ≡ f.code ∷ f.values) × (length f.values ≡ width_of f.code)
unfolding marks_asked
frame_text codes f all i =
    let n = one_number_lem codes f.code all i.allowed in
    let counts = none_joined f.counts (i.is_field.counted ∙ n.counts) in
    let marks = none_joined f.marks (i.is_field.marked ∙ ap (λ (k : ℕ). marks_asked k f.counts) n.marks) in (
      ap₂ (λ (a b : List ℕ). f.code ∷ (a ++ (b ++ f.values))) counts marks,
      scalar_size f i.is_field n.counts,
    )
