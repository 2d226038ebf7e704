-- What adding is given is one field that the manual allows: an encoded field is judged as a payload of one, and a
-- scalar is written as a field.
use Prim.Native.Nat.{ℕ, ◌+◌, ◌-◌, zero-le}
use mathlib.Core.Path.{◌≡◌, refl, ap, ap₂, sym, ◌∙◌, subst}
use mathlib.Core.List.{List, [], ◌∷◌, ◌++◌, map, flat_map, append-nil}
use native.Mathlib.Omega.{arith}
use native.Mathlib.Nat.{zero-add}
use lib.ListN.{length, take, drop}
use Rattle.sim0mq.specs.Answer.{fine}
use Rattle.sim0mq.specs.Field.{after}
use Rattle.sim0mq.specs.Payload.{payload, payload_from}
use Rattle.sim0mq.specs.Allowed.{Each, none, more, FieldParts, field_bytes, IsField}
use Rattle.sim0mq.proofs.Answers.{bind_fine, guarded, fine_eq}
use Rattle.sim0mq.proofs.Stands.{Stands, stands_left, stands_right, stands_self, stands_same, part_back}
use Rattle.sim0mq.proofs.FieldLaws.{field_at, after_at}
use Rattle.sim0mq.proofs.PayloadLaws.{fields_at, payload_complete, payload_sound}
use Rattle.asking_scalars.specs.Promises.{own_bytes}
use Rattle.writing_encoding.specs.Scalars.{writable, scalar_given}
use Rattle.writing.specs.Writing.{Given, encoded, scalar, field_given}
use Rattle.writing_returning.specs.History.{bytes_of}
use Rattle.writing_returning.proofs.ScalarLaws.{scalar_parts, scalar_bytes_lem, scalar_is}

-- what was granted, as a field's parts
pub record FoundGiven (g : Given) (l : List ℕ) : Type 0 where
  pub same : l ≡ bytes_of g
  pub parts : FieldParts
  pub is : IsField parts
  pub bytes : field_bytes parts ≡ bytes_of g

-- a string that was judged as one field is that field
one_field : (l : List ℕ) (fs : List FieldParts) → length fs ≡ 1 → Each IsField fs → Stands l 0 (flat_map field_bytes fs)
    → length (flat_map field_bytes fs) ≡ length l → FoundGiven (encoded l) l
unfolding flat_map
one_field l [] e none st h = absurd (omega arith)
one_field l (f ∷ []) e (more a none) st h =
    let whole : field_bytes f ≡ l = sym (append-nil (field_bytes f)) ∙ stands_same (flat_map field_bytes (f ∷ [])) l h st (stands_self l) in
    record { same = refl; parts = f; is = a; bytes = whole }
one_field l (f ∷ g ∷ fs) e a st h = absurd (omega arith)

pub given_sound : (g : Given) (l : List ℕ) → field_given g ≡ fine l → FoundGiven g l
unfolding field_given payload scalar_given
given_sound (encoded t) l q =
    let a = bind_fine (payload_from t 1 0) _ q in
    let y = payload_sound 1 t 0 a.0 zero-le a.1 in
    let end = y.ends in
    subst (FoundGiven (encoded t)) (fine_eq a.2) (one_field t y.parts y.many y.are y.there (omega arith))
given_sound (scalar v) l q =
    let a = guarded (writable v) _ _ _ q in
    record { same = sym (fine_eq a.1); parts = scalar_parts v; is = scalar_is v a.0; bytes = scalar_bytes_lem v }

-- every field that the manual allows is taken as an encoded field
pub encoded_taken : (f : FieldParts) → IsField f → field_given (encoded (field_bytes f)) ≡ fine (field_bytes f)
unfolding field_given payload flat_map
encoded_taken f i =
    let l = field_bytes f in
    let st : Stands l 0 (l ++ []) = subst (Stands l 0) (sym (append-nil l)) (stands_self l) in
    simp (payload_complete {s = l} {at = 0} (f ∷ []) (more i none) st (zero-add (length (l ++ [])) ∙ ap length (append-nil l)))

-- the bytes of fields that stand in s, one after the other
pub own_fields_lem : (s : List ℕ) (at : ℕ) (fs : List FieldParts) → Stands s at (flat_map field_bytes fs) → map (own_bytes s) (fields_at at fs) ≡ map field_bytes fs
unfolding fields_at flat_map
own_fields_lem s at [] st = refl
own_fields_lem s at (f ∷ fs) st =
    let bytes = field_bytes f in
    let here = part_back bytes (stands_left bytes (flat_map field_bytes fs) st) in
    let size : after (field_at at f) - at ≡ length bytes = omega (arith, after_at at f) in
    ap₂ (λ (l : List ℕ) (ls : List (List ℕ)). l ∷ ls) (ap (λ (n : ℕ). take n (drop at s)) size ∙ here)
    (own_fields_lem s (at + length bytes) fs (stands_right bytes (flat_map field_bytes fs) st))
