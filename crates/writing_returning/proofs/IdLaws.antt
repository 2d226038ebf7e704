-- The id frames that opening takes are frames end to end that fill the string: each is judged where the one before
-- ends, and nothing may follow the last.
use Prim.Native.Nat.{ℕ, zero, suc, ◌+◌, ◌≤◌}
use mathlib.Core.Path.{◌≡◌, refl, ap}
use mathlib.Core.List.{List, [], ◌∷◌, flat_map}
use native.Mathlib.Omega.{arith}
use lib.ListN.{length, length-append}
use lib.Dec.{leb}
use borrow.Author.Tests.{leb-true, le-leb}
use Rattle.sim0mq.specs.Answer.{fine}
use Rattle.sim0mq.specs.Field.{after}
use Rattle.sim0mq.specs.Header.{id_codes}
use Rattle.sim0mq.specs.Allowed.{Each, none, more, FieldParts, field_bytes, IsFrame}
use Rattle.sim0mq.proofs.Answers.{guarded}
use Rattle.sim0mq.proofs.Stands.{Stands, stands_to, stands_left, stands_right, stands_nil, stands_join}
use Rattle.sim0mq.proofs.FieldLaws.{field_at, after_at}
use Rattle.sim0mq.proofs.HeaderLaws.{frame_complete, frame_sound}
use Rattle.writing_opening.specs.Opening.{ids_from}

-- every run of id frames is taken
pub ids_complete : {s : List ℕ} {at : ℕ} (fs : List FieldParts) → Each (IsFrame id_codes) fs → Stands s at (flat_map field_bytes fs)
    → at + length (flat_map field_bytes fs) ≡ length s → ids_from s (length fs) at ≡ fine (length s)
unfolding ids_from flat_map
ids_complete {s} {at} [] none st e =
    let here : at ≡ length s = omega arith in
    simp (le-leb (length s) at (omega arith)) (ap fine here)
ids_complete {s} {at} (f ∷ fs) (more a b) st e =
    let bytes = field_bytes f in
    let rest = flat_map field_bytes fs in
    let here = frame_complete a (stands_left bytes rest st) in
    let there = ids_complete {at = at + length bytes} fs b (stands_right bytes rest st) (omega (arith, length-append bytes rest)) in
    simp (here, after_at at f, there)

-- what was taken, as such a run
pub record FoundIds (s : List ℕ) (n at : ℕ) : Type 0 where
  pub parts : List FieldParts
  pub many : length parts ≡ n
  pub are : Each (IsFrame id_codes) parts
  pub there : Stands s at (flat_map field_bytes parts)
  pub ends : at + length (flat_map field_bytes parts) ≡ length s

pub ids_sound : (n : ℕ) (s : List ℕ) (at e : ℕ) → at ≤ length s → ids_from s n at ≡ fine e → FoundIds s n at
unfolding ids_from flat_map
ids_sound zero s at e h q =
    let a = guarded (leb (length s) at) _ _ _ q in
    let past : length s ≤ at = leb-true _ _ a.0 in
    record { parts = []; many = refl; are = none; there = stands_nil h; ends = omega arith }
ids_sound (suc n) s at e h q =
    let a = frame_sound s id_codes at _ q in
    let f = a.0 in
    let bytes = field_bytes f in
    let fits = a.2.fits in
    let next = after_at at f in
    let r = ids_sound n s (after (field_at at f)) e (omega arith) a.3 in
    let rest = flat_map field_bytes r.parts in
    let end = r.ends in
    record {
      parts = f ∷ r.parts;
      many = ap suc r.many;
      are = more a.1 r.are;
      there = stands_join bytes rest a.2 (stands_to (at + length bytes) next r.there);
      ends = omega (arith, length-append bytes rest);
    }
