-- A field that is asked for is one of the fields that the message is cut into, so its parts stand in the message at its
-- place.
use Prim.Native.Nat.{ℕ, zero, suc, ◌+◌, ◌≤◌}
use mathlib.Core.Path.{◌≡◌, refl, ap, sym, ◌∙◌, subst}
use mathlib.Core.List.{List, [], ◌∷◌, ◌++◌, flat_map}
use native.Mathlib.Omega.{arith}
use lib.ListN.{length}
use Rattle.sim0mq.specs.Answer.{fine}
use Rattle.sim0mq.specs.Field.{Field, after}
use Rattle.sim0mq.specs.Message.{limit, no_table, Reading, reading}
use Rattle.sim0mq.specs.Allowed.{Each, none, more, FieldParts, field_bytes, header_bytes, message_bytes, IsField}
use Rattle.sim0mq.proofs.Answers.{bind_fine, fine_eq, not_fine}
use Rattle.sim0mq.proofs.Stands.{Stands, stands_to, stands_left, stands_right, stands_self}
use Rattle.sim0mq.proofs.FieldLaws.{after_at, FoundField}
use Rattle.sim0mq.proofs.PayloadLaws.{fields_at}
use Rattle.sim0mq.proofs.MessageLaws.{message_sound}
use Rattle.asking.specs.Asking.{nth, asked}

-- a field among those of a cut
nth_parts : (s : List ℕ) (at : ℕ) (ps : List FieldParts) (k : ℕ) (f : Field) → Each IsField ps → Stands s at (flat_map field_bytes ps)
    → nth (fields_at at ps) k ≡ fine f → FoundField s f.place f
unfolding nth fields_at flat_map
nth_parts s at [] k f none st q = absurd (not_fine q)
nth_parts s at (p ∷ ps) zero f (more a b) st q =
    subst (λ (x : Field). FoundField s x.place x) (fine_eq q)
    (record { parts = p; is = a; there = stands_left (field_bytes p) (flat_map field_bytes ps) st; says = refl })
nth_parts s at (p ∷ ps) (suc k) f (more a b) st q =
    nth_parts s (at + length (field_bytes p)) ps k f b (stands_right (field_bytes p) (flat_map field_bytes ps) st) q

-- the field that was asked for, as a field's parts
pub asked_parts : (s : List ℕ) (k : ℕ) (f : Field) → asked s k ≡ fine f → FoundField s f.place f
unfolding asked reading
asked_parts s k f q =
    let a = bind_fine (reading no_table s) _ q in
    let m = message_sound limit no_table s a.0 a.1 in
    let front = header_bytes m.parts.header in
    let rest = flat_map field_bytes m.parts.fields in
    let whole : Stands s 0 (front ++ rest)
    = subst (λ (t : List ℕ). Stands t 0 (front ++ rest)) m.whole (stands_self (message_bytes m.parts)) in
    let there : Stands s (length front) rest = stands_to (length front) (omega arith) (stands_right front rest whole) in
    nth_parts s (length front) m.parts.fields k f m.is.is_fields there
    (ap (λ (r : Reading). nth r.fields k) (sym m.says) ∙ a.2)

-- it lies in the message
pub asked_inside : (s : List ℕ) (k : ℕ) (f : Field) → asked s k ≡ fine f → f.first + f.size ≤ length s
unfolding after
asked_inside s k f q =
    let a = asked_parts s k f q in
    let e : f.first + f.size ≡ f.place + length (field_bytes a.parts) = ap after a.says ∙ after_at f.place a.parts in
    let fits = a.there.fits in
    omega arith
