-- Bytes after the last item, and nothing else, are refused by 13: what is refused so at p is a message in its first p
-- bytes, and a message followed by bytes is refused so at its length.
use Prim.Native.Nat.{ℕ, zero, suc, ◌+◌, ◌≤◌, ◌<◌, zero-le}
use mathlib.Core.Path.{◌≡◌, refl, ap, sym, ◌∙◌, subst}
use mathlib.Core.Bool.{Bool, true, false, false≢true}
use mathlib.Core.List.{List, [], ◌∷◌, ◌++◌, flat_map, append_assoc}
use native.Mathlib.Omega.{arith}
use native.Mathlib.Nat.{add-zero}
use lib.ListN.{length, drop, take, length-append, length-drop, take-append-drop}
use lib.Seq.{length-take-le}
use lib.Dec.{leb}
use borrow.Author.Tests.{leb-true, leb-false, le-leb, lt-leb}
use Rattle.sim0mq.specs.Answer.{Answer, fine, refused, ◌>>=◌, ◌>>◌, guard, part_at}
use Rattle.sim0mq.specs.Field.{Field, after, field}
use Rattle.sim0mq.specs.Payload.{payload, payload_from}
use Rattle.sim0mq.specs.Header.{among, Header, header}
use Rattle.sim0mq.specs.Message.{no_table, enough, message_rest, message}
use Rattle.sim0mq.specs.Allowed.{Each, none, more, FieldParts, field_bytes, header_bytes, IsField, IsHeader, MessageParts, message_bytes, IsMessage}
use Rattle.sim0mq.proofs.Stands.{Stands, stands_to, stands_left, stands_right, stands_nil, stands_join, stands_self, stands_same, into_part, out_of_part}
use Rattle.sim0mq.proofs.FieldLaws.{after_at, field_complete, FoundField, field_sound}
use Rattle.sim0mq.proofs.HeaderLaws.{header_at, FoundHeader, header_sound}
use Rattle.sim0mq.proofs.MessageLaws.{front_complete}
use Rattle.sim0mq.proofs.Refusals.{item_numbers, Held, field_placed, field_within, header_placed}

-- taking a refusal by 13 apart: a step whose refusals bear other numbers was passed
thirteen : {A : Type 0} {k q p : ℕ} → among k item_numbers ≡ true → ◌≡◌ {A = Answer A} (refused k q) (refused 13 p) → ⊥
unfolding among
thirteen {A} {k} h e = let k13 : k ≡ 13 = cc in false≢true (subst (λ (j : ℕ). among j item_numbers ≡ true) k13 h)

pub bind_rest : {A B : Type 0} (m : ℕ) (a : Answer A) (f : A → Answer B) {p : ℕ} → Held item_numbers m a → (a >>= f) ≡ refused 13 p
    → (x : A) × (a ≡ fine x) × (f x ≡ refused 13 p)
bind_rest m (fine x) f h e = (x, refl, e)
bind_rest m (refused k q) f h e = absurd (thirteen h.0 e)

-- a step after which the value is only wrapped
pub bind_last : {A B : Type 0} (a : Answer A) (f : A → B) {k p : ℕ} → (a >>= (λ x. fine (f x))) ≡ refused k p → a ≡ refused k p
bind_last (fine x) f e = let z : ◌≡◌ {A = ℕ} 0 1 = cc in absurd (omega arith)
bind_last (refused j q) f e = cc

pub guard_rest : {B : Type 0} (t : Bool) (k p : ℕ) (v : B) {q : ℕ} → (guard t k p >> fine v) ≡ refused 13 q → (t ≡ false) × (p ≡ q)
guard_rest true k p v e = let z : ◌≡◌ {A = ℕ} 0 1 = cc in absurd (omega arith)
guard_rest false k p v e = (refl, cc)

pub guarded_rest : {B : Type 0} (t : Bool) (k p : ℕ) (b : Answer B) {q : ℕ} → (k ≡ 13 → ⊥) → (guard t k p >> b) ≡ refused 13 q
    → (t ≡ true) × (b ≡ refused 13 q)
guarded_rest true k p b h e = (refl, e)
guarded_rest false k p b h e = absurd (h (cc))

pub part_rest : {A : Type 0} (b : ℕ) (a : Answer A) {k p : ℕ} → part_at b a ≡ refused k p → (q : ℕ) × (a ≡ refused k q) × (b + q ≡ p)
part_rest b (fine x) e = let z : ◌≡◌ {A = ℕ} 0 1 = cc in absurd (omega arith)
part_rest b (refused j q) e = (q, cc, cc)

-- fields, and then more bytes
pub payload_then : {s : List ℕ} {at : ℕ} (fs : List FieldParts) → Each IsField fs → Stands s at (flat_map field_bytes fs)
    → at + length (flat_map field_bytes fs) < length s → payload_from s (length fs) at ≡ refused 13 (at + length (flat_map field_bytes fs))
unfolding payload_from flat_map
payload_then {s} {at} [] none st h = simp (lt-leb (length s) at (omega arith)) (ap (refused 13) (sym (add-zero at)))
payload_then {s} {at} (f ∷ fs) (more a b) st h =
    let bytes = field_bytes f in
    let rest = flat_map field_bytes fs in
    let here = field_complete f a (stands_left bytes rest st) in
    let there = payload_then {at = at + length bytes} fs b (stands_right bytes rest st) (omega (arith, length-append bytes rest)) in
    let e : at + length bytes + length rest ≡ at + length (bytes ++ rest) = omega (arith, length-append bytes rest) in
    simp (here, after_at at f, there) (ap (refused 13) e)

pub record FoundFront (s : List ℕ) (n at p : ℕ) : Type 0 where
  pub parts : List FieldParts
  pub many : length parts ≡ n
  pub are : Each IsField parts
  pub there : Stands s at (flat_map field_bytes parts)
  pub ends : at + length (flat_map field_bytes parts) ≡ p
  pub left : p < length s

front_more : {s : List ℕ} {n at p : ℕ} {x : Field} → FoundField s at x → FoundFront s n (after x) p → FoundFront s (suc n) at p
unfolding flat_map
front_more {s} {n} {at} {p} {x} a b =
    let bytes = field_bytes a.parts in
    let rest = flat_map field_bytes b.parts in
    let e : after x ≡ at + length bytes = ap after a.says ∙ after_at at a.parts in
    let end = b.ends in
    record {
      parts = a.parts ∷ b.parts;
      many = ap suc b.many;
      are = more a.is b.are;
      there = stands_join bytes rest a.there (stands_to (at + length bytes) e b.there);
      ends = omega (arith, length-append bytes rest);
      left = b.left;
    }

pub payload_rest : (n : ℕ) (s : List ℕ) (at p : ℕ) → at ≤ length s → payload_from s n at ≡ refused 13 p → FoundFront s n at p
unfolding payload_from flat_map
payload_rest zero s at p h q =
    let g = guard_rest (leb (length s) at) 13 at [] q in
    let l : at < length s = leb-false _ _ g.0 in
    let e : at ≡ p = g.1 in
    record { parts = []; many = refl; are = none; there = stands_nil h; ends = omega arith; left = omega arith }
payload_rest (suc n) s at p h q =
    let a = bind_rest (length s) (field s at) _ (field_placed s at) q in
    let x = field_sound s at a.0 a.1 in
    front_more x (payload_rest n s (after a.0) p (field_within s at a.0 a.1).1 (bind_last (payload_from s n (after a.0)) _ a.2))

-- a message, and then more bytes
rest_there : (p : MessageParts) (rest : List ℕ) → IsMessage p → 0 < length rest
    → payload (drop (length (header_bytes p.header)) (message_bytes p ++ rest)) (length p.fields)
    ≡ refused 13 (length (flat_map field_bytes p.fields))
unfolding payload
rest_there p rest i left =
    let front = header_bytes p.header in
    let fields = flat_map field_bytes p.fields in
    let s = message_bytes p ++ rest in
    let b = length front in
    let st : Stands s b fields = stands_to b (omega arith) (stands_right front fields (stands_left (message_bytes p) rest (stands_self s))) in
    payload_then p.fields i.is_fields (into_part b st)
    (omega (arith, length-drop b s, length-append (message_bytes p) rest, length-append front fields))
    ∙ ap (refused 13) (omega arith)

header_there : (p : MessageParts) (rest : List ℕ) → IsMessage p → header (message_bytes p ++ rest) ≡ fine (header_at (length p.fields) p.header)
header_there p rest i =
    rw append_assoc (front_complete p.header (flat_map field_bytes p.fields ++ rest) i.is_header)

pub message_then : (most : ℕ) (p : MessageParts) (rest : List ℕ) → IsMessage p → 0 < length rest → length (message_bytes p ++ rest) ≤ most
    → message most no_table (message_bytes p ++ rest) ≡ refused 13 (length (message_bytes p))
unfolding message message_rest enough
message_then most p rest i left short =
    let front = header_bytes p.header in
    let e : length front + length (flat_map field_bytes p.fields) ≡ length (message_bytes p)
    = sym (length-append front (flat_map field_bytes p.fields)) in
    simp (
      le-leb (length (message_bytes p ++ rest)) most short,
      header_there p rest i,
      rest_there p rest i left,
    ) (ap (refused 13) e)

pub record FoundBefore (most : ℕ) (s : List ℕ) (p : ℕ) : Type 0 where
  pub parts : MessageParts
  pub is : IsMessage parts
  pub whole : message_bytes parts ≡ take p s
  pub left : p < length s
  pub short : length s ≤ most

before_joined : (most : ℕ) (s : List ℕ) (h : Header) (q : ℕ) → length s ≤ most → FoundHeader s h
    → FoundFront (drop h.next s) h.fields 0 q → FoundBefore most s (h.next + q)
before_joined most s h q short x y =
    let front = header_bytes x.parts in
    let rest = flat_map field_bytes y.parts in
    let p : MessageParts = record { header = x.parts; fields = y.parts } in
    let next : h.next ≡ length front = ap (λ (z : Header). z.next) x.says in
    let fits = x.there.fits in
    let end = y.ends in
    let remains = y.left in
    let there : Stands s (0 + length front) rest = stands_to (0 + length front) (omega arith) (out_of_part h.next (omega arith) y.there) in
    let both : Stands s 0 (front ++ rest) = stands_join front rest x.there there in
    let left : h.next + q < length s = omega (arith, length-drop h.next s) in
    let n = h.next + q in
    let long : length (take n s) ≡ n = length-take-le n s (omega arith) in
    let cut : Stands s 0 (take n s)
    = stands_left (take n s) (drop n s) (subst (λ (t : List ℕ). Stands s 0 t) (sym (take-append-drop n s)) (stands_self s)) in
    record {
      parts = p;
      is = record { is_header = subst (λ (n : ℕ). IsHeader n x.parts) (sym y.many) x.is; is_fields = y.are };
      whole = stands_same (front ++ rest) (take n s) (omega (arith, length-append front rest)) both cut;
      left = left;
      short = short;
    }

pub message_rest_lem : (most : ℕ) (s : List ℕ) (p : ℕ) → message most no_table s ≡ refused 13 p → FoundBefore most s p
unfolding message message_rest payload
message_rest_lem most s p q =
    let a = guarded_rest (leb (length s) most) 8 0 _ (λ z. omega arith) q in
    let b = bind_rest (length s) (header s) _ (header_placed s) a.1 in
    let h = b.0 in
    let c = guarded_rest (enough no_table h.fields) 14 0 _ (λ z. omega arith) b.2 in
    let d = bind_last (part_at h.next (payload_from (drop h.next s) h.fields 0)) _ c.1 in
    let e = part_rest h.next _ d in
    let y = payload_rest h.fields (drop h.next s) 0 e.0 zero-le e.1 in
    subst (λ (n : ℕ). FoundBefore most s n) e.2
    (before_joined most s h e.0 (leb-true _ _ a.0) (header_sound s h b.1) y)
