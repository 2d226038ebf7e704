-- The message judge takes exactly the messages, and answers their own cut: the header is judged at the front, and its
-- payload is the rest.
use Prim.Native.Nat.{ℕ, ◌+◌, ◌≤◌, zero-le}
use mathlib.Core.Path.{◌≡◌, ap, sym, ◌∙◌, subst}
use mathlib.Core.Bool.{true}
use mathlib.Core.List.{List, ◌∷◌, ◌++◌, map, flat_map}
use native.Mathlib.Omega.{arith}
use native.Mathlib.Nat.{add-zero}
use lib.ListN.{length, drop, length-append, length-drop}
use lib.Dec.{leb}
use borrow.Author.Tests.{leb-true, le-leb}
use Rattle.sim0mq.specs.Answer.{fine, part_at}
use Rattle.sim0mq.specs.Field.{Field}
use Rattle.sim0mq.specs.Payload.{payload, payload_from, moved}
use Rattle.sim0mq.specs.Header.{Frame, Header, header}
use Rattle.sim0mq.specs.Message.{Lent, enough, Reading, reading_of, message_rest, message}
use Rattle.sim0mq.specs.Allowed.{field_bytes, HeaderParts, header_frames, header_bytes, IsHeader, MessageParts, message_bytes, IsMessage}
use Rattle.sim0mq.specs.Demand2.{cut_frames}
use Rattle.sim0mq.proofs.Answers.{guarded, bind_fine, part_fine, fine_eq}
use Rattle.sim0mq.proofs.Stands.{Stands, stands_to, stands_left, stands_right, stands_join, stands_self, stands_same, into_part, out_of_part}
use Rattle.sim0mq.proofs.PayloadLaws.{fields_at, payload_complete, FoundFields, payload_sound, fields_moved}
use Rattle.sim0mq.proofs.HeaderLaws.{header_at, header_complete, FoundHeader, header_sound}

-- what is to be known of a message, read off its parts
abbrev pub cut_of : MessageParts → Reading
cut_of p =
    record {
      bytes = length (message_bytes p);
      frames = record { place = 0; code = 9 } ∷ cut_frames 10 (header_frames p.header);
      fields = fields_at (length (header_bytes p.header)) p.fields;
    }

-- the header at the front is judged the same, whatever follows it
pub front_complete : {n : ℕ} (h : HeaderParts) (rest : List ℕ) → IsHeader n h → header (header_bytes h ++ rest) ≡ fine (header_at n h)
front_complete h rest i = header_complete h i (stands_left (header_bytes h) rest (stands_self (header_bytes h ++ rest)))

payload_there : (p : MessageParts) → IsMessage p
    → payload (drop (length (header_bytes p.header)) (message_bytes p)) (length p.fields) ≡ fine (fields_at 0 p.fields)
unfolding payload
payload_there p i =
    let front = header_bytes p.header in
    let rest = flat_map field_bytes p.fields in
    let b = length front in
    let st : Stands (message_bytes p) b rest = stands_to b (omega arith) (stands_right front rest (stands_self (message_bytes p))) in
    payload_complete p.fields i.is_fields (into_part b st)
    (omega (arith, length-drop b (message_bytes p), length-append front rest))

pub message_complete : (most : ℕ) (lent : Lent) (p : MessageParts) → IsMessage p → length (message_bytes p) ≤ most
    → enough lent (length p.fields) ≡ true → message most lent (message_bytes p) ≡ fine (cut_of p)
unfolding message message_rest
message_complete most lent p i short room =
    let b = length (header_bytes p.header) in
    simp (
      le-leb (length (message_bytes p)) most short,
      front_complete p.header (flat_map field_bytes p.fields) i.is_header,
      room,
      payload_there p i,
      fields_moved b 0 p.fields,
      add-zero b,
    )

-- what was accepted, as a message's parts
pub record FoundMessage (most : ℕ) (s : List ℕ) (m : Reading) : Type 0 where
  pub parts : MessageParts
  pub is : IsMessage parts
  pub whole : message_bytes parts ≡ s
  pub short : length s ≤ most
  pub says : m ≡ cut_of parts

reading_eq : {b b' : ℕ} {f f' : List Frame} {x x' : List Field} → b ≡ b' → f ≡ f' → x ≡ x'
    → ◌≡◌ {A = Reading} (record { bytes = b; frames = f; fields = x }) (record { bytes = b'; frames = f'; fields = x' })
reading_eq p q r = λ i. record { bytes = p i; frames = q i; fields = r i }

message_joined : (most : ℕ) (s : List ℕ) (h : Header) (fs : List Field) → length s ≤ most → FoundHeader s h
    → FoundFields (drop h.next s) h.fields 0 fs → FoundMessage most s (reading_of s h fs)
message_joined most s h fs short x y =
    let front = header_bytes x.parts in
    let rest = flat_map field_bytes y.parts in
    let p : MessageParts = record { header = x.parts; fields = y.parts } in
    let next : h.next ≡ length front = ap (λ (z : Header). z.next) x.says in
    let fits = x.there.fits in
    let end = y.ends in
    let there : Stands s (0 + length front) rest = stands_to (0 + length front) (omega arith) (out_of_part h.next (omega arith) y.there) in
    let whole : message_bytes p ≡ s
    =
    stands_same (front ++ rest) s (omega (arith, length-append front rest, length-drop h.next s)) (stands_join front rest x.there there)
    (stands_self s) in
    let fields : map (moved h.next) fs ≡ fields_at (length front) y.parts
    =
    ap (map (moved h.next)) y.says
    ∙ fields_moved h.next 0 y.parts
    ∙ ap (λ (b : ℕ). fields_at b y.parts) (add-zero h.next ∙ next) in
    record {
      parts = p;
      is = record { is_header = subst (λ (n : ℕ). IsHeader n x.parts) (sym y.many) x.is; is_fields = y.are };
      whole = whole;
      short = short;
      says = reading_eq (ap length (sym whole)) (ap (λ (z : Header). z.frames) x.says) fields;
    }

pub message_sound : (most : ℕ) (lent : Lent) (s : List ℕ) (m : Reading) → message most lent s ≡ fine m → FoundMessage most s m
unfolding message message_rest payload
message_sound most lent s m q =
    let a = guarded (leb (length s) most) _ _ _ q in
    let b = bind_fine (header s) _ a.1 in
    let h = b.0 in
    let c = guarded (enough lent h.fields) _ _ _ b.2 in
    let d = bind_fine (part_at h.next (payload_from (drop h.next s) h.fields 0)) _ c.1 in
    let y = payload_sound h.fields (drop h.next s) 0 d.0 zero-le (part_fine h.next _ d.1) in
    subst (λ (z : Reading). FoundMessage most s z) (fine_eq d.2)
    (message_joined most s h d.0 (leb-true _ _ a.0) (header_sound s h b.1) y)
