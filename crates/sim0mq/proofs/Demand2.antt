-- Demand 2 holds of the definitions: the judge takes exactly the messages and answers their cut (MessageLaws), and
-- there is no other cut (Only).
use Prim.Native.Nat.{ℕ, ◌≤◌}
use mathlib.Core.Path.{◌≡◌, refl, ap, sym, ◌∙◌, subst, subst₂}
use mathlib.Core.Bool.{true}
use mathlib.Core.List.{List, flat_map}
use native.Mathlib.Omega.{arith}
use lib.ListN.{length, length-append}
use lib.Dec.{leb}
use Rattle.sim0mq.specs.Answer.{Answer, fine, refused, ◌>>=◌, ◌>>◌, guard}
use Rattle.sim0mq.specs.Header.{Header, header}
use Rattle.sim0mq.specs.Message.{limit, Lent, no_table, enough, Reading, steps_of, message_rest, message, reading}
use Rattle.sim0mq.specs.Allowed.{field_bytes, header_bytes, MessageParts, message_bytes, IsMessage, Allowed}
use Rattle.sim0mq.specs.Demand2.{Room, RoomIsAllThatCounts, Accepted, AcceptsWhatIsAllowed, cut_frames, IsCut, ReadsTheCut, Covers, FieldsCoverThePayload, CutIsUnique, StepsAreCounted}
use Rattle.sim0mq.proofs.Answers.{bind_fine, guarded, fine_eq}
use Rattle.sim0mq.proofs.PayloadLaws.{fields_many, fields_rows, fields_tile, fields_steps}
use Rattle.sim0mq.proofs.HeaderLaws.{header_at}
use Rattle.sim0mq.proofs.MessageLaws.{cut_of, front_complete, message_complete, FoundMessage, message_sound}
use Rattle.sim0mq.proofs.Only.{message_only}

-- what was read, as a message's parts
pub found : (lent : Lent) (s : List ℕ) (m : Reading) → reading lent s ≡ fine m → FoundMessage limit s m
unfolding reading
found lent s m q = message_sound limit lent s m q

-- a table is asked for its room alone, once the header is good
room_go : (lent : Lent) (s : List ℕ) (a : Answer Header) → ((h : Header) → a ≡ fine h → enough lent h.fields ≡ true)
    → (a >>= (λ h. guard (enough lent h.fields) 14 0 >> message_rest s h))
    ≡ (a >>= (λ h. guard (enough no_table h.fields) 14 0 >> message_rest s h))
unfolding enough
room_go lent s (fine h) room = rw (room h refl) refl
room_go lent s (refused k p) room = refl

pub room_is_all_that_counts : RoomIsAllThatCounts
unfolding reading message
room_is_all_that_counts lent s room =
    ap (λ (a : Answer Reading). guard (leb (length s) limit) 8 0 >> a) (room_go lent s (header s) room)

-- what is accepted with a table had room in it, and is accepted with none
pub room_had : (lent : Lent) (s : List ℕ) (m : Reading) → reading lent s ≡ fine m → Room lent s
unfolding reading message
room_had lent s m q h e =
    let a = guarded (leb (length s) limit) _ _ _ q in
    let b = bind_fine (header s) _ a.1 in
    let c = guarded (enough lent b.0.fields) _ _ _ b.2 in
    subst (λ (x : Header). enough lent x.fields ≡ true) (fine_eq (sym b.1 ∙ e)) c.0

pub without_table : (lent : Lent) (s : List ℕ) (m : Reading) → reading lent s ≡ fine m → reading no_table s ≡ fine m
without_table lent s m q = sym (room_is_all_that_counts lent s (room_had lent s m q)) ∙ q

accepts_parts : (lent : Lent) (p : MessageParts) → IsMessage p → length (message_bytes p) ≤ limit → Room lent (message_bytes p)
    → Accepted lent (message_bytes p)
unfolding reading
accepts_parts lent p i short room =
    let head = front_complete p.header (flat_map field_bytes p.fields) i.is_header in
    (cut_of p, message_complete limit lent p i short (room (header_at (length p.fields) p.header) head))

accepts_allowed : (lent : Lent) (s : List ℕ) → Room lent s → Allowed limit s → Accepted lent s
accepts_allowed lent s room a =
    subst (λ (t : List ℕ). Room lent t → Accepted lent t) a.whole
    (accepts_parts lent a.parts a.is_message (subst (λ (t : List ℕ). length t ≤ limit) (sym a.whole) a.short)) room

allows_accepted : (lent : Lent) (s : List ℕ) → Accepted lent s → Allowed limit s
allows_accepted lent s a =
    let f = found lent s a.0 a.1 in record { parts = f.parts; is_message = f.is; whole = f.whole; short = f.short }

pub accepts_what_is_allowed : AcceptsWhatIsAllowed
accepts_what_is_allowed lent s room = (allows_accepted lent s, accepts_allowed lent s room)

pub cut_is_unique : CutIsUnique
cut_is_unique = message_only

-- what was read is the cut of whatever parts the message has
read_cut : (lent : Lent) (s : List ℕ) (m : Reading) (a : Allowed limit s) → reading lent s ≡ fine m → m ≡ cut_of a.parts
read_cut lent s m a q =
    let f = found lent s m q in
    f.says ∙ ap cut_of (message_only f.parts a.parts f.is a.is_message (f.whole ∙ sym a.whole))

is_cut : (p : MessageParts) → IsCut p (cut_of p)
is_cut p =
    let at = length (header_bytes p.header) in
    record { bytes = refl; frames = refl; rows = fields_rows at p.fields; fields = fields_many at p.fields }

pub reads_the_cut : ReadsTheCut
reads_the_cut lent s m a q = subst (λ (x : Reading). IsCut a.parts x) (sym (read_cut lent s m a q)) (is_cut a.parts)

cut_covers : (p : MessageParts) → IsMessage p → Covers (message_bytes p) (cut_of p)
cut_covers p i =
    let front = header_bytes p.header in
    let rest = flat_map field_bytes p.fields in
    record {
      head = header_at (length p.fields) p.header;
      reads = front_complete p.header rest i.is_header;
      tiles = fields_tile (length front) (length (message_bytes p)) p.fields (sym (length-append front rest));
      declared = fields_many (length front) p.fields;
    }

pub fields_cover_the_payload : FieldsCoverThePayload
fields_cover_the_payload lent s m q =
    let f = found lent s m q in
    subst₂ (λ (t : List ℕ) (x : Reading). Covers t x) f.whole (sym f.says) (cut_covers f.parts f.is)

-- where one message was accepted with a table, so is another that has as many fields
pub with_table : (lent : Lent) (s t : List ℕ) (m n : Reading) → reading lent s ≡ fine m → reading no_table t ≡ fine n
    → length m.fields ≡ length n.fields → reading lent t ≡ fine n
with_table lent s t m n q r many =
    let a = fields_cover_the_payload lent s m q in
    let b = fields_cover_the_payload no_table t n r in
    let had : enough lent a.head.fields ≡ true = room_had lent s m q a.head a.reads in
    let declares : a.head.fields ≡ b.head.fields = sym a.declared ∙ many ∙ b.declared in
    let room : Room lent t
    = λ h e.
    subst (λ (x : Header). enough lent x.fields ≡ true) (fine_eq (sym b.reads ∙ e))
    (subst (λ (k : ℕ). enough lent k ≡ true) declares had) in
    room_is_all_that_counts lent t room ∙ r

pub steps_are_counted : StepsAreCounted
unfolding steps_of cut_frames
steps_are_counted lent s m a q =
    let e = fields_steps (length (header_bytes a.parts.header)) a.parts.fields in
    ap steps_of (read_cut lent s m a q) ∙ omega arith
