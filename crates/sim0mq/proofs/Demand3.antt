-- Demand 3 holds of the definitions: the copy is the message's own cut with zeros for values (BlankLaws), and a cut
-- with zeros is a message too.
use Prim.Native.Nat.{ℕ, ◌≤◌}
use mathlib.Core.Path.{◌≡◌, refl, ap, sym, ◌∙◌, subst, subst₂}
use mathlib.Core.List.{List, flat_map}
use native.Mathlib.Omega.{arith}
use lib.ListN.{length, length-append}
use Rattle.sim0mq.specs.Answer.{fine, byte}
use Rattle.sim0mq.specs.Message.{limit, Lent, no_table, enough, Reading, reading}
use Rattle.sim0mq.specs.Blank.{blanked}
use Rattle.sim0mq.specs.Allowed.{Each, field_bytes, header_bytes, MessageParts, message_bytes, IsMessage}
use Rattle.sim0mq.specs.Demand3.{ValueByte, IsBlank, CopyIsBlank, CopyIsReadAlike, BlankingAgain, SameBuild, CopyTellsOnlyTheBuild}
use Rattle.sim0mq.proofs.Answers.{fine_eq}
use Rattle.sim0mq.proofs.MessageLaws.{cut_of, message_complete}
use Rattle.sim0mq.proofs.Demand2.{found, with_table}
use Rattle.sim0mq.proofs.BlankLaws.{Inside, blanked_long, is_blank, blank_same, fields_inside, blank_parts, blank_message, blank_cut, blanked_parts}
use Rattle.sim0mq.proofs.BuildLaws.{message_alike}

-- the value bytes of a message lie within it
cut_inside : (p : MessageParts) → Each (Inside (length (message_bytes p))) (cut_of p).fields
cut_inside p =
    let front = header_bytes p.header in
    let rest = flat_map field_bytes p.fields in
    fields_inside (length front) (length (message_bytes p)) p.fields (omega (arith, length-append front rest))

pub inside : (lent : Lent) (s : List ℕ) (m : Reading) → reading lent s ≡ fine m → Each (Inside (length s)) m.fields
inside lent s m q =
    let f = found lent s m q in
    subst₂ (λ (t : List ℕ) (x : Reading). Each (Inside (length t)) x.fields) f.whole (sym f.says) (cut_inside f.parts)

pub copy_is_blank : CopyIsBlank
copy_is_blank lent s m q = is_blank s m.fields (inside lent s m q)

-- the message with zeros for values is cut the same
copy_long : (p : MessageParts) → length (message_bytes (blank_parts p)) ≡ length (message_bytes p)
copy_long p = ap length (sym (blanked_parts p)) ∙ blanked_long (message_bytes p) (cut_of p).fields (cut_inside p)

copy_cut : (p : MessageParts) → cut_of (blank_parts p) ≡ cut_of p
copy_cut p =
    let long = copy_long p in
    let fields = blank_cut (length (header_bytes p.header)) p.fields in
    λ k. record { bytes = long k; frames = (cut_of p).frames; fields = fields k }

copy_read : (p : MessageParts) → IsMessage p → length (message_bytes p) ≤ limit → reading no_table (blanked (message_bytes p) (cut_of p).fields) ≡ fine (cut_of p)
unfolding reading enough
copy_read p i short =
    ap (reading no_table) (blanked_parts p)
    ∙ message_complete limit no_table (blank_parts p) (blank_message p i) (subst (λ (n : ℕ). n ≤ limit) (sym (copy_long p)) short) refl
    ∙ ap fine (copy_cut p)

-- with no table, and so with one that had room for the message: the copy has as many fields
pub copy_is_read_alike : CopyIsReadAlike
copy_is_read_alike lent s m q =
    let f = found lent s m q in
    with_table lent s (blanked s m.fields) m m q
    (subst₂ (λ (t : List ℕ) (x : Reading). reading no_table (blanked t x.fields) ≡ fine x) f.whole (sym f.says)
    (copy_read f.parts f.is (subst (λ (t : List ℕ). length t ≤ limit) (sym f.whole) f.short))) refl

pub blanking_again : BlankingAgain
blanking_again lent s m q =
    let fs = m.fields in
    let c = blanked s fs in
    let a = copy_is_blank lent s m q in
    blank_same c s (blanked c fs) c fs a.long a.same (copy_is_blank lent c m (copy_is_read_alike lent s m q)) a

-- of the same build, hence cut alike
same_cut : (lent : Lent) (s t : List ℕ) (m n : Reading) → reading lent s ≡ fine m → reading lent t ≡ fine n → SameBuild m.fields s t → m ≡ n
same_cut lent s t m n a b x =
    let f = found lent s m a in
    let g = found lent t n b in
    let y : SameBuild (cut_of f.parts).fields (message_bytes f.parts) (message_bytes g.parts)
    =
    subst (λ (z : Reading). SameBuild z.fields (message_bytes f.parts) (message_bytes g.parts)) f.says
    (subst₂ (λ (u v : List ℕ). SameBuild m.fields u v) (sym f.whole) (sym g.whole) x) in
    f.says ∙ message_alike f.parts g.parts f.is g.is y.long y.same ∙ sym g.says

-- the same copy, hence of the same build, since the copy is read as the message is
same_build : (lent : Lent) (s t : List ℕ) (m n : Reading) → reading lent s ≡ fine m → reading lent t ≡ fine n
    → blanked s m.fields ≡ blanked t n.fields → SameBuild m.fields s t
same_build lent s t m n a b e =
    let c = copy_is_blank lent s m a in
    let d = copy_is_blank lent t n b in
    let cut : m ≡ n = fine_eq (sym (copy_is_read_alike lent s m a) ∙ ap (reading lent) e ∙ copy_is_read_alike lent t n b) in
    record {
      long = sym c.long ∙ ap length e ∙ d.long;
      same =
          λ i v.
          sym (c.same i v)
          ∙ ap (λ (l : List ℕ). byte l i) e
          ∙ d.same i (subst (λ (z : Reading). ValueByte z.fields i → ⊥) cut v);
    }

-- of the same build, hence the same copy
same_copy : (lent : Lent) (s t : List ℕ) (m n : Reading) → reading lent s ≡ fine m → reading lent t ≡ fine n
    → SameBuild m.fields s t → blanked s m.fields ≡ blanked t n.fields
same_copy lent s t m n a b x =
    let cut : n ≡ m = sym (same_cut lent s t m n a b x) in
    let d : IsBlank t m.fields (blanked t m.fields)
    = subst (λ (z : Reading). IsBlank t z.fields (blanked t z.fields)) cut (copy_is_blank lent t n b) in
    blank_same s t (blanked s m.fields) (blanked t m.fields) m.fields x.long x.same (copy_is_blank lent s m a) d
    ∙ ap (λ (z : Reading). blanked t z.fields) (sym cut)

pub copy_tells_only_the_build : CopyTellsOnlyTheBuild
copy_tells_only_the_build lent s t m n a b = ((same_build lent s t m n a b, same_copy lent s t m n a b), same_cut lent s t m n a b)
