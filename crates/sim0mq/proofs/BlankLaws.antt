-- Blanking writes zeros over the value strings of a cut and moves nothing, so the copy is the same cut with zeros for
-- values.
use Prim.Native.Nat.{ℕ, suc, ◌+◌, ◌-◌, ◌≤◌, ◌<◌}
use mathlib.Core.Path.{◌≡◌, refl, ap, ap₂, sym, ◌∙◌, subst}
use mathlib.Core.Bool.{Bool, true, false}
use mathlib.Core.List.{List, [], ◌∷◌, ◌++◌, map, flat_map, append_assoc}
use native.Mathlib.Omega.{arith}
use native.Mathlib.Nat.{not-suc-le-zero}
use lib.ListN.{length, get_or, take, drop, replicate, length-append, length-drop, length-replicate, get_or-replicate, get_or-append}
use lib.Seq.{length-take-le, take-append_seam, drop-append_seam, drop-append-add, get_or-append-add, get_or-take, get_or-drop, ext_get_or}
use lib.Dec.{leb}
use borrow.Author.Tests.{leb-true, leb-false}
use Rattle.sim0mq.specs.Answer.{byte}
use Rattle.sim0mq.specs.Field.{Field, after}
use Rattle.sim0mq.specs.Blank.{zeroed, blanked}
use Rattle.sim0mq.specs.Allowed.{Each, none, more, FieldParts, joined, field_bytes, values_asked, IsField, header_bytes, IsHeader, MessageParts, message_bytes, IsMessage}
use Rattle.sim0mq.specs.Demand3.{ValueByte, here, later, IsBlank}
use Rattle.sim0mq.proofs.FieldLaws.{field_at, after_at}
use Rattle.sim0mq.proofs.PayloadLaws.{fields_at}

-- so many zeros
abbrev pub zeros : ℕ → List ℕ
zeros n = replicate n 0

zeros_long : (n : ℕ) → length (zeros n) ≡ n
zeros_long n = length-replicate {A = ℕ} n 0

-- one run of zeros: the length stays, the run is zero, and what lies before and after it stays
pub zeroed_long : (s : List ℕ) (at n : ℕ) → at + n ≤ length s → length (zeroed s at n) ≡ length s
unfolding zeroed
zeroed_long s at n h =
    let a : length (take at s) ≡ at = length-take-le at s (omega arith) in
    omega (
      arith,
      length-append (take at s) (zeros n ++ drop (at + n) s),
      length-append (zeros n) (drop (at + n) s),
      zeros_long n,
      length-drop (at + n) s,
    )

zeroed_in : (s : List ℕ) (at n j : ℕ) → at + n ≤ length s → j < n → byte (zeroed s at n) (at + j) ≡ 0
unfolding zeroed
zeroed_in s at n j h k =
    let a : length (take at s) ≡ at = length-take-le at s (omega arith) in
    let zs = zeros n ++ drop (at + n) s in
    ap (λ (p : ℕ). get_or (take at s ++ zs) p 0) (ap (λ (p : ℕ). p + j) (sym a))
    ∙ get_or-append-add (take at s) zs j 0
    ∙ get_or-append (zeros n) (drop (at + n) s) 0 j (omega (arith, zeros_long n))
    ∙ get_or-replicate n j 0 0 k

zeroed_before : (s : List ℕ) (at n i : ℕ) → at + n ≤ length s → i < at → byte (zeroed s at n) i ≡ byte s i
unfolding zeroed
zeroed_before s at n i h k =
    let a : length (take at s) ≡ at = length-take-le at s (omega arith) in
    get_or-append (take at s) (zeros n ++ drop (at + n) s) 0 i (omega arith) ∙ get_or-take at s i 0 k

zeroed_after : (s : List ℕ) (at n j : ℕ) → at + n ≤ length s → byte (zeroed s at n) (at + n + j) ≡ byte s (at + n + j)
unfolding zeroed
zeroed_after s at n j h =
    let a : length (take at s) ≡ at = length-take-le at s (omega arith) in
    let r : length (zeros n) ≡ n = zeros_long n in
    let d = drop (at + n) s in
    let e : at + n + j ≡ length (take at s) + (length (zeros n) + j) = omega arith in
    ap (λ (p : ℕ). get_or (take at s ++ (zeros n ++ d)) p 0) e
    ∙ get_or-append-add (take at s) (zeros n ++ d) (length (zeros n) + j) 0
    ∙ get_or-append-add (zeros n) d j 0
    ∙ get_or-drop (at + n) s j 0

-- where a place lies: before a run, in it, or after it
data Lies (at n i : ℕ) : Type 0 where
  before : i < at → Lies at n i
  within : (j : ℕ) → j < n → i ≡ at + j → Lies at n i
  beyond : (j : ℕ) → i ≡ at + n + j → Lies at n i

-- every place lies in one of the three ways
lies : (at n i : ℕ) → Lies at n i
lies at n i = go (leb at i) refl
  where
    inner : at ≤ i → (b : Bool) → leb (at + n) i ≡ b → Lies at n i
    inner h true e = let k = leb-true (at + n) i e in beyond (i - (at + n)) (omega arith)
    inner h false e = let k = leb-false (at + n) i e in within (i - at) (omega arith) (omega arith)

    go : (b : Bool) → leb at i ≡ b → Lies at n i
    go true e = inner (leb-true at i e) (leb (at + n) i) refl
    go false e = before (leb-false at i e)

-- the field's value bytes lie in n bytes
abbrev pub Inside : ℕ → Field → Type 0
Inside n f = f.first + f.size ≤ n

-- fields inside of n bytes are inside of as many
pub inside_to : {n k : ℕ} {fs : List Field} → n ≡ k → Each (Inside n) fs → Each (Inside k) fs
inside_to {fs = fs} e x = subst (λ (j : ℕ). Each (Inside j) fs) e x

-- the copy is as long
pub blanked_long : (s : List ℕ) (fs : List Field) → Each (Inside (length s)) fs → length (blanked s fs) ≡ length s
unfolding blanked
blanked_long s [] none = refl
blanked_long s (f ∷ fs) (more a b) =
    let e = zeroed_long s f.first f.size a in
    blanked_long (zeroed s f.first f.size) fs (inside_to (sym e) b) ∙ e

-- a zero stays zero
zeroed_stays : (s : List ℕ) (at n i : ℕ) → at + n ≤ length s → byte s i ≡ 0 → byte (zeroed s at n) i ≡ 0
zeroed_stays s at n i h z = go (lies at n i)
  where
    go : Lies at n i → byte (zeroed s at n) i ≡ 0
    go (before k) = zeroed_before s at n i h k ∙ z
    go (within j k e) = ap (byte (zeroed s at n)) e ∙ zeroed_in s at n j h k
    go (beyond j e) = ap (byte (zeroed s at n)) e ∙ zeroed_after s at n j h ∙ ap (byte s) (sym e) ∙ z

blanked_stays : (s : List ℕ) (fs : List Field) (i : ℕ) → Each (Inside (length s)) fs → byte s i ≡ 0 → byte (blanked s fs) i ≡ 0
unfolding blanked
blanked_stays s [] i none z = z
blanked_stays s (f ∷ fs) i (more a b) z =
    blanked_stays (zeroed s f.first f.size) fs i (inside_to (sym (zeroed_long s f.first f.size a)) b)
    (zeroed_stays s f.first f.size i a z)

-- the copy is zero in each value byte
blanked_in : (s : List ℕ) (fs : List Field) (i : ℕ) → Each (Inside (length s)) fs → ValueByte fs i → byte (blanked s fs) i ≡ 0
unfolding blanked
blanked_in s [] i _ v = elim v [ ]
blanked_in s (f ∷ fs) i (more a b) (here h k) =
    let e : i ≡ f.first + (i - f.first) = omega arith in
    blanked_stays (zeroed s f.first f.size) fs i (inside_to (sym (zeroed_long s f.first f.size a)) b)
    (ap (byte (zeroed s f.first f.size)) e ∙ zeroed_in s f.first f.size (i - f.first) a (omega arith))
blanked_in s (f ∷ fs) i (more a b) (later v) =
    blanked_in (zeroed s f.first f.size) fs i (inside_to (sym (zeroed_long s f.first f.size a)) b) v

-- outside the run each byte stays
zeroed_out : (s : List ℕ) (at n i : ℕ) → at + n ≤ length s → (at ≤ i → i < at + n → ⊥) → byte (zeroed s at n) i ≡ byte s i
zeroed_out s at n i h no_value = go (lies at n i)
  where
    go : Lies at n i → byte (zeroed s at n) i ≡ byte s i
    go (before k) = zeroed_before s at n i h k
    go (within j k e) = absurd (no_value (omega arith) (omega arith))
    go (beyond j e) = ap (byte (zeroed s at n)) e ∙ zeroed_after s at n j h ∙ ap (byte s) (sym e)

-- the copy has the message's byte elsewhere
blanked_out : (s : List ℕ) (fs : List Field) (i : ℕ) → Each (Inside (length s)) fs → (ValueByte fs i → ⊥) → byte (blanked s fs) i ≡ byte s i
unfolding blanked
blanked_out s [] i none v = refl
blanked_out s (f ∷ fs) i (more a b) v =
    blanked_out (zeroed s f.first f.size) fs i (inside_to (sym (zeroed_long s f.first f.size a)) b) (λ w. v (later w))
    ∙ zeroed_out s f.first f.size i a (λ h k. v (here h k))

-- so the copy is blank
pub is_blank : (s : List ℕ) (fs : List Field) → Each (Inside (length s)) fs → IsBlank s fs (blanked s fs)
is_blank s fs e =
    record { long = blanked_long s fs e; zeros = λ i v. blanked_in s fs i e v; same = λ i v. blanked_out s fs i e v }

-- a place is that of a value byte, or it is not
data Sort (fs : List Field) (i : ℕ) : Type 0 where
  value : ValueByte fs i → Sort fs i
  other : (ValueByte fs i → ⊥) → Sort fs i

-- what is no value byte of the first nor of a later field is none at all
no_later : {f : Field} {fs : List Field} {i : ℕ} → (f.first ≤ i → i < f.first + f.size → ⊥) → (ValueByte fs i → ⊥) → ValueByte (f ∷ fs) i → ⊥
no_later a b (here h k) = a h k
no_later a b (later v) = b v

-- a value byte is some field's
pub some_field : {fs : List Field} {i : ℕ} → ValueByte fs i → 0 < length fs
some_field (here h k) = omega arith
some_field (later v) = omega arith

-- each place is of one sort or the other
sort : (fs : List Field) (i : ℕ) → Sort fs i
sort [] i = other (λ v. absurd (not-suc-le-zero (some_field v)))
sort (f ∷ fs) i = go (lies f.first f.size i) (sort fs i)
  where
    go : Lies f.first f.size i → Sort fs i → Sort (f ∷ fs) i
    go l (value v) = value (later v)
    go (within j k e) (other v) = value (here {f = f} {i = i} (omega arith) (omega arith))
    go (before k) (other v) = other (no_later {f = f} {i = i} (λ h k'. omega arith) v)
    go (beyond j e) (other v) = other (no_later {f = f} {i = i} (λ h k'. omega arith) v)

-- strings that are blank of the same bytes are the same
pub blank_same : (s t c d : List ℕ) (fs : List Field) → length s ≡ length t → ((i : ℕ) → (ValueByte fs i → ⊥) → byte s i ≡ byte t i)
    → IsBlank s fs c → IsBlank t fs d → c ≡ d
blank_same s t c d fs l same a b = ext_get_or 0 c d (a.long ∙ l ∙ sym b.long) (λ i h. go i (sort fs i))
  where
    go : (i : ℕ) → Sort fs i → get_or c i 0 ≡ get_or d i 0
    go i (value v) = a.zeros i v ∙ sym (b.zeros i v)
    go i (other v) = a.same i v ∙ same i v ∙ sym (b.same i v)

-- a cut's value bytes lie within it
pub fields_inside : (at n : ℕ) (fs : List FieldParts) → at + length (flat_map field_bytes fs) ≤ n → Each (Inside n) (fields_at at fs)
unfolding fields_at flat_map after
fields_inside at n [] h = none
fields_inside at n (f ∷ fs) h =
    let bytes = field_bytes f in
    let rest = flat_map field_bytes fs in
    let l = length-append bytes rest in
    let e = after_at at f in
    let a : Inside n (field_at at f) = omega arith in
    more a (fields_inside (at + length bytes) n fs (omega (arith, length-append bytes rest)))

-- a field, and a message, with zeros for payload values
abbrev blank_field : FieldParts → FieldParts
blank_field f = record { code = f.code; counts = f.counts; marks = f.marks; values = zeros (length f.values) }

abbrev pub blank_parts : MessageParts → MessageParts
blank_parts p = record { header = p.header; fields = map blank_field p.fields }

-- zeros are values of every kind
blank_field_lem : {f : FieldParts} → IsField f → IsField (blank_field f)
blank_field_lem {f} i =
    record {
      known = i.known;
      counted = i.counted;
      is_counts = i.is_counts;
      marked = i.marked;
      is_marks = i.is_marks;
      sized = zeros_long (length f.values) ∙ i.sized;
      is_boolean =
          λ b j h.
          let z : get_or (zeros (length f.values)) j 0 ≡ 0 = get_or-replicate (length f.values) j 0 0 (omega (arith, zeros_long (length f.values))) in
          omega arith;
    }

blank_each : {fs : List FieldParts} → Each IsField fs → Each IsField (map blank_field fs)
blank_each none = none
blank_each (more a b) = more (blank_field_lem a) (blank_each b)

blank_many : (fs : List FieldParts) → length (map blank_field fs) ≡ length fs
blank_many [] = refl
blank_many (f ∷ fs) = ap suc (blank_many fs)

-- so a message with zeros for values is a message
pub blank_message : (p : MessageParts) → IsMessage p → IsMessage (blank_parts p)
blank_message p i =
    record {
      is_header = subst (λ (n : ℕ). IsHeader n p.header) (sym (blank_many p.fields)) i.is_header;
      is_fields = blank_each i.is_fields;
    }

-- the blank field is as long
blank_long : (f : FieldParts) → length (field_bytes (blank_field f)) ≡ length (field_bytes f)
blank_long f =
    let z = zeros_long (length f.values) in
    omega (
      arith,
      length-append (joined f.counts) (joined f.marks ++ f.values),
      length-append (joined f.marks) f.values,
      length-append (joined f.counts) (joined f.marks ++ zeros (length f.values)),
      length-append (joined f.marks) (zeros (length f.values)),
    )

-- the cut is the same
pub blank_cut : (at : ℕ) (fs : List FieldParts) → fields_at at (map blank_field fs) ≡ fields_at at fs
unfolding fields_at
blank_cut at [] = refl
blank_cut at (f ∷ fs) =
    let n = zeros_long (length f.values) in
    let g : field_at at (blank_field f) ≡ field_at at f
    =
    λ k.
    record {
      code = f.code;
      place = at;
      first = at + 1 + length (joined f.counts) + length (joined f.marks);
      size = n k;
      marked = length f.marks;
      values = values_asked f.counts;
    } in
    ap₂ ◌∷◌ g
    (ap (λ (p : ℕ). fields_at (at + p) (map blank_field fs)) (blank_long f) ∙ blank_cut (at + length (field_bytes f)) fs)

-- zeros over a middle string
zeroed_seam : (q v r : List ℕ) → zeroed (q ++ (v ++ r)) (length q) (length v) ≡ q ++ (zeros (length v) ++ r)
unfolding zeroed
zeroed_seam q v r =
    ap₂ (λ (a b : List ℕ). a ++ (zeros (length v) ++ b)) (take-append_seam q (v ++ r))
    (drop-append-add q (v ++ r) (length v) ∙ drop-append_seam v r)

-- five strings, grouped at the values
regroup : (pre c m v r : List ℕ) (x : ℕ) → pre ++ ((x ∷ (c ++ (m ++ v))) ++ r) ≡ (pre ++ (x ∷ (c ++ m))) ++ (v ++ r)
regroup pre c m v r x =
    ap (λ (l : List ℕ). pre ++ (x ∷ l))
    (append_assoc c (m ++ v) r ∙ ap (λ (l : List ℕ). c ++ l) (append_assoc m v r) ∙ sym (append_assoc c m (v ++ r)))
    ∙ sym (append_assoc pre (x ∷ (c ++ m)) (v ++ r))

-- zeros over one field's values make the blank field
zeroed_field : (pre r : List ℕ) (f : FieldParts)
    → zeroed (pre ++ (field_bytes f ++ r)) (length pre + 1 + length (joined f.counts) + length (joined f.marks)) (length f.values)
    ≡ (pre ++ field_bytes (blank_field f)) ++ r
zeroed_field pre r f =
    let c = joined f.counts in
    let m = joined f.marks in
    let v = f.values in
    let q = pre ++ (f.code ∷ (c ++ m)) in
    let at : length pre + 1 + length c + length m ≡ length q
    = omega (arith, length-append pre (f.code ∷ (c ++ m)), length-append c m) in
    ap₂ (λ (s : List ℕ) (p : ℕ). zeroed s p (length v)) (regroup pre c m v r f.code) at
    ∙ zeroed_seam q v r
    ∙ sym (regroup pre c m (zeros (length v)) r f.code)
    ∙ sym (append_assoc pre (field_bytes (blank_field f)) r)

-- field after field, the copy's payload is that of the blank fields
blanked_fields : (pre : List ℕ) (fs : List FieldParts)
    → blanked (pre ++ flat_map field_bytes fs) (fields_at (length pre) fs) ≡ pre ++ flat_map field_bytes (map blank_field fs)
unfolding blanked fields_at flat_map
blanked_fields pre [] = refl
blanked_fields pre (f ∷ fs) =
    let r = flat_map field_bytes fs in
    let b = field_bytes (blank_field f) in
    let at : length pre + length (field_bytes f) ≡ length (pre ++ b) = omega (arith, length-append pre b, blank_long f) in
    ap₂ (λ (s : List ℕ) (p : ℕ). blanked s (fields_at p fs)) (zeroed_field pre r f) at
    ∙ blanked_fields (pre ++ b) fs
    ∙ append_assoc pre b (flat_map field_bytes (map blank_field fs))

-- the copy is the message with zeros for values
pub blanked_parts : (p : MessageParts) → blanked (message_bytes p) (fields_at (length (header_bytes p.header)) p.fields) ≡ message_bytes (blank_parts p)
blanked_parts p = blanked_fields (header_bytes p.header) p.fields
