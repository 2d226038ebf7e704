-- A field has at least two bytes for its own step and two for each mark, and nine for its own where it may have more
-- than one mark; a byte field has two in all; and a header has at least 35.
use Prim.Native.Nat.{ℕ, zero, suc, ◌+◌, ◌-◌, ◌*◌, ◌≤◌, zero-le}
use mathlib.Core.Path.{◌≡◌, refl, ap, sym, ◌∙◌, subst}
use mathlib.Core.Bool.{Bool, true, false, ◌||◌}
use mathlib.Core.Logic.{◌⊎◌, inl, inr}
use mathlib.Core.List.{List, [], ◌∷◌, ◌++◌, flat_map}
use native.Mathlib.Omega.{arith}
use lib.ListN.{length, length-append}
use lib.Dec.{leb}
use borrow.Author.Tests.{leb-true}
use Rattle.sim0mq.specs.Answer.{fine}
use Rattle.sim0mq.specs.Codes.{width_row, code_known, counts_of, marking_of, width_of}
use Rattle.sim0mq.specs.Field.{Field}
use Rattle.sim0mq.specs.Header.{id_codes, number_codes, status_codes, count_codes, Header, header}
use Rattle.sim0mq.specs.Message.{limit, Lent, Reading, steps_of, reading}
use Rattle.sim0mq.specs.Allowed.{Each, none, more, IsCount, IsMark, with_display, with_currency, with_both, FieldParts, joined, field_bytes, values_asked, marks_asked, IsField, IsFrame, HeaderParts, frame0, header_bytes, IsHeader, MessageParts, IsMessage}
use Rattle.sim0mq.specs.Demand2.{cut_frames, marks_in}
use Rattle.sim0mq.proofs.Answers.{fine_eq}
use Rattle.sim0mq.proofs.Rows.{all_pass, pass_at, pass_among, all_below, below_at}
use Rattle.sim0mq.proofs.PayloadLaws.{fields_at, fields_steps}
use Rattle.sim0mq.proofs.HeaderLaws.{header_at}
use Rattle.sim0mq.proofs.MessageLaws.{cut_of, front_complete, message_sound}
use Rattle.reading_steps.specs.Ceiling.{least_header, columns_head}

-- the bytes of counts and of marks
counts_long : (cs : List (List ℕ)) → Each IsCount cs → length (joined cs) ≡ 4 * length cs
unfolding flat_map
counts_long [] none = refl
counts_long (c ∷ cs) (more a b) = omega (arith, length-append c (joined cs), a.long, counts_long cs b)

mark_long : {m : List ℕ} → IsMark m → 2 ≤ length m
mark_long (with_display k e) = omega arith
mark_long (with_currency k e) = omega arith
mark_long (with_both k e g) = omega arith

marks_long : (ms : List (List ℕ)) → Each IsMark ms → 2 * length ms ≤ length (joined ms)
unfolding flat_map
marks_long [] none = omega arith
marks_long (m ∷ ms) (more a b) = omega (arith, length-append m (joined ms), mark_long a, marks_long ms b)

-- the value bytes of a field of n counts and width w: without a count there is one value
unfoldable single : ℕ → ℕ → ℕ
single zero w = w
single (suc n) w = 0

values_long : (cs : List (List ℕ)) (w : ℕ) → single (length cs) w ≤ values_asked cs * w
unfolding single values_asked
values_long [] w = omega arith
values_long (c ∷ cs) w = zero-le

-- the fewest bytes of a field of this code, without its marks
unfoldable least : ℕ → ℕ
least c = 1 + 4 * counts_of c + single (counts_of c) (width_of c)

field_parts : (f : FieldParts) → length (field_bytes f) ≡ 1 + length (joined f.counts) + length (joined f.marks) + length f.values
field_parts f =
    omega
    (arith, length-append (joined f.counts) (joined f.marks ++ f.values), length-append (joined f.marks) f.values)

field_long : (f : FieldParts) → IsField f → least f.code + 2 * length f.marks ≤ length (field_bytes f)
unfolding least
field_long f i =
    let values : single (counts_of f.code) (width_of f.code) ≤ length f.values
    = rw (← i.counted, i.sized) (values_long f.counts (width_of f.code)) in
    omega (arith, i.counted, field_parts f, counts_long f.counts i.is_counts, marks_long f.marks i.is_marks)

-- a known code has at least two
two_at_least : (c : ℕ) → code_known c ≡ true → 2 ≤ least c
unfolding least single code_known width_of all_pass
two_at_least c k = go (counts_of c) (leb-true 1 _ (pass_at (λ (w : ℕ). leb 1 w) width_row c refl (let h = leb-true c 32 k in omega arith)))
  where
    go : (n : ℕ) → 1 ≤ width_of c → 2 ≤ 1 + 4 * n + single n (width_of c)
    go zero h = omega arith
    go (suc n) h = omega arith

-- so the fields of a payload have two bytes for each step
pub payload_long : (fs : List FieldParts) → Each IsField fs → 2 * (length fs + marks_in fs) ≤ length (flat_map field_bytes fs)
unfolding flat_map marks_in
payload_long [] none = omega arith
payload_long (f ∷ fs) (more i is) =
    let here = field_long f i in
    let two = two_at_least f.code i.known in
    let there = payload_long fs is in
    omega (arith, length-append (field_bytes f) (flat_map field_bytes fs))

-- a code with more than one mark has one for each column, so two counts: a rule of the table's rows
one_mark_or_two_counts : ℕ → Bool
one_mark_or_two_counts c = leb (marking_of c) 1 || leb 2 (counts_of c)

one_or_two : (c : ℕ) → code_known c ≡ true → one_mark_or_two_counts c ≡ true
unfolding one_mark_or_two_counts code_known marking_of counts_of all_below
one_or_two c k = below_at one_mark_or_two_counts 33 c refl (let h = leb-true c 32 k in omega arith)

asked_at_most_one : (marking : ℕ) (cs : List (List ℕ)) → marking ≤ 1 → marks_asked marking cs ≤ 1
unfolding marks_asked
asked_at_most_one zero cs h = omega arith
asked_at_most_one (suc zero) cs h = omega arith
asked_at_most_one (suc (suc k)) cs h = absurd (omega arith)

-- so a field has one mark at most, or nine bytes beside those of its marks
one_or_nine : (f : FieldParts) → IsField f → (length f.marks ≤ 1) ⊎ (columns_head + 2 * length f.marks ≤ length (field_bytes f))
unfolding one_mark_or_two_counts least
one_or_nine f i = go (leb (marking_of f.code) 1) refl (one_or_two f.code i.known)
  where
    go : (t : Bool) → leb (marking_of f.code) 1 ≡ t → (t || leb 2 (counts_of f.code)) ≡ true
        → (length f.marks ≤ 1) ⊎ (columns_head + 2 * length f.marks ≤ length (field_bytes f))
    go true e h = inl (rw i.marked (asked_at_most_one (marking_of f.code) f.counts (leb-true _ 1 e)))
    go false e h =
        let two = leb-true 2 (counts_of f.code) h in
        let long = field_long f i in
        inr (omega arith)

-- and a payload has no more marks than fields, or seven bytes beside two for each step
pub few_or_seven : (fs : List FieldParts) → Each IsField fs
    → (marks_in fs ≤ length fs) ⊎ (2 * (length fs + marks_in fs) + (columns_head - 2) ≤ length (flat_map field_bytes fs))
unfolding flat_map marks_in
few_or_seven [] none = inl (omega arith)
few_or_seven (f ∷ fs) (more i is) = go (one_or_nine f i) (few_or_seven fs is)
  where
    both : length (field_bytes f ++ flat_map field_bytes fs) ≡ length (field_bytes f) + length (flat_map field_bytes fs)
    both = length-append (field_bytes f) (flat_map field_bytes fs)

    go : (length f.marks ≤ 1) ⊎ (columns_head + 2 * length f.marks ≤ length (field_bytes f))
        → (marks_in fs ≤ length fs) ⊎ (2 * (length fs + marks_in fs) + (columns_head - 2) ≤ length (flat_map field_bytes fs))
        → (length f.marks + marks_in fs ≤ suc (length fs))
        ⊎ (2 * (suc (length fs) + (length f.marks + marks_in fs)) + (columns_head - 2) ≤ length (field_bytes f ++ flat_map field_bytes fs))
    go (inr nine) later = let there = payload_long fs is in inr (omega (arith, both))
    go (inl one) (inl few) = inl (omega arith)
    go (inl one) (inr seven) =
        let here = field_long f i in
        let two = two_at_least f.code i.known in
        inr (omega (arith, both))

-- no string, no byte; no count, one value
joined_none : (l : List (List ℕ)) → length l ≡ 0 → length (joined l) ≡ 0
unfolding flat_map
joined_none [] e = refl
joined_none (x ∷ xs) e = absurd (omega arith)

asked_one : (cs : List (List ℕ)) → length cs ≡ 0 → values_asked cs ≡ 1
unfolding values_asked
asked_one [] e = refl
asked_one (c ∷ cs) e = absurd (omega arith)

-- a byte field has two bytes and no mark
byte_field : (f : FieldParts) → IsField f → f.code ≡ 0 → (length (field_bytes f) ≡ 2) × (length f.marks ≡ 0)
unfolding counts_of marking_of width_of marks_asked
byte_field f i e =
    let none : length f.counts ≡ 0 = i.counted ∙ ap counts_of e in
    let marks : length f.marks ≡ 0 = i.marked ∙ ap (λ (c : ℕ). marks_asked (marking_of c) f.counts) e in
    let one : length f.values ≡ values_asked f.counts * 1 = i.sized ∙ ap (λ (c : ℕ). values_asked f.counts * width_of c) e in
    (omega (arith, field_parts f, joined_none f.counts none, joined_none f.marks marks, asked_one f.counts none), marks)

pub byte_fields : (fs : List FieldParts) → Each IsField fs → Each (λ (f : FieldParts). f.code ≡ 0) fs
    → length (flat_map field_bytes fs) ≡ 2 * (length fs + marks_in fs)
unfolding flat_map marks_in
byte_fields [] none none = refl
byte_fields (f ∷ fs) (more i is) (more e es) =
    let here = byte_field f i e in
    let there = byte_fields fs is es in
    omega (arith, length-append (field_bytes f) (flat_map field_bytes fs))

-- the codes that were read are those of the parts
pub codes_back : (at : ℕ) (fs : List FieldParts) → Each (λ (x : Field). x.code ≡ 0) (fields_at at fs) → Each (λ (f : FieldParts). f.code ≡ 0) fs
unfolding fields_at
codes_back at [] none = none
codes_back at (f ∷ fs) (more e es) = more e (codes_back (at + length (field_bytes f)) fs es)

-- the frames of a header
frame_long : (codes : List ℕ) (n : ℕ) (f : FieldParts) → all_pass (λ (c : ℕ). leb n (least c)) codes ≡ true → IsFrame codes f
    → n ≤ length (field_bytes f)
frame_long codes n f a i =
    let h = leb-true n _ (pass_among (λ (c : ℕ). leb n (least c)) codes f.code a i.allowed) in
    let l = field_long f i.is_field in
    omega arith

eight_long : (z a b c d e f g : List ℕ)
    → length (z ++ (a ++ (b ++ (c ++ (d ++ (e ++ (f ++ (g ++ []))))))))
    ≡ length z + length a + length b + length c + length d + length e + length f + length g
eight_long z a b c d e f g = simp length-append (omega arith)

pub header_long : (n : ℕ) (h : HeaderParts) → IsHeader n h → least_header ≤ length (header_bytes h)
unfolding flat_map all_pass least single counts_of width_of
header_long n h i =
    let run = frame_long id_codes 3 h.run refl i.is_run in
    let sender = frame_long id_codes 3 h.sender refl i.is_sender in
    let receiver = frame_long id_codes 3 h.receiver refl i.is_receiver in
    let kind = frame_long id_codes 3 h.kind refl i.is_kind in
    let message = frame_long number_codes 9 h.message refl i.is_number in
    let status = frame_long status_codes 2 h.status refl i.is_status in
    let count = frame_long count_codes 2 h.count refl i.is_count in
    omega
    (arith, eight_long frame0 (field_bytes h.run) (field_bytes h.sender) (field_bytes h.receiver) (field_bytes h.kind) (field_bytes h.message) (field_bytes h.status) (field_bytes h.count))

-- the steps of a message by its parts
pub cut_steps : (p : MessageParts) → steps_of (cut_of p) ≡ 8 + (length p.fields + marks_in p.fields)
unfolding steps_of cut_frames
cut_steps p = let e = fields_steps (length (header_bytes p.header)) p.fields in omega arith

-- what was read, measured: its steps, and its length from the header's end on
pub record Measured (s : List ℕ) (m : Reading) : Type 0 where
  pub parts : MessageParts
  pub is : IsMessage parts
  pub says : m ≡ cut_of parts
  pub reads : header s ≡ fine (header_at (length parts.fields) parts.header)
  pub long : length s ≡ length (header_bytes parts.header) + length (flat_map field_bytes parts.fields)
  pub short : length s ≤ limit
  pub counted : steps_of m ≡ 8 + (length parts.fields + marks_in parts.fields)

pub measured : (lent : Lent) (s : List ℕ) (m : Reading) → reading lent s ≡ fine m → Measured s m
unfolding reading
measured lent s m q =
    let f = message_sound limit lent s m q in
    let p = f.parts in
    let front = header_bytes p.header in
    let rest = flat_map field_bytes p.fields in
    record {
      parts = p;
      is = f.is;
      says = f.says;
      reads = subst (λ (t : List ℕ). header t ≡ fine (header_at (length p.fields) p.header)) f.whole (front_complete p.header rest f.is.is_header);
      long = ap length (sym f.whole) ∙ length-append front rest;
      short = f.short;
      counted = ap steps_of f.says ∙ cut_steps p;
    }

-- the payload's bytes are those of the fields
pub payload_bytes : {s : List ℕ} {m : Reading} (h : Header) (x : Measured s m) → header s ≡ fine h
    → length s - h.next ≡ length (flat_map field_bytes x.parts.fields)
payload_bytes h x q =
    let next : h.next ≡ length (header_bytes x.parts.header) = ap (λ (y : Header). y.next) (fine_eq (sym q ∙ x.reads)) in
    let long = x.long in
    omega arith
