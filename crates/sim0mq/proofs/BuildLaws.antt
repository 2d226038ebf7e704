-- Messages that agree outside the value bytes of one are cut alike: a field's code, counts and marks stand before its
-- values and say where it ends.
use Prim.Native.Nat.{ℕ, ◌+◌, ◌*◌, ◌≤◌, ◌<◌}
use mathlib.Core.Path.{◌≡◌, refl, ap, ap₂, sym, ◌∙◌, subst}
use mathlib.Core.List.{List, [], ◌∷◌, ◌++◌, flat_map, append_assoc}
use native.Mathlib.Omega.{arith}
use native.Mathlib.Nat.{not-suc-le-zero}
use lib.ListN.{length, length-append}
use Rattle.sim0mq.specs.Answer.{byte}
use Rattle.sim0mq.specs.Codes.{counts_of, marking_of, width_of}
use Rattle.sim0mq.specs.Mark.{marks}
use Rattle.sim0mq.specs.Field.{after}
use Rattle.sim0mq.specs.Header.{Header}
use Rattle.sim0mq.specs.Allowed.{Each, none, more, IsCount, FieldParts, joined, field_bytes, values_asked, marks_asked, IsField, header_bytes, MessageParts, message_bytes, IsMessage}
use Rattle.sim0mq.specs.Demand3.{ValueByte, here, later}
use Rattle.sim0mq.proofs.Answers.{fine_eq}
use Rattle.sim0mq.proofs.Stands.{Stands, stands_to, stands_head, stands_tail, stands_left, stands_right, stands_self, stands_same}
use Rattle.sim0mq.proofs.MarkLaws.{marks_complete}
use Rattle.sim0mq.proofs.FieldLaws.{field_at, after_at}
use Rattle.sim0mq.proofs.PayloadLaws.{fields_at}
use Rattle.sim0mq.proofs.HeaderLaws.{header_at, header_complete}
use Rattle.sim0mq.proofs.MessageLaws.{cut_of}
use Rattle.sim0mq.proofs.BlankLaws.{some_field}

-- as many counts in the same bytes are the same counts
counts_same : (s : List ℕ) (at : ℕ) (xs ys : List (List ℕ)) → length xs ≡ length ys → Each IsCount xs → Each IsCount ys
    → Stands s at (joined xs) → Stands s at (joined ys) → xs ≡ ys
unfolding flat_map
counts_same s at [] [] e none none a b = refl
counts_same s at [] (y ∷ ys) e none j a b = absurd (omega arith)
counts_same s at (x ∷ xs) [] e i none a b = absurd (omega arith)
counts_same s at (x ∷ xs) (y ∷ ys) e (more i is) (more j js) a b =
    let long : length y ≡ length x = j.long ∙ sym i.long in
    let rest = counts_same s (at + length x) xs ys (omega arith) is js (stands_right x (joined xs) a)
    (stands_to (at + length x) (ap (λ (n : ℕ). at + n) long) (stands_right y (joined ys) b)) in
    ap₂ ◌∷◌ (stands_same x y (sym long) (stands_left x (joined xs) a) (stands_left y (joined ys) b)) rest

-- what stands before a field's values
abbrev pub front_bytes : FieldParts → List ℕ
front_bytes f = f.code ∷ (joined f.counts ++ joined f.marks)

-- a field is known from what stands before its values
field_alike : (s : List ℕ) (at : ℕ) (f g : FieldParts) → IsField f → IsField g → Stands s at (front_bytes f) → Stands s at (field_bytes g)
    → field_at at f ≡ field_at at g
field_alike s at f g i j a b =
    let code : f.code ≡ g.code = sym (stands_head a) ∙ stands_head b in
    let gm = joined g.marks ++ g.values in
    let counts : f.counts ≡ g.counts
    =
    counts_same s (at + 1) f.counts g.counts (i.counted ∙ ap counts_of code ∙ sym j.counted) i.is_counts j.is_counts
    (stands_left (joined f.counts) (joined f.marks) (stands_tail a)) (stands_left (joined g.counts) gm (stands_tail b)) in
    let p = at + 1 + length (joined f.counts) in
    let p' : at + 1 + length (joined g.counts) ≡ p = ap (λ (l : List (List ℕ)). at + 1 + length (joined l)) (sym counts) in
    let fa : Stands s p (joined f.marks) = stands_right (joined f.counts) (joined f.marks) (stands_tail a) in
    let gb : Stands s p gm = stands_to p p' (stands_right (joined g.counts) gm (stands_tail b)) in
    let many : length f.marks ≡ length g.marks
    = i.marked ∙ ap₂ (λ (c : ℕ) (l : List (List ℕ)). marks_asked (marking_of c) l) code counts ∙ sym j.marked in
    let first : p + length (joined f.marks) ≡ p + length (joined g.marks)
    =
    fine_eq
    (sym (marks_complete f.marks i.is_marks fa)
    ∙ ap (λ (n : ℕ). marks s n p) many
    ∙ marks_complete g.marks j.is_marks (stands_left (joined g.marks) g.values gb)) in
    let first' = first ∙ ap (λ (n : ℕ). n + length (joined g.marks)) (sym p') in
    let size : length f.values ≡ length g.values
    = i.sized ∙ ap₂ (λ (c : ℕ) (l : List (List ℕ)). values_asked l * width_of c) code counts ∙ sym j.sized in
    λ k.
    record { code = code k; place = at; first = first' k; size = size k; marked = many k; values = values_asked (counts k) }

-- the value bytes of fields from `at` on lie after `at`
pub values_after : (at i : ℕ) (fs : List FieldParts) → ValueByte (fields_at at fs) i → at < i
unfolding fields_at
values_after at i [] v = no-values v
  where
    no-values : ValueByte [] i → at < i
    no-values v = absurd (not-suc-le-zero (some_field v))
values_after at i (f ∷ fs) (here h k) = omega arith
values_after at i (f ∷ fs) (later v) =
    let h = values_after (at + length (field_bytes f)) i fs v in omega arith

-- those of the first field and all later ones lie after what stands before its values
pub values_past : (at i : ℕ) (f : FieldParts) (fs : List FieldParts) → i < at + length (front_bytes f) → ValueByte (fields_at at (f ∷ fs)) i → ⊥
unfolding fields_at
values_past at i f fs l (here h k) =
    let e = length-append (joined f.counts) (joined f.marks) in omega arith
values_past at i f fs l (later v) =
    let h = values_after (at + length (field_bytes f)) i fs v in
    omega (
      arith,
      length-append (joined f.counts) (joined f.marks),
      length-append (joined f.counts) (joined f.marks ++ f.values),
      length-append (joined f.marks) f.values,
    )

-- bytes that stand where two strings agree stand in both
stands_alike : {s t l : List ℕ} {at : ℕ} → length s ≡ length t → ((i : ℕ) → i < at + length l → at ≤ i → byte s i ≡ byte t i) → Stands s at l → Stands t at l
stands_alike {s} {t} {l} {at} e same st =
    let fits = st.fits in
    record { fits = omega arith; same = λ i h. sym (same (at + i) (omega arith) (omega arith)) ∙ st.same i h }

-- what stands before the values stands where the field does
front_left : {s : List ℕ} {at : ℕ} (f : FieldParts) → Stands s at (field_bytes f) → Stands s at (front_bytes f)
front_left {s} {at} f st =
    stands_left (front_bytes f) f.values
    (subst (λ (l : List ℕ). Stands s at (f.code ∷ l)) (sym (append_assoc (joined f.counts) (joined f.marks) f.values)) st)

-- after the first field, the value bytes are those of the later ones
pub values_rest : (at i : ℕ) (f : FieldParts) (fs : List FieldParts) → at + length (field_bytes f) ≤ i
    → (ValueByte (fields_at (at + length (field_bytes f)) fs) i → ⊥) → ValueByte (fields_at at (f ∷ fs)) i → ⊥
unfolding fields_at after
values_rest at i f fs l v (here h k) = let e = after_at at f in omega arith
values_rest at i f fs l v (later w) = v w

-- as many fields, where the strings agree outside the value bytes of the one, are cut alike
fields_alike : (s t : List ℕ) (at : ℕ) (fs gs : List FieldParts) → length s ≡ length t → length fs ≡ length gs → Each IsField fs → Each IsField gs
    → Stands s at (flat_map field_bytes fs) → Stands t at (flat_map field_bytes gs)
    → ((i : ℕ) → (ValueByte (fields_at at fs) i → ⊥) → at ≤ i → byte s i ≡ byte t i) → fields_at at fs ≡ fields_at at gs
unfolding fields_at flat_map
fields_alike s t at [] [] l e none none a b same = refl
fields_alike s t at [] (y ∷ ys) l e none j a b same = absurd (omega arith)
fields_alike s t at (x ∷ xs) [] l e i none a b same = absurd (omega arith)
fields_alike s t at (x ∷ xs) (y ∷ ys) l e (more i is) (more j js) a b same =
    let xb = field_bytes x in
    let yb = field_bytes y in
    let xr = flat_map field_bytes xs in
    let yr = flat_map field_bytes ys in
    let front : Stands t at (front_bytes x)
    = stands_alike l (λ k h g. same k (values_past at k x xs h) g) (front_left x (stands_left xb xr a)) in
    let one : field_at at x ≡ field_at at y = field_alike t at x y i j front (stands_left yb yr b) in
    let next : at + length yb ≡ at + length xb = sym (after_at at y) ∙ ap after (sym one) ∙ after_at at x in
    let rest : fields_at (at + length xb) xs ≡ fields_at (at + length xb) ys
    =
    fields_alike s t (at + length xb) xs ys l (omega arith) is js (stands_right xb xr a)
    (stands_to (at + length xb) next (stands_right yb yr b)) (λ k v h. same k (values_rest at k x xs h v) (omega arith)) in
    ap₂ ◌∷◌ one (rest ∙ ap (λ (p : ℕ). fields_at p ys) (sym next))

-- messages as long that agree outside the value bytes of the one are cut alike
pub message_alike : (p q : MessageParts) → IsMessage p → IsMessage q → length (message_bytes p) ≡ length (message_bytes q)
    → ((i : ℕ) → (ValueByte (cut_of p).fields i → ⊥) → byte (message_bytes p) i ≡ byte (message_bytes q) i) → cut_of p ≡ cut_of q
message_alike p q i j l same =
    let s = message_bytes p in
    let t = message_bytes q in
    let ph = header_bytes p.header in
    let qh = header_bytes q.header in
    let pf = flat_map field_bytes p.fields in
    let qf = flat_map field_bytes q.fields in
    let past : (k : ℕ) → k < 0 + length ph → ValueByte (fields_at (length ph) p.fields) k → ⊥
    = λ k h v. let g : length ph < k = values_after (length ph) k p.fields v in omega arith in
    let front : Stands t 0 ph = stands_alike l (λ k h g. same k (past k h)) (stands_left ph pf (stands_self s)) in
    let head : header_at (length p.fields) p.header ≡ header_at (length q.fields) q.header
    =
    fine_eq
    (sym (header_complete p.header i.is_header front)
    ∙ header_complete q.header j.is_header (stands_left qh qf (stands_self t))) in
    let next : length ph ≡ length qh = ap (λ (z : Header). z.next) head in
    let many : length p.fields ≡ length q.fields = ap (λ (z : Header). z.fields) head in
    let frames = ap (λ (z : Header). z.frames) head in
    let pa : Stands s (length ph) pf = stands_to (length ph) (omega arith) (stands_right ph pf (stands_self s)) in
    let qb : Stands t (length ph) qf = stands_to (length ph) (omega arith) (stands_right qh qf (stands_self t)) in
    let fields : fields_at (length ph) p.fields ≡ fields_at (length qh) q.fields
    =
    fields_alike s t (length ph) p.fields q.fields l many i.is_fields j.is_fields pa qb (λ k v h. same k v)
    ∙ ap (λ (b : ℕ). fields_at b q.fields) next in
    λ k. record { bytes = l k; frames = frames k; fields = fields k }
