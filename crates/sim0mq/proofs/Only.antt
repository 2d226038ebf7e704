-- A string is cut in one way only: an item's own first bytes say where it ends, so two cuts of the same bytes agree
-- item by item.
use Prim.Native.Nat.{ℕ, ◌+◌, ◌*◌}
use mathlib.Core.Path.{◌≡◌, refl, ap, ap₂, sym, ◌∙◌, subst}
use mathlib.Core.List.{List, [], ◌∷◌, ◌++◌, flat_map}
use native.Mathlib.Omega.{arith}
use lib.ListN.{length, get_or}
use Rattle.sim0mq.specs.Codes.{counts_of, marking_of, width_of}
use Rattle.sim0mq.specs.Allowed.{number, Each, none, more, IsCount, IsMark, FieldParts, joined, field_bytes, values_asked, marks_asked, IsField, HeaderParts, frame0, header_frames, header_bytes, IsHeader, MessageParts, message_bytes, IsMessage}
use Rattle.sim0mq.proofs.Answers.{fine_eq}
use Rattle.sim0mq.proofs.Stands.{Stands, stands_to, stands_head, stands_tail, stands_left, stands_right, stands_self, stands_same}
use Rattle.sim0mq.proofs.MarkLaws.{mark_complete}

-- runs of as many items, each of which its place determines, are the same run
module _ {A : Type 0} (s : List ℕ) (P : A → Type 0) (bytes : A → List ℕ)
    (only : (at : ℕ) (x y : A) → P x → P y → Stands s at (bytes x) → Stands s at (bytes y) → x ≡ y) where
  run_only : (at : ℕ) (xs ys : List A) → length xs ≡ length ys → Each P xs → Each P ys
      → Stands s at (flat_map bytes xs) → Stands s at (flat_map bytes ys) → xs ≡ ys
  unfolding flat_map
  run_only at [] [] e none none a b = refl
  run_only at [] (y ∷ ys) e none j a b = absurd (omega arith)
  run_only at (x ∷ xs) [] e i none a b = absurd (omega arith)
  run_only at (x ∷ xs) (y ∷ ys) e (more i is) (more j js) a b =
      let same : x ≡ y = only at x y i j (stands_left (bytes x) (flat_map bytes xs) a) (stands_left (bytes y) (flat_map bytes ys) b) in
      let next : at + length (bytes y) ≡ at + length (bytes x) = ap (λ (z : A). at + length (bytes z)) (sym same) in
      let rest = run_only (at + length (bytes x)) xs ys (omega arith) is js
      (stands_right (bytes x) (flat_map bytes xs) a)
      (stands_to (at + length (bytes x)) next (stands_right (bytes y) (flat_map bytes ys) b)) in
      ap₂ ◌∷◌ same rest

module _ (s : List ℕ) where
  count_only : (at : ℕ) (x y : List ℕ) → IsCount x → IsCount y → Stands s at x → Stands s at y → x ≡ y
  count_only at x y i j a b = stands_same x y (i.long ∙ sym j.long) a b

  mark_only : (at : ℕ) (x y : List ℕ) → IsMark x → IsMark y → Stands s at x → Stands s at y → x ≡ y
  mark_only at x y i j a b =
      let e : at + length x ≡ at + length y = fine_eq (sym (mark_complete i a) ∙ mark_complete j b) in stands_same x y (omega arith) a b

  field_only : (at : ℕ) (f g : FieldParts) → IsField f → IsField g → Stands s at (field_bytes f) → Stands s at (field_bytes g) → f ≡ g
  field_only at f g i j a b =
      let code : f.code ≡ g.code = sym (stands_head a) ∙ stands_head b in
      let fm = joined f.marks ++ f.values in
      let gm = joined g.marks ++ g.values in
      let counts : f.counts ≡ g.counts
      =
      run_only s IsCount (λ l. l) count_only (at + 1) f.counts g.counts (i.counted ∙ ap counts_of code ∙ sym j.counted) i.is_counts j.is_counts
      (stands_left (joined f.counts) fm (stands_tail a)) (stands_left (joined g.counts) gm (stands_tail b)) in
      let p = at + 1 + length (joined f.counts) in
      let p' : at + 1 + length (joined g.counts) ≡ p = ap (λ (l : List (List ℕ)). at + 1 + length (joined l)) (sym counts) in
      let fa : Stands s p fm = stands_right (joined f.counts) fm (stands_tail a) in
      let gb : Stands s p gm = stands_to p p' (stands_right (joined g.counts) gm (stands_tail b)) in
      let marks : f.marks ≡ g.marks
      =
      run_only s IsMark (λ l. l) mark_only p f.marks g.marks
      (i.marked ∙ ap₂ (λ (c : ℕ) (l : List (List ℕ)). marks_asked (marking_of c) l) code counts ∙ sym j.marked) i.is_marks j.is_marks
      (stands_left (joined f.marks) f.values fa) (stands_left (joined g.marks) g.values gb) in
      let q = p + length (joined f.marks) in
      let q' : p + length (joined g.marks) ≡ q = ap (λ (l : List (List ℕ)). p + length (joined l)) (sym marks) in
      let values : f.values ≡ g.values
      =
      stands_same f.values g.values
      (i.sized ∙ ap₂ (λ (c : ℕ) (l : List (List ℕ)). values_asked l * width_of c) code counts ∙ sym j.sized)
      (stands_right (joined f.marks) f.values fa) (stands_to q q' (stands_right (joined g.marks) g.values gb)) in
      λ k. record { code = code k; counts = counts k; marks = marks k; values = values k }

  fields_only : (at : ℕ) (fs gs : List FieldParts) → length fs ≡ length gs → Each IsField fs → Each IsField gs
      → Stands s at (flat_map field_bytes fs) → Stands s at (flat_map field_bytes gs) → fs ≡ gs
  fields_only = run_only s IsField field_bytes field_only

-- a header's frames, and the header again
frames_back : FieldParts → List FieldParts → HeaderParts
frames_back d l =
    record {
      run = get_or l 0 d;
      sender = get_or l 1 d;
      receiver = get_or l 2 d;
      kind = get_or l 3 d;
      message = get_or l 4 d;
      status = get_or l 5 d;
      count = get_or l 6 d;
    }

header_fields : {n : ℕ} {h : HeaderParts} → IsHeader n h → Each IsField (header_frames h)
header_fields i =
    more i.is_run.is_field
    (more i.is_sender.is_field
    (more i.is_receiver.is_field
    (more i.is_kind.is_field
    (more i.is_number.is_field
    (more i.is_status.is_field
    (more i.is_count.is_field none))))))

header_only : (s : List ℕ) {m n : ℕ} (h k : HeaderParts) → IsHeader m h → IsHeader n k → Stands s 0 (header_bytes h) → Stands s 0 (header_bytes k) → h ≡ k
unfolding frames_back
header_only s h k i j a b =
    ap (frames_back h.run)
    (fields_only s 10 (header_frames h) (header_frames k) refl (header_fields i) (header_fields j)
    (stands_right frame0 (flat_map field_bytes (header_frames h)) a) (stands_right frame0 (flat_map field_bytes (header_frames k)) b))

pub message_only : (p q : MessageParts) → IsMessage p → IsMessage q → message_bytes p ≡ message_bytes q → p ≡ q
message_only p q i j e =
    let s = message_bytes q in
    let pf = flat_map field_bytes p.fields in
    let qf = flat_map field_bytes q.fields in
    let a : Stands s 0 (header_bytes p.header ++ pf) = subst (λ (t : List ℕ). Stands t 0 (message_bytes p)) e (stands_self (message_bytes p)) in
    let b : Stands s 0 (header_bytes q.header ++ qf) = stands_self s in
    let header : p.header ≡ q.header
    =
    header_only s p.header q.header i.is_header j.is_header (stands_left (header_bytes p.header) pf a)
    (stands_left (header_bytes q.header) qf b) in
    let many : length p.fields ≡ length q.fields
    = sym i.is_header.declares ∙ ap (λ (h : HeaderParts). number h.count.values) header ∙ j.is_header.declares in
    let at = 0 + length (header_bytes p.header) in
    let place : 0 + length (header_bytes q.header) ≡ at = ap (λ (h : HeaderParts). 0 + length (header_bytes h)) (sym header) in
    let fields : p.fields ≡ q.fields
    =
    fields_only s at p.fields q.fields many i.is_fields j.is_fields (stands_right (header_bytes p.header) pf a)
    (stands_to at place (stands_right (header_bytes q.header) qf b)) in
    λ k. record { header = header k; fields = fields k }
