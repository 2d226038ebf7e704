-- What the page allows, said of a message's parts, is what it allows of the bytes at their places.
use Prim.Native.Nat.{ℕ, zero, suc, ◌+◌, ◌≤◌, ◌<◌}
use mathlib.Core.Path.{◌≡◌, refl, ap, sym, ◌∙◌, subst}
use mathlib.Core.Bool.{Bool, true, false, ◌&&◌, ◌||◌, or-true, false≢true}
use mathlib.Core.Logic.{◌⊎◌, inl, inr}
use mathlib.Core.List.Memᴰ
use mathlib.Core.List.{List, [], ◌∷◌, ◌++◌, flat_map, Memᴰ}
use native.Mathlib.Omega.{arith}
use native.Mathlib.Nat.{not-suc-le-zero, le_of_suc-le-suc}
use lib.ListN.{length, get_or, length-append}
use lib.Seq.{ext_get_or}
use lib.Dec.{eqb}
use borrow.Author.Tests.{eqb-true, eq-eqb, ltb-true, lt-ltb}
use Rattle.sim0mq.specs.Answer.{byte}
use Rattle.sim0mq.specs.Codes.{counts_of, marking_of, width_of}
use Rattle.sim0mq.specs.Field.{Field}
use Rattle.sim0mq.specs.Allowed.{Each, more, IsCount, IsMark, with_display, with_currency, with_both, marks_asked, FieldParts, joined, field_bytes, IsField, frame0, header_bytes, header_frames, MessageParts, message_bytes}
use Rattle.sim0mq.specs.Demand2.{cut_frames}
use Rattle.sim0mq.specs.Demand3.{ValueByte}
use Rattle.sim0mq.proofs.Answers.{and_true}
use Rattle.sim0mq.proofs.Stands.{Stands, stands_to, stands_head, stands_tail, stands_left, stands_right, stands_self}
use Rattle.sim0mq.proofs.FieldLaws.{field_at}
use Rattle.sim0mq.proofs.HeaderLaws.{values_there, scalar_size}
use Rattle.sim0mq.proofs.PayloadLaws.{fields_at, fields_many}
use Rattle.sim0mq.proofs.BuildLaws.{values_after, values_past, values_rest}
use Rattle.sim0mq.proofs.MessageLaws.{cut_of}
use Rattle.commands_page.specs.Page.{Rule, any, filled, one_of}
use Rattle.commands_page.specs.Judging.{stands_at, is_word, is_one_of, text_taken, no_field, no_frame, looks, looks_at}
use Rattle.commands_page.specs.Parts.{unit_in, TextAllowed, no_part}
use Rattle.commands_page.proofs.WordLaws.{stands_bytes}

-- a string is a word where its bytes are the word
stands_true : (s : List ℕ) (at : ℕ) (v : List ℕ) → Stands s at v → stands_at s at v ≡ true
unfolding stands_at
stands_true s at [] st = refl
stands_true s at (b ∷ v) st = simp (eq-eqb (byte s at) b (stands_head st)) (stands_true s (at + 1) v (stands_tail st))

module _ (s : List ℕ) (at : ℕ) (v : List ℕ) (st : Stands s at v) where
  pub word_sound : (w : List ℕ) → is_word s at (length v) w ≡ true → v ≡ w
  unfolding is_word
  word_sound w e =
      let a = and_true (eqb (length v) (length w)) (stands_at s at w) e in
      let l = eqb-true (length v) (length w) a.0 in
      ext_get_or 0 v w l (λ i h. sym (st.same i h) ∙ stands_bytes s at w a.1 i (omega arith))

  pub word_complete : (w : List ℕ) → v ≡ w → is_word s at (length v) w ≡ true
  unfolding is_word
  word_complete w e = subst (λ (x : List ℕ). eqb (length v) (length x) && stands_at s at x ≡ true) e (simp (eq-eqb (length v) (length v) refl) (stands_true s at v st))

  words_sound : (ws : List (List ℕ)) → is_one_of s at (length v) ws ≡ true → Memᴰ v ws
  unfolding is_one_of
  words_sound [] e = absurd (false≢true e)
  words_sound (w ∷ ws) e = go (is_word s at (length v) w) refl e (λ x. words_sound ws x)
    where
      go : (b : Bool) → is_word s at (length v) w ≡ b → (b || is_one_of s at (length v) ws) ≡ true → (is_one_of s at (length v) ws ≡ true → Memᴰ v ws) → Memᴰ v (w ∷ ws)
      go true q e rest = Memᴰ.head (word_sound w q)
      go false q e rest = Memᴰ.tail (rest e)

  words_complete : (ws : List (List ℕ)) → Memᴰ v ws → is_one_of s at (length v) ws ≡ true
  unfolding is_one_of
  words_complete [] m = absurd (Memᴰ.not-nil m)
  words_complete (w ∷ ws) m = go (Memᴰ.cases_cons m) (λ x. words_complete ws x)
    where
      go : (v ≡ w) ⊎ Memᴰ v ws → (Memᴰ v ws → is_one_of s at (length v) ws ≡ true) → (is_word s at (length v) w || is_one_of s at (length v) ws) ≡ true
      go (inl e) rest = simp (word_complete w e)
      go (inr x) rest = ap (λ (b : Bool). is_word s at (length v) w || b) (rest x) ∙ or-true (is_word s at (length v) w)

  pub text_sound : (r : Rule) → text_taken r s at (length v) ≡ true → TextAllowed r v
  unfolding text_taken
  text_sound any e = tt
  text_sound filled e = ltb-true 0 (length v) e
  text_sound (one_of ws) e = words_sound ws e

  pub text_complete : (r : Rule) → TextAllowed r v → text_taken r s at (length v) ≡ true
  unfolding text_taken
  text_complete any e = refl
  text_complete filled e = lt-ltb 0 (length v) e
  text_complete (one_of ws) e = words_complete ws e

-- field i of a payload, as its parts
pub record Part (s : List ℕ) (x : Field) (f : FieldParts) : Type 0 where
  pub at : ℕ
  pub says : x ≡ field_at at f
  pub there : Stands s at (field_bytes f)
  pub is : IsField f

pub nth_part : (s : List ℕ) (at : ℕ) (ps : List FieldParts) (i : ℕ) → Each IsField ps → Stands s at (flat_map field_bytes ps) → i < length ps
    → Part s (get_or (fields_at at ps) i no_field) (get_or ps i no_part)
unfolding fields_at flat_map
nth_part s at [] i e st h = absurd (not-suc-le-zero h)
nth_part s at (p ∷ ps) zero (more a b) st h = record { at = at; says = refl; there = stands_left (field_bytes p) (flat_map field_bytes ps) st; is = a }
nth_part s at (p ∷ ps) (suc i) (more a b) st h =
    nth_part s (at + length (field_bytes p)) ps i b (stands_right (field_bytes p) (flat_map field_bytes ps) st) (le_of_suc-le-suc h)

-- of a float or double with unit, the byte after the code is the mark's first
joined_none : (l : List (List ℕ)) → length l ≡ 0 → joined l ≡ []
unfolding flat_map
joined_none [] e = refl
joined_none (x ∷ xs) e = absurd (omega arith)

mark_some : (l : List ℕ) → IsMark l → 0 < length l
mark_some l (with_display a b) = omega arith
mark_some l (with_currency a b) = omega arith
mark_some l (with_both a b c) = omega arith

marks_some : (l : List (List ℕ)) → length l ≡ 1 → Each IsMark l → 0 < length (joined l)
unfolding flat_map
marks_some [] e a = absurd (omega arith)
marks_some (x ∷ xs) e (more a b) = let h = mark_some x a in omega (arith, length-append x (joined xs))

unit_marked : (f : FieldParts) → IsField f → (f.code ≡ 25) ⊎ (f.code ≡ 26) → 0 < length (joined f.marks)
unfolding marking_of marks_asked
unit_marked f i d = marks_some f.marks (i.marked ∙ one_of_lem d) i.is_marks
  where
    one_of_lem : (f.code ≡ 25) ⊎ (f.code ≡ 26) → marks_asked (marking_of f.code) f.counts ≡ 1
    one_of_lem (inl e) = ap (λ (c : ℕ). marks_asked (marking_of c) f.counts) e
    one_of_lem (inr e) = ap (λ (c : ℕ). marks_asked (marking_of c) f.counts) e

pub unit_there : (s : List ℕ) (at : ℕ) (f : FieldParts) → IsField f → Stands s at (field_bytes f) → (f.code ≡ 25) ⊎ (f.code ≡ 26) → byte s (at + 1) ≡ unit_in f
unfolding counts_of
unit_there s at f i st d =
    let none : length f.counts ≡ 0 = i.counted ∙ none_of d in
    let c : joined f.counts ≡ [] = joined_none f.counts none in
    let t : Stands s (at + 1) (joined f.marks ++ f.values) = subst (λ (l : List ℕ). Stands s (at + 1) (l ++ (joined f.marks ++ f.values))) c (stands_tail st) in
    let m : Stands s (at + 1) (joined f.marks) = stands_left (joined f.marks) f.values t in
    let z : at + 1 ≡ at + 1 + 0 = omega arith in
    ap (λ (k : ℕ). byte s k) z ∙ m.same 0 (unit_marked f i d)
  where
    none_of : (f.code ≡ 25) ⊎ (f.code ≡ 26) → counts_of f.code ≡ 0
    none_of (inl e) = ap counts_of e
    none_of (inr e) = ap counts_of e

-- and that byte is none of a value
place_after : (at : ℕ) (fs : List FieldParts) (j : ℕ) → j < length fs → at ≤ (get_or (fields_at at fs) j no_field).place
unfolding fields_at
place_after at [] j h = absurd (not-suc-le-zero h)
place_after at (f ∷ fs) zero h = omega arith
place_after at (f ∷ fs) (suc j) h =
    let l = place_after (at + length (field_bytes f)) fs j (le_of_suc-le-suc h) in omega arith

pub unit_apart : (at : ℕ) (fs : List FieldParts) (j : ℕ) → Each IsField fs → j < length (fields_at at fs)
    → ((get_or (fields_at at fs) j no_field).code ≡ 25) ⊎ ((get_or (fields_at at fs) j no_field).code ≡ 26)
    → ValueByte (fields_at at fs) ((get_or (fields_at at fs) j no_field).place + 1) → ⊥
unfolding fields_at
unit_apart at [] j is h d v = not-suc-le-zero h
unit_apart at (f ∷ fs) zero (more i is) h d v =
    let some = unit_marked f i d in
    values_past at (at + 1) f fs (omega (arith, length-append (joined f.counts) (joined f.marks))) v
unit_apart at (f ∷ fs) (suc j) (more i is) h d v =
    let many = fields_many (at + length (field_bytes f)) fs in
    let l = place_after (at + length (field_bytes f)) fs j (omega arith) in
    values_rest at _ f fs (omega arith) (unit_apart (at + length (field_bytes f)) fs j is (le_of_suc-le-suc h) d) v

-- a string: five bytes, and then the values
counts_four : (l : List (List ℕ)) → length l ≡ 1 → Each IsCount l → length (joined l) ≡ 4
unfolding flat_map
counts_four [] e a = absurd (omega arith)
counts_four (x ∷ []) e (more a b) = let h = a.long in omega (arith, length-append x [])
counts_four (x ∷ y ∷ xs) e a = absurd (omega arith)

pub string_there : (s : List ℕ) (at : ℕ) (f : FieldParts) → IsField f → f.code ≡ 9 → Stands s at (field_bytes f)
    → Stands s (at + 5) f.values × (length (field_bytes f) ≡ 5 + length f.values)
unfolding counts_of marking_of marks_asked
string_there s at f i e st =
    let c = counts_four f.counts (i.counted ∙ ap counts_of e) i.is_counts in
    let m : joined f.marks ≡ [] = joined_none f.marks (i.marked ∙ ap (λ (c : ℕ). marks_asked (marking_of c) f.counts) e) in
    let n : length (joined f.marks) ≡ 0 = ap (λ (l : List ℕ). length l) m in (
      stands_to (at + 5) (omega arith) (values_there f st),
      omega (arith, length-append (joined f.counts) (joined f.marks ++ f.values), length-append (joined f.marks) f.values),
    )

-- a number without counts and marks: the values after the code
pub plain_there : (s : List ℕ) (at : ℕ) (f : FieldParts) (c : ℕ) → IsField f → f.code ≡ c → counts_of c ≡ 0 → marking_of c ≡ 0 → Stands s at (field_bytes f)
    → Stands s (at + 1) f.values × (length f.values ≡ width_of c)
unfolding marks_asked
plain_there s at f c i e a b st =
    let n : joined f.counts ≡ [] = joined_none f.counts (i.counted ∙ ap counts_of e ∙ a) in
    let m : joined f.marks ≡ [] = joined_none f.marks (i.marked ∙ ap (λ (k : ℕ). marks_asked (marking_of k) f.counts) e ∙ ap (λ (k : ℕ). marks_asked k f.counts) b) in
    let x : length (joined f.counts) ≡ 0 = ap (λ (l : List ℕ). length l) n in
    let y : length (joined f.marks) ≡ 0 = ap (λ (l : List ℕ). length l) m in
    (stands_to (at + 1) (omega arith) (values_there f st), scalar_size f i (ap counts_of e ∙ a) ∙ ap width_of e)

-- the places of a message's parts
module _ (p : MessageParts) where
  abbrev pub kind_at : ℕ
  kind_at = 10 + length (field_bytes p.header.run) + length (field_bytes p.header.sender) + length (field_bytes p.header.receiver)

  abbrev pub number_at : ℕ
  number_at = kind_at + length (field_bytes p.header.kind)

  abbrev pub status_at : ℕ
  status_at = number_at + length (field_bytes p.header.message)

  pub looks_are : looks (cut_of p).frames ≡ looks_at kind_at p.header.kind.code number_at (status_at + 1)
  unfolding cut_frames
  looks_are = refl

  module _ (s : List ℕ) (whole : message_bytes p ≡ s) where
    abbrev bytes : List FieldParts → List ℕ
    bytes fs = flat_map field_bytes fs

    all : Stands s 0 (message_bytes p)
    all = subst (λ (t : List ℕ). Stands t 0 (message_bytes p)) whole (stands_self (message_bytes p))

    front : Stands s 10 (bytes (header_frames p.header))
    front = stands_to 10 (omega arith) (stands_right frame0 (bytes (header_frames p.header)) (stands_left (header_bytes p.header) (bytes p.fields) all))

    pub rest_there : Stands s (length (header_bytes p.header)) (bytes p.fields)
    rest_there = stands_to (length (header_bytes p.header)) (omega arith) (stands_right (header_bytes p.header) (bytes p.fields) all)

    tail_of : (at : ℕ) (f : FieldParts) (fs : List FieldParts) → Stands s at (bytes (f ∷ fs)) → Stands s (at + length (field_bytes f)) (bytes fs)
    unfolding flat_map
    tail_of at f fs st = stands_right (field_bytes f) (bytes fs) st

    head_of_lem : (at : ℕ) (f : FieldParts) (fs : List FieldParts) → Stands s at (bytes (f ∷ fs)) → Stands s at (field_bytes f)
    unfolding flat_map
    head_of_lem at f fs st = stands_left (field_bytes f) (bytes fs) st

    from-kind : Stands s kind_at (bytes (p.header.kind ∷ p.header.message ∷ p.header.status ∷ p.header.count ∷ []))
    from-kind = tail_of _ _ _ (tail_of _ _ _ (tail_of _ _ _ front))

    pub kind-there : Stands s kind_at (field_bytes p.header.kind)
    kind-there = head_of_lem _ _ _ from-kind

    pub status-there : Stands s status_at (field_bytes p.header.status)
    status-there = head_of_lem _ _ _ (tail_of _ _ _ (tail_of _ _ _ from-kind))

-- a frame of a cut lies in the bytes that are cut
pub cut_within : (at : ℕ) (ps : List FieldParts) (i : ℕ) → (get_or (cut_frames at ps) i no_frame).place ≤ at + length (flat_map field_bytes ps)
unfolding cut_frames flat_map
cut_within at [] i = omega arith
cut_within at (p ∷ ps) zero = omega arith
cut_within at (p ∷ ps) (suc i) =
    let l = cut_within (at + length (field_bytes p)) ps i in
    omega (arith, length-append (field_bytes p) (flat_map field_bytes ps))

-- type frame and status byte stand in the header, where there is no value byte
module _ (p : MessageParts) where
  pub header_ends : (number_at p ≤ length (header_bytes p.header)) × (status_at p + 1 ≤ length (header_bytes p.header))
  unfolding cut_frames
  header_ends =
      let number = cut_within 10 (header_frames p.header) 4 in
      let count = cut_within 10 (header_frames p.header) 6 in
      (omega arith, omega arith)

  pub header_apart : (i : ℕ) → i ≤ length (header_bytes p.header) → ValueByte (cut_of p).fields i → ⊥
  header_apart i h v = let l = values_after (length (header_bytes p.header)) i p.fields v in omega arith
