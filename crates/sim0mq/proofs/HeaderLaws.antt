-- The header judge takes exactly the headers: each frame after 0 is a field of an allowed type, judged where the frame
-- before ends.
use Prim.Native.Nat.{ℕ, ◌+◌, ◌*◌, ◌≤◌, ◌<◌, zero-le}
use mathlib.Core.Path.{◌≡◌, refl, ap, sym, ◌∙◌, subst}
use mathlib.Core.Bool.{true, ◌&&◌}
use mathlib.Core.List.{List, [], ◌∷◌, ◌++◌, flat_map}
use native.Mathlib.Omega.{arith}
use native.Mathlib.Nat.{add-zero}
use lib.ListN.{length, get_or, length-append}
use lib.Dec.{leb, eqb}
use borrow.Author.Tests.{le-leb, eqb-true, eq-eqb}
use Rattle.sim0mq.specs.Answer.{Answer, fine, ◌>>=◌, byte, big, not_negative}
use Rattle.sim0mq.specs.Codes.{counts_of, width_of}
use Rattle.sim0mq.specs.Field.{Field, after}
use Rattle.sim0mq.specs.Header.{magic_bytes, id_codes, number_codes, status_codes, count_codes, among, status_taken, fields_taken, literal, digit, magic, frame, status, declared, Frame, frame_of, Header, header}
use Rattle.sim0mq.specs.Allowed.{number, FieldParts, joined, field_bytes, values_asked, IsField, IsFrame, HeaderParts, frame0, header_frames, header_bytes, IsHeader}
use Rattle.sim0mq.specs.Demand2.{cut_frames}
use Rattle.sim0mq.proofs.Answers.{needed, needed_bind, guarded, guarded_bind, bind_fine, fine_eq, and_true}
use Rattle.sim0mq.proofs.Stands.{Stands, stands_to, stands_head, stands_tail, stands_left, stands_right, stands_nil, stands_cons, stands_join, big_number}
use Rattle.sim0mq.proofs.Rows.{eight_wide, status_scalar, count_scalar}
use Rattle.sim0mq.proofs.FieldLaws.{field_at, after_at, field_complete, field_sound}

-- frame 0
literal_complete : {s : List ℕ} {at : ℕ} (bs : List ℕ) → Stands s at bs → literal s bs at ≡ fine (at + length bs)
unfolding literal
literal_complete [] st = ap fine (omega arith)
literal_complete {s} {at} (b ∷ bs) st =
    let f = st.fits in
    simp (le-leb (at + 1) (length s) (omega arith), stands_head st, eq-eqb b b refl)
    (literal_complete {at = at + 1} bs (stands_tail st) ∙ ap fine (omega arith))

literal_sound : (s bs : List ℕ) (at e : ℕ) → at ≤ length s → literal s bs at ≡ fine e → Stands s at bs
unfolding literal
literal_sound s [] at e h q = stands_nil h
literal_sound s (b ∷ bs) at e h q =
    let a = needed_bind s at 1 _ q in
    let g = guarded_bind (eqb (byte s at) b) _ _ _ a.1 in
    stands_cons (eqb-true _ _ g.0) (literal_sound s bs (at + 1) e a.0 g.1)

magic_complete : {s : List ℕ} → Stands s 0 frame0 → magic s ≡ fine 10
unfolding magic digit
magic_complete {s} st =
    let f = st.fits in
    let b8 : byte s 8 ≡ 48 = st.same 8 (omega arith) in
    let b9 : byte s 9 ≡ 49 = st.same 9 (omega arith) in
    simp (
      literal_complete magic_bytes (stands_left magic_bytes (48 ∷ 49 ∷ []) st),
      le-leb 9 (length s) (omega arith),
      le-leb 10 (length s) (omega arith),
      b8,
      b9,
    )

pub digit_sound : (s : List ℕ) (at d : ℕ) → digit s at ≡ fine d → (at + 1 ≤ length s) × (byte s at ≡ d)
unfolding digit
digit_sound s at d q =
    let a = needed s at 1 _ q in
    let b = guarded (leb 48 (byte s at) && leb (byte s at) 57) _ _ _ a.1 in
    (a.0, fine_eq b.1)

magic_sound : {B : Type 0} (s : List ℕ) (go : ℕ → Answer B) {v : B} → (magic s >>= go) ≡ fine v → Stands s 0 frame0 × (go 10 ≡ fine v)
unfolding magic
magic_sound s go {v} q =
    let m = bind_fine (magic s) go q in
    let a = bind_fine (literal s magic_bytes 0) _ m.1 in
    let b = bind_fine (digit s 8) _ a.2 in
    let c = bind_fine (digit s 9) _ b.2 in
    let d = guarded (eqb b.0 48 && eqb c.0 49) _ _ _ c.2 in
    let g = and_true _ _ d.0 in
    let x : byte s 8 ≡ 48 = (digit_sound s 8 b.0 b.1).1 ∙ eqb-true _ _ g.0 in
    let y : byte s 9 ≡ 49 = (digit_sound s 9 c.0 c.1).1 ∙ eqb-true _ _ g.1 in
    let digits : Stands s 8 (48 ∷ 49 ∷ []) = stands_cons x (stands_cons y (stands_nil (digit_sound s 9 c.0 c.1).0)) in (
      stands_join magic_bytes (48 ∷ 49 ∷ []) (literal_sound s magic_bytes 0 a.0 zero-le a.1) digits,
      subst (λ (p : ℕ). go p ≡ fine v) (sym (fine_eq d.1)) m.2,
    )

-- a frame after 0
pub frame_complete : {s codes : List ℕ} {at : ℕ} {f : FieldParts} → IsFrame codes f → Stands s at (field_bytes f)
    → frame s codes at ≡ fine (field_at at f)
unfolding frame
frame_complete {s} {codes} {at} {f} i st =
    let fits = st.fits in
    simp (le-leb (at + 1) (length s) (omega arith), stands_head st, i.allowed, field_complete f i.is_field st)

-- a judge that passed a frame went on with a frame's parts
pub frame_sound : {B : Type 0} (s codes : List ℕ) (at : ℕ) (go : Field → Answer B) {v : B} → (frame s codes at >>= go) ≡ fine v
    → (f : FieldParts) × IsFrame codes f × Stands s at (field_bytes f) × (go (field_at at f) ≡ fine v)
unfolding frame
frame_sound s codes at go {v} q =
    let x = bind_fine (frame s codes at) go q in
    let a = needed s at 1 _ x.1 in
    let b = guarded (among (byte s at) codes) _ _ _ a.1 in
    let f = field_sound s at x.0 b.1 in
    let c : byte s at ≡ f.parts.code = stands_head f.there in (
      f.parts,
      record { is_field = f.is; allowed = subst (λ (k : ℕ). among k codes ≡ true) c b.0 },
      f.there,
      subst (λ (y : Field). go y ≡ fine v) f.says x.2,
    )

-- a frame's value bytes stand where its field says
pub values_there : {s : List ℕ} {at : ℕ} (f : FieldParts) → Stands s at (field_bytes f) → Stands s (field_at at f).first f.values
values_there f st =
    stands_right (joined f.marks) f.values (stands_right (joined f.counts) (joined f.marks ++ f.values) (stands_tail st))

-- a frame of a type without a count has as many value bytes as its type says, at least one and at most eight
no_counts : (cs : List (List ℕ)) (w : ℕ) → length cs ≡ 0 → values_asked cs * w ≡ w
unfolding values_asked
no_counts [] w e = omega arith
no_counts (x ∷ xs) w e = absurd (omega arith)

pub scalar_size : (f : FieldParts) → IsField f → counts_of f.code ≡ 0 → length f.values ≡ width_of f.code
scalar_size f i e = i.sized ∙ no_counts f.counts (width_of f.code) (i.counted ∙ e)

first_value : {s : List ℕ} {at : ℕ} (f : FieldParts) → IsField f → (counts_of f.code ≡ 0) × (1 ≤ width_of f.code)
    → Stands s at (field_bytes f) → byte s (field_at at f).first ≡ get_or f.values 0 0
first_value {s} {at} f i c st =
    let size = scalar_size f i c.0 in
    let some = c.1 in
    ap (λ (k : ℕ). byte s k) (sym (add-zero (field_at at f).first)) ∙ (values_there f st).same 0 (omega arith)

pub frame_scalar : (s codes : List ℕ) (at : ℕ) (x : Field) → ((c : ℕ) → among c codes ≡ true → (counts_of c ≡ 0) × (1 ≤ width_of c))
    → frame s codes at ≡ fine x → (x.first < length s) × (x.first + x.size ≤ length s) × (x.size ≤ 8)
frame_scalar s codes at x scalar q =
    let a = frame_sound s codes at (λ (y : Field). fine y) {v = x} (rw q) in
    let f = a.0 in
    let c = scalar f.code a.1.allowed in
    let size = scalar_size f a.1.is_field c.0 in
    let some = c.1 in
    let fits = (values_there f a.2).fits in
    let most = eight_wide f.code in
    subst (λ (y : Field). (y.first < length s) × (y.first + y.size ≤ length s) × (y.size ≤ 8)) (fine_eq a.3)
    (omega arith, fits, omega arith)

-- frames 6 and 7
status_complete : {s : List ℕ} {at : ℕ} {f : FieldParts} → IsFrame status_codes f → status_taken (get_or f.values 0 0) ≡ true
    → Stands s at (field_bytes f) → status s at ≡ fine (field_at at f)
unfolding status
status_complete {s} {at} {f} i t st =
    simp (frame_complete i st, first_value f i.is_field (status_scalar f.code i.allowed) st, t)

declared_complete : {s : List ℕ} {at : ℕ} {f : FieldParts} → IsFrame count_codes f → not_negative (get_or f.values 0 0) ≡ true
    → fields_taken (number f.values) ≡ true → Stands s at (field_bytes f) → declared s at ≡ fine (field_at at f)
unfolding declared
declared_complete {s} {at} {f} i sign taken st =
    simp (
      frame_complete i st,
      first_value f i.is_field (count_scalar f.code i.allowed) st,
      sign,
      big_number f.values (values_there f st),
      taken,
    )

status_sound : {B : Type 0} (s : List ℕ) (at : ℕ) (go : Field → Answer B) {v : B} → (status s at >>= go) ≡ fine v
    → (f : FieldParts) × IsFrame status_codes f × Stands s at (field_bytes f) × (go (field_at at f) ≡ fine v)
    × (status_taken (get_or f.values 0 0) ≡ true)
unfolding status
status_sound s at go {v} q =
    let x = bind_fine (status s at) go q in
    let a = frame_sound s status_codes at _ x.1 in
    let f = a.0 in
    let y = field_at at f in
    let b = guarded (status_taken (byte s y.first)) _ _ _ a.3 in
    let first = first_value f a.1.is_field (status_scalar f.code a.1.allowed) a.2 in
    (f, a.1, a.2, rw (fine_eq b.1) x.2, rw (← first) b.0)

declared_sound : {B : Type 0} (s : List ℕ) (at : ℕ) (go : Field → Answer B) {v : B} → (declared s at >>= go) ≡ fine v
    → (f : FieldParts) × IsFrame count_codes f × Stands s at (field_bytes f) × (go (field_at at f) ≡ fine v)
    × (not_negative (get_or f.values 0 0) ≡ true) × (fields_taken (number f.values) ≡ true)
unfolding declared
declared_sound s at go {v} q =
    let x = bind_fine (declared s at) go q in
    let a = frame_sound s count_codes at _ x.1 in
    let f = a.0 in
    let y = field_at at f in
    let b = guarded (not_negative (byte s y.first)) _ _ _ a.3 in
    let c = guarded (fields_taken (big s y.first y.size)) _ _ _ b.1 in
    let first = first_value f a.1.is_field (count_scalar f.code a.1.allowed) a.2 in
    let declares = big_number f.values (values_there f a.2) in
    (f, a.1, a.2, rw (fine_eq c.1) x.2, rw (← first) b.0, rw (← declares) c.0)

-- the header, read off its parts
abbrev pub header_at : ℕ → HeaderParts → Header
header_at n h =
    record {
      frames = record { place = 0; code = 9 } ∷ cut_frames 10 (header_frames h);
      fields = n;
      next = length (header_bytes h);
    }

-- the first of several fields, and the others
first_of : {s : List ℕ} {at : ℕ} (f : FieldParts) (fs : List FieldParts) → Stands s at (flat_map field_bytes (f ∷ fs)) → Stands s at (field_bytes f)
unfolding flat_map
first_of f fs st = stands_left (field_bytes f) (flat_map field_bytes fs) st

rest_of : {s : List ℕ} {at : ℕ} (f : FieldParts) (fs : List FieldParts) → Stands s at (flat_map field_bytes (f ∷ fs))
    → Stands s (after (field_at at f)) (flat_map field_bytes fs)
unfolding flat_map
rest_of {s} {at} f fs st = stands_to (after (field_at at f)) (sym (after_at at f)) (stands_right (field_bytes f) (flat_map field_bytes fs) st)

-- fields that stand each where the one before ends stand as one string
abbrev StandEach : List ℕ → ℕ → List FieldParts → Type 0
StandEach s at [] = Unit {0}
StandEach s at (f ∷ fs) = Stands s at (field_bytes f) × StandEach s (after (field_at at f)) fs

stand_joined : (s : List ℕ) (at : ℕ) (fs : List FieldParts) → at ≤ length s → StandEach s at fs → Stands s at (flat_map field_bytes fs)
unfolding flat_map
stand_joined s at [] h st = stands_nil h
stand_joined s at (f ∷ fs) h st =
    let fits = st.0.fits in
    let e = after_at at f in
    stands_join (field_bytes f) (flat_map field_bytes fs) st.0
    (stands_to (at + length (field_bytes f)) e (stand_joined s (after (field_at at f)) fs (omega arith) st.1))

-- the places of fields that begin at `at`, as the judge comes to them, are those of the cut
end_of : ℕ → List FieldParts → ℕ
end_of at [] = at
end_of at (f ∷ fs) = end_of (after (field_at at f)) fs

end_of_lem : (at : ℕ) (fs : List FieldParts) → end_of at fs ≡ at + length (flat_map field_bytes fs)
unfolding end_of flat_map
end_of_lem at [] = sym (add-zero at)
end_of_lem at (f ∷ fs) =
    let e = after_at at f in
    end_of_lem (after (field_at at f)) fs ∙ omega (arith, length-append (field_bytes f) (flat_map field_bytes fs))

frames_of : ℕ → List FieldParts → List Frame
frames_of at [] = []
frames_of at (f ∷ fs) = frame_of (field_at at f) ∷ frames_of (after (field_at at f)) fs

frames_of_lem : (at : ℕ) (fs : List FieldParts) → frames_of at fs ≡ cut_frames at fs
unfolding frames_of cut_frames
frames_of_lem at [] = refl
frames_of_lem at (f ∷ fs) = ap (λ (l : List Frame). frame_of (field_at at f) ∷ l) (rw (after_at at f) (frames_of_lem (at + length (field_bytes f)) fs))

abbrev header_judged : ℕ → HeaderParts → Header
header_judged n h =
    record {
      frames = record { place = 0; code = 9 } ∷ frames_of 10 (header_frames h);
      fields = n;
      next = end_of 10 (header_frames h);
    }

header_eq : (h : HeaderParts) (n v : ℕ) → v ≡ n → header_judged v h ≡ header_at n h
header_eq h n v e =
    let frames = frames_of_lem 10 (header_frames h) in
    let next : end_of 10 (header_frames h) ≡ length (header_bytes h)
    = end_of_lem 10 (header_frames h) ∙ sym (length-append frame0 (flat_map field_bytes (header_frames h))) in
    λ i. record { frames = record { place = 0; code = 9 } ∷ frames i; fields = e i; next = next i }

pub header_complete : {s : List ℕ} {n : ℕ} (h : HeaderParts) → IsHeader n h → Stands s 0 (header_bytes h) → header s ≡ fine (header_at n h)
unfolding header end_of frames_of
header_complete {s} {n} h i st =
    let a = h.run in
    let b = h.sender in
    let c = h.receiver in
    let d = h.kind in
    let e = h.message in
    let f = h.status in
    let g = h.count in
    let st1 = stands_right frame0 (flat_map field_bytes (header_frames h)) st in
    let st2 = rest_of a (b ∷ c ∷ d ∷ e ∷ f ∷ g ∷ []) st1 in
    let st3 = rest_of b (c ∷ d ∷ e ∷ f ∷ g ∷ []) st2 in
    let st4 = rest_of c (d ∷ e ∷ f ∷ g ∷ []) st3 in
    let st5 = rest_of d (e ∷ f ∷ g ∷ []) st4 in
    let st6 = rest_of e (f ∷ g ∷ []) st5 in
    let st7 = rest_of f (g ∷ []) st6 in
    let count = first_of g [] st7 in
    simp (
      magic_complete (stands_left frame0 (flat_map field_bytes (header_frames h)) st),
      frame_complete i.is_run (first_of a (b ∷ c ∷ d ∷ e ∷ f ∷ g ∷ []) st1),
      frame_complete i.is_sender (first_of b (c ∷ d ∷ e ∷ f ∷ g ∷ []) st2),
      frame_complete i.is_receiver (first_of c (d ∷ e ∷ f ∷ g ∷ []) st3),
      frame_complete i.is_kind (first_of d (e ∷ f ∷ g ∷ []) st4),
      frame_complete i.is_number (first_of e (f ∷ g ∷ []) st5),
      status_complete i.is_status i.known (first_of f (g ∷ []) st6),
      declared_complete i.is_count i.sign (rw i.declares i.taken) count,
    )
    (ap fine (header_eq h n _ (big_number g.values (values_there g count) ∙ i.declares)))

pub record FoundHeader (s : List ℕ) (x : Header) : Type 0 where
  pub parts : HeaderParts
  pub is : IsHeader x.fields parts
  pub there : Stands s 0 (header_bytes parts)
  pub says : x ≡ header_at x.fields parts

-- seven frames that stand one after the other, with what the judge answers of them, are a header
header_joined : (s : List ℕ) (x : Header) (h : HeaderParts) (n : ℕ) → IsHeader n h → Stands s 0 frame0 → StandEach s 10 (header_frames h)
    → (v : ℕ) → fine (header_judged v h) ≡ fine x → v ≡ n → FoundHeader s x
header_joined s x h n is magic each v says declares =
    let frames = stand_joined s 10 (header_frames h) magic.fits each in
    subst (λ (y : Header). FoundHeader s y) (sym (header_eq h n v declares) ∙ fine_eq says)
    (record { parts = h; is = is; there = stands_join frame0 (flat_map field_bytes (header_frames h)) magic frames; says = refl })

-- a judge that passed four ids went on with the parts of four ids, each where the one before ends
ids_sound : {B : Type 0} (s : List ℕ) (at : ℕ) (go : Field → Field → Field → Field → Answer B) {v : B}
    → (frame s id_codes at
    >>= (λ (a : Field). frame s id_codes (after a)
    >>= (λ (b : Field). frame s id_codes (after b) >>= (λ (c : Field). frame s id_codes (after c) >>= go a b c))))
    ≡ fine v
    → (a : FieldParts) × (b : FieldParts) × (c : FieldParts) × (d : FieldParts)
    × (IsFrame id_codes a × IsFrame id_codes b × IsFrame id_codes c × IsFrame id_codes d)
    × (Stands s at (field_bytes a) × Stands s (end_of at (a ∷ [])) (field_bytes b) × Stands s (end_of at (a ∷ b ∷ [])) (field_bytes c)
    × Stands s (end_of at (a ∷ b ∷ c ∷ [])) (field_bytes d))
    × (go (field_at at a) (field_at (end_of at (a ∷ [])) b) (field_at (end_of at (a ∷ b ∷ [])) c) (field_at (end_of at (a ∷ b ∷ c ∷ [])) d) ≡ fine v)
unfolding end_of
ids_sound s at go q =
    let a = frame_sound s id_codes at _ q in
    let p = after (field_at at a.0) in
    let b = frame_sound s id_codes p _ a.3 in
    let r = after (field_at p b.0) in
    let c = frame_sound s id_codes r _ b.3 in
    let d = frame_sound s id_codes (after (field_at r c.0)) _ c.3 in
    (a.0, b.0, c.0, d.0, (a.1, b.1, c.1, d.1), (a.2, b.2, c.2, d.2), d.3)

-- one that passed number, status and count went on with theirs
numbers_sound : {B : Type 0} (s : List ℕ) (at : ℕ) (go : Field → Field → Field → Answer B) {v : B}
    → (frame s number_codes at >>= (λ (e : Field). status s (after e) >>= (λ (f : Field). declared s (after f) >>= go e f))) ≡ fine v
    → (e : FieldParts) × (f : FieldParts) × (g : FieldParts) × (IsFrame number_codes e × IsFrame status_codes f × IsFrame count_codes g)
    × (Stands s at (field_bytes e) × Stands s (end_of at (e ∷ [])) (field_bytes f) × Stands s (end_of at (e ∷ f ∷ [])) (field_bytes g))
    × ((status_taken (get_or f.values 0 0) ≡ true) × (not_negative (get_or g.values 0 0) ≡ true) × (fields_taken (number g.values) ≡ true))
    × (go (field_at at e) (field_at (end_of at (e ∷ [])) f) (field_at (end_of at (e ∷ f ∷ [])) g) ≡ fine v)
unfolding end_of
numbers_sound s at go q =
    let e = frame_sound s number_codes at _ q in
    let p = after (field_at at e.0) in
    let f = status_sound s p _ e.3 in
    let g = declared_sound s (after (field_at p f.0)) _ f.3 in
    (e.0, f.0, g.0, (e.1, f.1, g.1), (e.2, f.2, g.2), (f.4, g.4, g.5), g.3)

pub header_sound : (s : List ℕ) (x : Header) → header s ≡ fine x → FoundHeader s x
unfolding header end_of frames_of
header_sound s x q =
    let m = magic_sound s _ q in
    let i = ids_sound s 10 _ m.1 in
    let p = end_of 10 (i.0 ∷ i.1 ∷ i.2 ∷ i.3 ∷ []) in
    let n = numbers_sound s p _ i.6 in
    let g = n.2 in
    let y = field_at (end_of p (n.0 ∷ n.1 ∷ [])) g in
    let h : HeaderParts
    = record { run = i.0; sender = i.1; receiver = i.2; kind = i.3; message = n.0; status = n.1; count = g } in
    let is : IsHeader (number g.values) h
    =
    record {
      is_run = i.4.0;
      is_sender = i.4.1;
      is_receiver = i.4.2;
      is_kind = i.4.3;
      is_number = n.3.0;
      is_status = n.3.1;
      is_count = n.3.2;
      known = n.5.0;
      sign = n.5.1;
      declares = refl {a = number g.values};
      taken = n.5.2;
    } in
    header_joined s x h (number g.values) is m.0
    (i.5.0, (i.5.1, (i.5.2, (i.5.3, (n.4.0, (n.4.1, (n.4.2, tt)))))))
    (big s y.first y.size) n.6 (big_number {at = y.first} g.values (values_there g n.4.2))
