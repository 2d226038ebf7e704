-- What opening writes is a header that the manual allows, since it was judged so part by part.
use Prim.Native.Nat.{ℕ, suc, ◌+◌, ◌-◌, ◌*◌, ◌<◌, ◌≤◌, ◌%◌, ◌^◌, zero-le}
use mathlib.Core.Path.{◌≡◌, refl, ap, ap₂, sym, ◌∙◌, subst}
use mathlib.Core.Bool.{true, ◌&&◌}
use mathlib.Core.List.{List, [], ◌∷◌, ◌++◌, flat_map, append-nil}
use native.Mathlib.Omega.{arith}
use lib.Dec.{leb}
use lib.ListN.{length, get_or}
use lib.Pow.{pow-lt}
use borrow.Author.Tests.{leb-true, ltb-true, lt-ltb}
use Rattle.sim0mq.specs.Answer.{fine, not_negative}
use Rattle.sim0mq.specs.Codes.{code_known, counts_of, marking_of, width_of, boolean}
use Rattle.sim0mq.specs.Header.{id_codes, number_codes, status_codes, count_codes, among, status_taken, fields_taken}
use Rattle.sim0mq.specs.Message.{limit}
use Rattle.sim0mq.specs.Allowed.{Each, none, more, FieldParts, field_bytes, number, IsFrame, HeaderParts, frame0, header_bytes, IsHeader}
use Rattle.sim0mq.proofs.Answers.{bind_fine, guarded, fine_eq, and_true}
use Rattle.sim0mq.proofs.Stands.{stands_self, stands_same}
use Rattle.sim0mq.proofs.Rows.{all_pass, count_scalar}
use Rattle.sim0mq_numbers.specs.Bytes.{big_bytes}
use Rattle.sim0mq_signed.specs.Signed.{bits_of}
use Rattle.writing_puts.specs.Placing.{number_text}
use Rattle.writing_opening.specs.Opening.{holds, header_with, ids_from, fitting, header_given}
use Rattle.writing.specs.Writing.{Opening, count_code, header_text, opening}
use Rattle.writing_puts.proofs.NumberLaws.{number_back, first_byte}
use Rattle.writing_returning.proofs.NumberLaws.{number_parts}
use Rattle.writing_returning.proofs.FrameLaws.{one_number, number_frame}
use Rattle.writing_returning.proofs.JoinLaws.{flat_append}
use Rattle.writing_returning.proofs.IdLaws.{ids_sound}

-- what fits stays within the limit and the room
pub fitting_sound : (written room : ℕ) (text l : List ℕ) → fitting written room text ≡ fine l
    → (l ≡ text) × (written + length text ≤ limit) × (written + length text ≤ room)
unfolding fitting
fitting_sound written room text l q =
    let a = guarded (leb (written + length text) limit) _ _ _ q in
    let b = guarded (leb (written + length text) room) _ _ _ a.1 in
    (sym (fine_eq b.1), leb-true _ _ a.0, leb-true _ _ b.0)

-- the parts of the header, once the four ids are known
abbrev pub opened_parts : FieldParts → FieldParts → FieldParts → FieldParts → Opening → HeaderParts
opened_parts run sender receiver kind o =
    let c = count_code o.kind in
    record {
      run = run;
      sender = sender;
      receiver = receiver;
      kind = kind;
      message = number_parts 3 8 (bits_of 64 o.number);
      status = number_parts 0 1 o.status;
      count = number_parts c (width_of c) o.fields;
    }

-- what a granted opening wrote
pub record Opened (o : Opening) (room : ℕ) (text : List ℕ) : Type 0 where
  pub is_header_lem : text ≡ header_text o
  pub short : length text ≤ limit
  pub fits : length text ≤ room
  pub status : status_taken o.status ≡ true
  pub run : FieldParts
  pub sender : FieldParts
  pub receiver : FieldParts
  pub kind : FieldParts
  pub ids : flat_map field_bytes (run ∷ sender ∷ receiver ∷ kind ∷ []) ≡ o.ids
  pub is : IsHeader o.fields (opened_parts run sender receiver kind o)
  pub bytes : header_bytes (opened_parts run sender receiver kind o) ≡ header_text o

-- frames 5 to 7, end to end
last_frames : (o : Opening)
    → flat_map field_bytes (number_parts 3 8 (bits_of 64 o.number) ∷ number_parts 0 1 o.status
    ∷ number_parts (count_code o.kind) (width_of (count_code o.kind)) o.fields ∷ [])
    ≡ number_text 3 8 (bits_of 64 o.number) ++ (number_text 0 1 o.status ++ number_text (count_code o.kind) (width_of (count_code o.kind)) o.fields)
unfolding flat_map
last_frames o =
    let c = count_code o.kind in
    ap (λ (l : List ℕ). number_text 3 8 (bits_of 64 o.number) ++ (number_text 0 1 o.status ++ l)) (append-nil (number_text c (width_of c) o.fields))

-- the header's bytes
opened_bytes : (a b c d : FieldParts) (o : Opening) → flat_map field_bytes (a ∷ b ∷ c ∷ d ∷ []) ≡ o.ids
    → header_bytes (opened_parts a b c d o) ≡ header_text o
unfolding header_with
opened_bytes a b c d o e =
    let p = opened_parts a b c d o in
    ap (λ (l : List ℕ). frame0 ++ l)
    (flat_append field_bytes (a ∷ b ∷ c ∷ d ∷ []) (p.message ∷ p.status ∷ p.count ∷ [])
    ∙ ap₂ (λ (x y : List ℕ). x ++ y) e (last_frames o))

-- a status is one byte
pub status_byte : (x : ℕ) → status_taken x ≡ true → big_bytes 1 x ≡ x ∷ []
unfolding status_taken big_bytes
status_byte x e =
    let a = and_true (leb 1 x) (leb x 3) e in
    let most : x ≤ 3 = leb-true _ _ a.1 in
    let same : x % 256 ≡ x = omega arith in
    ap (λ (b : ℕ). b ∷ []) same

-- a count that its type holds is written in so many bytes, the first of which is not negative
count_held : (w x : ℕ) → 1 ≤ w → x < 2 ^ (8 * w - 1) → (number (big_bytes w x) ≡ x) × (not_negative (get_or (big_bytes w x) 0 0) ≡ true)
unfolding not_negative
count_held w x some h =
    let k = w - 1 in
    let e : suc k ≡ w = omega arith in
    let f : 8 * w - 1 ≡ 8 * k + 7 = omega arith in
    let less : 8 * w - 1 < 8 * w = omega arith in
    let wide : x < 2 ^ (8 * w) = omega (arith, pow-lt less) in
    let low : get_or (big_bytes (suc k) x) 0 0 < 128 = first_byte k x (subst (λ (j : ℕ). x < 2 ^ j) f h) in
    (number_back w x wide, lt-ltb _ _ (subst (λ (j : ℕ). get_or (big_bytes j x) 0 0 < 128) e low))

-- four frames, taken apart
four : (o : Opening) (fs : List FieldParts) → length fs ≡ 4 → Each (IsFrame id_codes) fs → flat_map field_bytes fs ≡ o.ids
    → status_taken o.status ≡ true → among (count_code o.kind) count_codes ≡ true → fields_taken o.fields ≡ true
    → holds (count_code o.kind) o.fields ≡ true → (room : ℕ) (text : List ℕ) → text ≡ header_text o → length text ≤ limit → length text ≤ room
    → Opened o room text
unfolding all_pass one_number code_known counts_of marking_of width_of boolean among holds
four o (a ∷ b ∷ c ∷ d ∷ []) n (more ia (more ib (more ic (more id none)))) ids stat kind many held room text is short fits =
    let k = count_code o.kind in
    let h = count_held (width_of k) o.fields (count_scalar k kind).1 (ltb-true _ _ held) in
    record {
      is_header_lem = is;
      short = short;
      fits = fits;
      status = stat;
      run = a;
      sender = b;
      receiver = c;
      kind = d;
      ids = ids;
      is =
          record {
            is_run = ia;
            is_sender = ib;
            is_receiver = ic;
            is_kind = id;
            is_number = number_frame number_codes 3 8 (bits_of 64 o.number) refl refl refl;
            is_status = number_frame status_codes 0 1 o.status refl refl refl;
            is_count = number_frame count_codes k (width_of k) o.fields refl kind refl;
            known = ap (λ (l : List ℕ). status_taken (get_or l 0 0)) (status_byte o.status stat) ∙ stat;
            sign = h.1;
            declares = h.0;
            taken = many;
          };
      bytes = opened_bytes a b c d o ids;
    }
four o [] n are ids stat kind many held room text is short fits = absurd (omega arith)
four o (a ∷ []) n are ids stat kind many held room text is short fits = absurd (omega arith)
four o (a ∷ b ∷ []) n are ids stat kind many held room text is short fits = absurd (omega arith)
four o (a ∷ b ∷ c ∷ []) n are ids stat kind many held room text is short fits = absurd (omega arith)
four o (a ∷ b ∷ c ∷ d ∷ f ∷ fs) n are ids stat kind many held room text is short fits = absurd (omega arith)

pub opening_sound : (o : Opening) (room : ℕ) (text : List ℕ) → opening o room ≡ fine text → Opened o room text
unfolding header_given
opening_sound o room text q =
    let a = bind_fine (ids_from o.ids 4 0) _ q in
    let b = guarded (status_taken o.status) _ _ _ a.2 in
    let c = guarded (among (count_code o.kind) count_codes) _ _ _ b.1 in
    let d = guarded (fields_taken o.fields && holds (count_code o.kind) o.fields) _ _ _ c.1 in
    let both = and_true (fields_taken o.fields) _ d.0 in
    let e = fitting_sound 0 room (header_text o) text d.1 in
    let ids = ids_sound 4 o.ids 0 a.0 zero-le a.1 in
    let end = ids.ends in
    let whole = stands_same (flat_map field_bytes ids.parts) o.ids (omega arith) ids.there (stands_self o.ids) in
    let long = ap length e.0 in
    let short = e.1 in
    let fits = e.2 in
    four o ids.parts ids.many ids.are whole b.0 c.0 both.0 both.1 room text e.0 (omega arith) (omega arith)
