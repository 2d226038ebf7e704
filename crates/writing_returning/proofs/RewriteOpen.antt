-- Rewriting a message opens with its own header: its four ids are asked for as they stand, and each number is written
-- in the bytes that it was read from.
use Prim.Native.Nat.{ℕ, zero, suc, ◌+◌, ◌-◌, ◌*◌, ◌<◌, ◌≤◌, ◌^◌}
use mathlib.Core.Path.{◌≡◌, refl, ap, ap₂, sym, ◌∙◌, subst}
use mathlib.Core.Bool.{true}
use mathlib.Core.List.{List, [], ◌∷◌, ◌++◌, flat_map, append-nil}
use native.Mathlib.Omega.{arith}
use native.Mathlib.Nat.{add-zero, zero-add}
use lib.Arith.{digits_lt}
use lib.Dec.{eqb}
use lib.ListN.{length, get_or}
use lib.Pow.{pow-add}
use borrow.Author.Tests.{le-leb, lt-ltb, ltb-true, eqb-true}
use Rattle.sim0mq.specs.Answer.{fine, byte, big, not_negative}
use Rattle.sim0mq.specs.Codes.{code_known, counts_of, marking_of, width_of, boolean}
use Rattle.sim0mq.specs.Header.{number_codes, status_codes, count_codes, among, status_taken, fields_taken}
use Rattle.sim0mq.specs.Message.{limit}
use Rattle.sim0mq.specs.Allowed.{number, none, more, FieldParts, field_bytes, IsFrame, HeaderParts, frame0, header_bytes, IsHeader}
use Rattle.sim0mq.proofs.Rows.{all_pass, pass_among, status_scalar, count_scalar}
use Rattle.sim0mq.proofs.Stands.{Stands, stands_head, stands_tail, stands_self, big_number, part_back}
use Rattle.sim0mq_numbers.specs.Bytes.{big_bytes}
use Rattle.sim0mq_signed.specs.Signed.{twos, bits_of}
use Rattle.sim0mq_numbers.proofs.ByteLaws.{bytes_back, big_fits}
use Rattle.sim0mq_signed.proofs.Signed.{bits_back}
use Rattle.asking_scalars.proofs.BackLaws.{one_byte}
use Rattle.writing_puts.specs.Placing.{number_text}
use Rattle.writing_opening.specs.Opening.{holds, header_with, ids_from, fitting, header_given}
use Rattle.writing.specs.Writing.{Opening, asks_for, count_code, header_text, opening}
use Rattle.std.specs.Prelude.{Some}
use Rattle.writing_returning.proofs.FrameLaws.{one_number, frame_text}
use Rattle.writing_returning.proofs.IdLaws.{ids_complete}
use Rattle.writing_returning.proofs.JoinLaws.{flat_append}

-- an opening that passes each test is granted
opening_fine : (o : Opening) (room end : ℕ) → ids_from o.ids 4 0 ≡ fine end → status_taken o.status ≡ true
    → among (count_code o.kind) count_codes ≡ true → fields_taken o.fields ≡ true → holds (count_code o.kind) o.fields ≡ true
    → length (header_text o) ≤ limit → length (header_text o) ≤ room → opening o room ≡ fine (header_text o)
unfolding header_given fitting
opening_fine o room end ids stat kind many held short fits =
    simp (
      ids,
      stat,
      kind,
      many,
      held,
      le-leb (0 + length (header_text o)) limit (omega arith),
      le-leb (0 + length (header_text o)) room (omega arith),
    )

-- four id frames are taken as ids
abbrev pub ids_of : HeaderParts → List FieldParts
ids_of h = h.run ∷ h.sender ∷ h.receiver ∷ h.kind ∷ []

ids_taken : {n : ℕ} (h : HeaderParts) → IsHeader n h → ids_from (flat_map field_bytes (ids_of h)) 4 0 ≡ fine (length (flat_map field_bytes (ids_of h)))
ids_taken h i =
    let text = flat_map field_bytes (ids_of h) in
    ids_complete {s = text} {at = 0} (ids_of h) (more i.is_run (more i.is_sender (more i.is_receiver (more i.is_kind none))))
    (stands_self text) (zero-add (length text))

-- the types of frames 5 to 7 are single numbers
number_types : all_pass one_number number_codes ≡ true
unfolding all_pass one_number code_known counts_of marking_of boolean
number_types = refl

status_types : all_pass one_number status_codes ≡ true
unfolding all_pass one_number code_known counts_of marking_of boolean
status_types = refl

count_types : all_pass one_number count_codes ≡ true
unfolding all_pass one_number code_known counts_of marking_of boolean
count_types = refl

module _ (s : List ℕ) (bytes : (i : ℕ) → byte s i < 256) where
  -- a number whose first byte is below 128 lies in the lower half
  big_low : (n at : ℕ) → byte s at < 128 → big s at (suc n) < 2 ^ (8 * n + 7)
  unfolding big
  big_low zero at h = let e : at + 0 ≡ at = omega arith in rw e (omega arith)
  big_low (suc n) at h =
      let e : 8 * suc n + 7 ≡ 8 * n + 7 + 8 = omega arith in
      let p : 2 ^ (8 * suc n + 7) ≡ 2 ^ (8 * n + 7) * 256 = ap (λ (k : ℕ). 2 ^ k) e ∙ pow-add 2 (8 * n + 7) 8 in
      subst (λ (k : ℕ). big s at (suc n) * 256 + byte s (at + suc n) < k) (sym p) (digits_lt (big_low n at h) (bytes (at + suc n)))

  -- a frame of one number is its code and the number that stands after it, in the bytes of its value
  module _ (codes : List ℕ) (at : ℕ) (f : FieldParts) (all : all_pass one_number codes ≡ true) (i : IsFrame codes f) (st : Stands s at (field_bytes f)) where
    values-stand : Stands s (at + 1) f.values
    values-stand = stands_tail (subst (Stands s at) (frame_text codes f all i).0 st)

    frame_back : field_bytes f ≡ number_text f.code (width_of f.code) (big s (at + 1) (width_of f.code))
    frame_back =
        let t = frame_text codes f all i in
        let n = length f.values in
        let back : big_bytes n (big s (at + 1) n) ≡ f.values
        = bytes_back s bytes n (at + 1) values-stand.fits ∙ part_back f.values values-stand in
        t.0 ∙ ap (λ (l : List ℕ). f.code ∷ l) (sym back) ∙ ap (λ (k : ℕ). number_text f.code k (big s (at + 1) k)) t.1

    frame-number : big s (at + 1) (width_of f.code) ≡ number f.values
    frame-number = ap (big s (at + 1)) (sym (frame_text codes f all i).1) ∙ big_number f.values values-stand

    frame-first : 1 ≤ width_of f.code → byte s (at + 1) ≡ get_or f.values 0 0
    frame-first h =
        let size = (frame_text codes f all i).1 in
        ap (byte s) (sym (add-zero (at + 1))) ∙ values-stand.same 0 (omega arith)

  -- frame 5, whose number is signed
  number_text_lem : (at : ℕ) (f : FieldParts) → IsFrame number_codes f → Stands s at (field_bytes f)
      → field_bytes f ≡ number_text 3 8 (bits_of 64 (twos 64 (big s (at + 1) 8)))
  unfolding all_pass width_of
  number_text_lem at f i st =
      let c : f.code ≡ 3 = eqb-true _ _ (pass_among (λ (k : ℕ). eqb k 3) number_codes f.code refl i.allowed) in
      frame_back number_codes at f number_types i st
      ∙ ap (λ (k : ℕ). number_text k (width_of k) (big s (at + 1) (width_of k))) c
      ∙ ap (number_text 3 8) (sym (bits_back 64 (big s (at + 1) 8) (big_fits s bytes 8 (at + 1))))

  -- frame 6, whose number is one byte
  status_text : (at : ℕ) (f : FieldParts) → IsFrame status_codes f → Stands s at (field_bytes f) → field_bytes f ≡ number_text 0 1 (byte s (at + 1))
  unfolding all_pass width_of
  status_text at f i st =
      let c : f.code ≡ 0 = eqb-true _ _ (pass_among (λ (k : ℕ). eqb k 0) status_codes f.code refl i.allowed) in
      frame_back status_codes at f status_types i st
      ∙ ap (λ (k : ℕ). number_text k (width_of k) (big s (at + 1) (width_of k))) c
      ∙ ap (number_text 0 1) (one_byte s (at + 1))

  -- frame 7, whose type holds its number
  count_text : (at n : ℕ) (f : FieldParts) → IsFrame count_codes f → number f.values ≡ n → Stands s at (field_bytes f)
      → field_bytes f ≡ number_text (byte s at) (width_of (byte s at)) n
  count_text at n f i e st =
      frame_back count_codes at f count_types i st
      ∙ ap (number_text f.code (width_of f.code)) (frame-number count_codes at f count_types i st ∙ e)
      ∙ ap (λ (k : ℕ). number_text k (width_of k) n) (sym (stands_head st))

  count_holds : (at n : ℕ) (f : FieldParts) → IsFrame count_codes f → not_negative (get_or f.values 0 0) ≡ true → number f.values ≡ n
      → Stands s at (field_bytes f) → holds f.code n ≡ true
  unfolding holds not_negative
  count_holds at n f i sign e st =
      let w = width_of f.code in
      let some = (count_scalar f.code i.allowed).1 in
      let k = w - 1 in
      let wide : suc k ≡ w = omega arith in
      let half : 8 * k + 7 ≡ 8 * w - 1 = omega arith in
      let first : byte s (at + 1) < 128
      = subst (λ (b : ℕ). b < 128) (sym (frame-first count_codes at f count_types i st some)) (ltb-true _ _ sign) in
      let is : big s (at + 1) (suc k) ≡ n = ap (big s (at + 1)) wide ∙ frame-number count_codes at f count_types i st ∙ e in
      let low : n < 2 ^ (8 * k + 7) = subst (λ (x : ℕ). x < 2 ^ (8 * k + 7)) is (big_low k (at + 1) first) in
      lt-ltb _ _ (subst (λ (j : ℕ). n < 2 ^ j) half low)

  -- the opening that a header asks for where its frames 5 to 7 stand at these places
  module _ (n : ℕ) (h : HeaderParts) (i : IsHeader n h) (ids : List ℕ) (p q r : ℕ) (are : ids ≡ flat_map field_bytes (ids_of h))
      (five : Stands s p (field_bytes h.message)) (six : Stands s q (field_bytes h.status)) (seven : Stands s r (field_bytes h.count)) where
    abbrev asked : Opening
    asked = asks_for ids (twos 64 (big s (p + 1) 8)) (byte s (q + 1)) n (Some (byte s r))

    -- it writes the header's own bytes
    pub own-header : header_text asked ≡ header_bytes h
    unfolding header_with count_code flat_map
    own-header =
        let last : field_bytes h.count ++ [] ≡ number_text (byte s r) (width_of (byte s r)) n
        = append-nil (field_bytes h.count) ∙ count_text r n h.count i.is_count i.declares seven in
        sym
        (ap (λ (l : List ℕ). frame0 ++ l)
        (flat_append field_bytes (ids_of h) (h.message ∷ h.status ∷ h.count ∷ [])
        ∙ ap₂ (λ (a b : List ℕ). a ++ b) (sym are)
        (ap₂ (λ (a b : List ℕ). a ++ b) (number_text_lem p h.message i.is_number five)
        (ap₂ (λ (a b : List ℕ). a ++ b) (status_text q h.status i.is_status six) last))))

    -- and is granted where they fit
    pub own-opening : (room : ℕ) → length (header_bytes h) ≤ limit → length (header_bytes h) ≤ room → opening asked room ≡ fine (header_text asked)
    unfolding count_code
    own-opening room short fits =
        let long = ap length own-header in
        let code : h.count.code ≡ byte s r = sym (stands_head seven) in
        let one = (status_scalar h.status.code i.is_status.allowed).1 in
        let stat : get_or h.status.values 0 0 ≡ byte s (q + 1) = sym (frame-first status_codes q h.status status_types i.is_status six one) in
        opening_fine asked room (length (flat_map field_bytes (ids_of h))) (rw are (ids_taken h i))
        (subst (λ (x : ℕ). status_taken x ≡ true) stat i.known)
        (subst (λ (c : ℕ). among c count_codes ≡ true) code i.is_count.allowed)
        i.taken
        (subst (λ (c : ℕ). holds c n ≡ true) code (count_holds r n h.count i.is_count i.sign i.declares seven))
        (omega arith) (omega arith)
