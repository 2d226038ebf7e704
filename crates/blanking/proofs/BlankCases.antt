-- Blanking one field after the other blanks them all, since each begins where the one before ends, and the last ends
-- with the message; what stands past the message is not touched.
use Prim.Native.Nat.{ℕ, ◌+◌, ◌-◌, ◌*◌, ◌≤◌, ◌<◌}
use mathlib.Core.Path.{◌≡◌, refl, ap, ap₂, sym, ◌∙◌, subst}
use mathlib.Core.List.{List, [], ◌∷◌, ◌++◌, append_assoc, map}
use native.Mathlib.Omega.{arith}
use lib.ListN.{length, get_or, take, drop, replicate, length-append, length-take, length-drop, length-map}
use lib.Seq.{take-append-le, drop-append-le, drop-drop, get_or-drop}
use lib.Dec.{leb}
use borrow.Author.Tests.{le-leb, lt-leb, leb-true}
use Rattle.sim0mq.specs.Answer.{Answer, fine, refused, part_at, length_of}
use Rattle.sim0mq.specs.Field.{Field, after}
use Rattle.sim0mq.specs.Header.{Header, most_fields}
use Rattle.sim0mq.specs.Payload.{payload_from, payload, moved}
use Rattle.sim0mq.specs.Message.{no_table, reading}
use Rattle.sim0mq.specs.Table.{row, rows, row_size, stored, placed}
use Rattle.sim0mq.specs.Blank.{zeroed, blanked, blanking, output_after}
use Rattle.sim0mq.specs.Allowed.{Each, none, more}
use Rattle.sim0mq.proofs.BlankLaws.{Inside, inside_to, zeroed_long, blanked_long}
use Rattle.sim0mq.proofs.Answers.{not_fine, fine_eq, bind_fine, guarded}
use Rattle.sim0mq.proofs.Demand3.{copy_is_blank}
use Rattle.sim0mq_buffers.specs.Placing.{put_in, cleared_in}
use Rattle.reading_payload.specs.Parts.{payload_steps}
use Rattle.reading_payload.specs.Kept.{kept_of}
use Rattle.reading_parts.proofs.PartCases.{field_goes}
use Rattle.reading_payload.proofs.PayloadCases.{at-stopped, at-taken}
use Rattle.reading_payload.proofs.KeptLaws.{payload_many, taken_more, taken_none, kept_rows}
use Rattle.reading_front.specs.Front.{front_of}
use Rattle.reading_front.proofs.FrontCases.{reading_closed, open-within, open-reading}
use Rattle.blanking.specs.Blanking.{copying, taken, fields_of, Copyable, Blankable}
use Rattle.blanking.proofs.TurnLaws.{placed_past, placed_whole, placed_turn}

-- fields of s from `at` on, one after the other up to its end
pub data Chained (s : List ℕ) : ℕ → List Field → Type 0 where
  ended : {at : ℕ} → length s ≤ at → Chained s at []
  going : {at : ℕ} {f : Field} {fs : List Field} → at ≤ f.first → f.first + f.size ≤ length s → Chained s (f.first + f.size) fs → Chained s at (f ∷ fs)

-- those of an accepted payload are such
accepted_chained : (s : List ℕ) (next n at : ℕ) (fs : List Field) → next ≤ length s → payload_from (drop next s) n at ≡ fine fs
    → Chained s (next + at) (map (moved next) fs)
unfolding after moved
accepted_chained s next n at [] h q =
    let past = taken_none (drop next s) n at q in
    let over : length s ≤ next + at = omega (arith, length-drop next s) in
    ended over
accepted_chained s next n at (f ∷ fs) h q =
    let m = taken_more (drop next s) n at f fs q in
    let g = field_goes (drop next s) at f m.1 in
    let place = g.place in
    let before = g.before in
    let end = g.end in
    let long = length-drop next s in
    let rest = accepted_chained s next m.0 (f.first + f.size) fs h m.2 in
    let there : next + (f.first + f.size) ≡ next + f.first + f.size = omega arith in
    let from : next + at ≤ next + f.first = omega arith in
    let to : next + f.first + f.size ≤ length s = omega arith in
    going from to (subst (λ (p : ℕ). Chained s p (map (moved next) fs)) there rest)

chained_inside : (s : List ℕ) (at : ℕ) (fs : List Field) → Chained s at fs → Each (Inside (length s)) fs
chained_inside s at [] (ended h) = none
chained_inside s at (f ∷ fs) (going a b c) = more b (chained_inside s (f.first + f.size) fs c)

-- what is left to be blanked: these fields, whose rows stand from row i on
pub record Left (s kept all out : List ℕ) (n at i : ℕ) : Type 0 where
  pub fields : List Field
  pub others : List ℕ
  pub chained : Chained s at fields
  pub rowed : drop (row_size * i) kept ≡ rows fields ++ others
  pub many : length fields + i ≡ n
  pub whole : all ≡ blanked (placed out at (drop at s)) fields
  pub room : length s ≤ length out

-- at first all of them
pub left_start : (s : List ℕ) (next n : ℕ) (kept out : List ℕ) → Blankable s next n kept out
    → Left s kept (blanked (placed out next (drop next s)) (fields_of s next n)) out n next 0
unfolding fields_of payload row_size
left_start s next n kept out b =
    let fs = taken (payload (drop next s) n) in
    let zero_more : next + 0 ≡ next = omega arith in
    let count : length (map (moved next) fs) ≡ n = length-map fs (moved next) ∙ payload_many (drop next s) n fs b.accepted in
    record {
      fields = map (moved next) fs;
      others = b.others;
      chained = subst (λ (p : ℕ). Chained s p (map (moved next) fs)) zero_more (accepted_chained s next n 0 fs b.within b.accepted);
      rowed = b.rowed;
      many = omega arith;
      whole = refl;
      room = b.room;
    }

-- what stands past a row
row_past : (f : Field) (l : List ℕ) → drop row_size (row f ++ l) ≡ l
unfolding row row_size
row_past f l = refl

-- the next row, and the turn that it makes
module _ (s kept all out : List ℕ) (n at i : ℕ) where
  -- a row's numbers, told by what stands from it on
  abbrev Told : List ℕ → Field → Type 0
  Told others f = (get_or kept (row_size * i + 2) 0 ≡ f.first) × (get_or kept (row_size * i + 3) 0 ≡ f.size) × (row_size * i + row_size ≤ length kept)

  row_told : (f : Field) (others : List ℕ) → drop (row_size * i) kept ≡ row f ++ others → Told others f
  unfolding row row_size
  row_told f others e =
      let long : length (drop (row_size * i) kept) ≡ row_size + length others = ap length e ∙ length-append (row f) others in (
        sym (get_or-drop (row_size * i) kept 2 0) ∙ ap (λ (l : List ℕ). get_or l 2 0) e,
        sym (get_or-drop (row_size * i) kept 3 0) ∙ ap (λ (l : List ℕ). get_or l 3 0) e,
        omega (arith, length-drop (row_size * i) kept),
      )

  pub left_row : Left s kept all out n at i → i < n
      → (at ≤ get_or kept (row_size * i + 2) 0) × (get_or kept (row_size * i + 2) 0 + get_or kept (row_size * i + 3) 0 ≤ length s) × (row_size * i + row_size ≤ length kept)
  unfolding rows row_size
  left_row l h = go l.fields l.chained l.rowed l.many
    where
      go : (fs : List Field) → Chained s at fs → drop (row_size * i) kept ≡ rows fs ++ l.others → length fs + i ≡ n
          → (at ≤ get_or kept (row_size * i + 2) 0) × (get_or kept (row_size * i + 2) 0 + get_or kept (row_size * i + 3) 0 ≤ length s) × (row_size * i + row_size ≤ length kept)
      go [] c e m = absurd (omega arith)
      go (f ∷ fs) (going a b c) e m =
          let t = row_told f (rows fs ++ l.others) (e ∙ append_assoc (row f) (rows fs) l.others) in
          let first = t.0 in
          let size = t.1 in
          let room = t.2 in
          (omega arith, omega arith, omega arith)

  -- with the numbers that the code has of it
  pub left_stands : Left s kept all out n at i → i < n → (first size : ℕ) → first ≡ get_or kept (row_size * i + 2) 0 → size ≡ get_or kept (row_size * i + 3) 0
      → (at ≤ first) × (first + size ≤ length s)
  left_stands l h first size p q =
      let r = left_row l h in
      let before = r.0 in
      let end = r.1 in
      (omega arith, omega arith)

  left_turn : Left s kept all out n at i → i < n → (first size : ℕ) (copied next : List ℕ)
      → first ≡ get_or kept (row_size * i + 2) 0 → size ≡ get_or kept (row_size * i + 3) 0
      → copied ≡ put_in out at (take (first - at) (drop at s)) → next ≡ cleared_in copied first size → length next ≡ length out
      → Left s kept all next n (first + size) (i + 1)
  unfolding rows blanked row_size
  left_turn l h first size copied next p q c z same = go l.fields l.chained l.rowed l.many l.whole
    where
      go : (fs : List Field) → Chained s at fs → drop (row_size * i) kept ≡ rows fs ++ l.others → length fs + i ≡ n
          → all ≡ blanked (placed out at (drop at s)) fs → Left s kept all next n (first + size) (i + 1)
      go [] d e m w = absurd (omega arith)
      go (f ∷ fs) (going a b d) e m w =
          let whole_row = e ∙ append_assoc (row f) (rows fs) l.others in
          let t = row_told f (rows fs ++ l.others) whole_row in
          let first-is : first ≡ f.first = p ∙ t.0 in
          let size_is : size ≡ f.size = q ∙ t.1 in
          let ends : f.first + f.size ≡ first + size = omega arith in
          let place : row_size * i + row_size ≡ row_size * (i + 1) = omega arith in
          let room = l.room in
          let turn = placed_turn out s at first size copied next (omega arith) (omega arith) (omega arith) c z in
          record {
            fields = fs;
            others = l.others;
            chained = subst (λ (x : ℕ). Chained s x fs) ends d;
            rowed = ap (λ (k : ℕ). drop k kept) (sym place) ∙ sym (drop-drop row_size (row_size * i) kept) ∙ ap (drop row_size) whole_row ∙ row_past f (rows fs ++ l.others);
            many = omega arith;
            whole = w ∙ ap₂ (λ (x y : ℕ). blanked (zeroed (placed out at (drop at s)) x y) fs) (sym first-is) (sym size_is) ∙ ap (λ (o : List ℕ). blanked o fs) turn;
            room = omega arith;
          }

  -- what is put before a field's values ends where they begin
  part_ends : (first : ℕ) → at ≤ first → first ≤ length s → at + length (take (first - at) (drop at s)) ≡ first
  part_ends first h k = omega (arith, length-take (first - at) (drop at s), length-drop at s)

  -- a turn that puts and clears at once
  pub left_renewed : Left s kept all out n at i → i < n → (first size : ℕ) (next : List ℕ)
      → first ≡ get_or kept (row_size * i + 2) 0 → size ≡ get_or kept (row_size * i + 3) 0
      → next ≡ cleared_in (put_in out at (take (first - at) (drop at s))) (at + length (take (first - at) (drop at s))) size → length next ≡ length out
      → Left s kept all next n (first + size) (i + 1)
  left_renewed l h first size next p q z same =
      let stands = left_stands l h first size p q in
      let before = stands.0 in
      let end = stands.1 in
      let copied = put_in out at (take (first - at) (drop at s)) in
      left_turn l h first size copied next p q refl
      (z ∙ ap (λ (k : ℕ). cleared_in copied k size) (part_ends first (omega arith) (omega arith))) same

  -- after the last turn nothing is left, neither a field nor a byte
  pub left_end : Left s kept all out n at i → n ≤ i → out ≡ all
  unfolding blanked
  left_end l h = go l.fields l.chained l.many l.whole
    where
      go : (fs : List Field) → Chained s at fs → length fs + i ≡ n → all ≡ blanked (placed out at (drop at s)) fs → out ≡ all
      go [] (ended past) m w = sym (w ∙ placed_past out s at at past)
      go (f ∷ fs) d m w = absurd (omega arith)

-- wiping what lies in the front of some bytes leaves the others
zeroed_front : (s t : List ℕ) (at n : ℕ) → at + n ≤ length s → zeroed (s ++ t) at n ≡ zeroed s at n ++ t
unfolding zeroed
zeroed_front s t at n h =
    rw (take-append-le at s t (omega arith), drop-append-le (at + n) s t h)
    (rw (append_assoc (take at s) (replicate n 0 ++ drop (at + n) s), append_assoc (replicate n 0) (drop (at + n) s)) refl)

blanked_front : (s t : List ℕ) (fs : List Field) → Each (Inside (length s)) fs → blanked (s ++ t) fs ≡ blanked s fs ++ t
unfolding blanked
blanked_front s t [] none = refl
blanked_front s t (f ∷ fs) (more a b) =
    let z = zeroed s f.first f.size in
    let same : length z ≡ length s = zeroed_long s f.first f.size a in
    ap (λ (o : List ℕ). blanked o fs) (zeroed_front s t f.first f.size a) ∙ blanked_front z t fs (inside_to (sym same) b)

-- the copy of a message whose header is read
module _ (room : ℕ) (s : List ℕ) (next n : ℕ) where
  module _ (kept : ℕ) (h : Copyable s next n kept) where
    pub copy-refused : (k w : ℕ) → payload_steps s next n ≡ refused k w → copying room s next n ≡ refused k w
    unfolding copying
    copy-refused k w e = simp (at-stopped s next n h.within k w e)

    module _ (steps : ℕ) (e : payload_steps s next n ≡ fine steps) where
      pub copy-short : room < length s → copying room s next n ≡ refused 14 0
      unfolding copying
      copy-short l = let a = at-taken s next n h.within steps e in simp (a.1, lt-leb (length s) room l)

      copy-fine : length s ≤ room → copying room s next n ≡ fine (blanked s (fields_of s next n))
      unfolding copying fields_of
      copy-fine l = let a = at-taken s next n h.within steps e in simp (a.1, le-leb (length s) room l)

      pub copy-blankable : (k m out : List ℕ) → length k ≡ kept → m ≡ kept_of s next n 0 k → length s ≤ length out → Blankable s next n m out
      unfolding fields_of stored
      copy-blankable k m out long d l =
          let a = at-taken s next n h.within steps e in
          let keeps = h.keeps in
          let taking : taken (payload (drop next s) n) ≡ a.0 = ap taken a.1 in
          let rowed = kept_rows s next n a.0 k a.1 h.short (omega arith) in
          record {
            accepted = a.1 ∙ ap fine (sym taking);
            within = h.within;
            others = drop (length (rows (map (moved next) a.0))) k;
            rowed = d ∙ rowed ∙ ap (λ (fs : List Field). rows (map (moved next) fs) ++ drop (length (rows (map (moved next) a.0))) k) (sym taking);
            room = l;
          }

      fields_inside : Each (Inside (length s)) (fields_of s next n)
      unfolding fields_of payload
      fields_inside =
          let a = at-taken s next n h.within steps e in
          let chain = accepted_chained s next n 0 a.0 h.within a.1 in
          subst (λ (fs : List Field). Each (Inside (length s)) (map (moved next) fs)) (sym (ap taken a.1)) (chained_inside s (next + 0) _ chain)

      -- the copy that the code makes
      pub copy-made : (out front copy : List ℕ) → length out ≡ room → length s ≤ room → front ≡ put_in out 0 (take next s)
          → copy ≡ blanked (placed front next (drop next s)) (fields_of s next n)
          → (fine (length s) ≡ length_of (copying room s next n)) × (copy ≡ output_after out (copying room s next n))
      unfolding stored output_after
      copy-made out front copy r l c v =
          let fs = fields_of s next n in
          let within = h.within in
          let placing : placed front next (drop next s) ≡ stored out s
          = ap (λ (o : List ℕ). placed o next (drop next s)) c ∙ placed_whole out s next (omega arith) (omega arith) in
          let all-inside : Each (Inside (length s)) fs = fields_inside in
          let before = blanked_front s (drop (length s) out) fs all-inside in
          let long = blanked_long s fs all-inside in
          let fine_is = copy-fine l in
          (rw (fine_is, long) refl, v ∙ rw (placing, before) (rw (fine_is, long) refl))

-- blanking is what stands before the payload, and then that copy
module _ (room : ℕ) (s : List ℕ) where
  pub blank_closed : (k p : ℕ) → front_of no_table s ≡ refused k p → blanking room s ≡ refused k p
  unfolding blanking
  blank_closed k p e = simp (reading_closed no_table s k p e)

  module _ (h : Header) (a : front_of no_table s ≡ fine h) (n next : ℕ) (p : h.fields ≡ n) (q : h.next ≡ next) where
    pub blank-copyable : Copyable s next n (most_fields * row_size)
    unfolding row_size
    blank-copyable =
        let w = open-within no_table s h a n next p q in
        let most = w.2 in
        record { short = w.0; within = w.1; keeps = omega arith }

    pub blank-is : copying room s next n ≡ blanking room s
    unfolding copying blanking
    blank-is = go (part_at next (payload (drop next s) n)) refl
      where
        go : (b : Answer (List Field)) → part_at next (payload (drop next s) n) ≡ b → copying room s next n ≡ blanking room s
        go (fine fs) e = simp (open-reading no_table s h a n next p q, e, q)
        go (refused k w) e = simp (open-reading no_table s h a n next p q, e)

-- a length was answered, so bytes were
answered : (a : Answer (List ℕ)) {n : ℕ} → length_of a ≡ fine n → (l : List ℕ) × (a ≡ fine l) × (length l ≡ n)
answered (fine l) e = (l, refl, fine_eq e)
answered (refused k p) e = absurd (not_fine e)

-- a copy that was made fits in the room that there was for it
pub copy_fits : (room : ℕ) (s : List ℕ) (n : ℕ) → length_of (blanking room s) ≡ fine n → n ≤ room
unfolding blanking
copy_fits room s n e =
    let a = answered (blanking room s) e in
    let b = bind_fine (reading no_table s) _ a.1 in
    let c = guarded (leb (length s) room) 14 0 _ b.2 in
    let long = (copy_is_blank no_table s b.0 b.1).long in
    let same = ap length (fine_eq c.1) in
    let counted = a.2 in
    let fits = leb-true (length s) room c.0 in
    omega arith
