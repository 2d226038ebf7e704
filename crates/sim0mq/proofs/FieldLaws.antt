-- The field judge takes exactly the fields, and answers what their parts say: its code and counts say how many marks
-- and value bytes there are.
use Prim.Native.Nat.{ℕ, zero, suc, ◌+◌, ◌*◌, ◌≤◌, ◌<◌}
use mathlib.Core.Path.{◌≡◌, refl, ap, ap₂, sym, ◌∙◌, subst}
use mathlib.Core.Bool.{Bool, true, false, cond}
use mathlib.Core.List.{List, [], ◌∷◌, ◌++◌, flat_map}
use native.Mathlib.Omega.{arith}
use native.Mathlib.Nat.{add-zero, not-suc-le-zero, le_of_suc-le-suc}
use lib.ListN.{length, get_or, length-append}
use lib.Dec.{leb}
use borrow.Author.Tests.{leb-true, le-leb}
use Rattle.sim0mq.specs.Answer.{fine, ◌>>=◌, need, byte, big, not_negative}
use Rattle.sim0mq.specs.Codes.{code_known, counts_of, marking_of, width_of, boolean}
use Rattle.sim0mq.specs.Mark.{marks}
use Rattle.sim0mq.specs.Field.{count, Counted, counts, mark_count, Head, head_of, head_rest, head, booleans, booleans_of, Field, after, field_of, outline, field}
use Rattle.sim0mq.specs.Allowed.{number, Each, none, more, IsCount, FieldParts, joined, field_bytes, values_asked, columns_asked, marks_asked, IsField}
use Rattle.sim0mq.proofs.Answers.{needed, needed_bind, guarded, guarded_bind, bind_fine, fine_eq}
use Rattle.sim0mq.proofs.Stands.{Stands, stands_to, stands_head, stands_tail, stands_left, stands_right, stands_nil, stands_cons, stands_join, part, stands_part, big_number}
use Rattle.sim0mq.proofs.Rows.{two_counts}
use Rattle.sim0mq.proofs.MarkLaws.{marks_complete, marks_sound}

-- what is to be known of a field that begins at `at`, read off its parts
abbrev pub field_at : ℕ → FieldParts → Field
field_at at f =
    record {
      code = f.code;
      place = at;
      first = at + 1 + length (joined f.counts) + length (joined f.marks);
      size = length f.values;
      marked = length f.marks;
      values = values_asked f.counts;
    }

-- a field ends where its bytes do
pub after_at : (at : ℕ) (f : FieldParts) → after (field_at at f) ≡ at + length (field_bytes f)
unfolding after
after_at at f =
    omega
    (arith, length-append (joined f.counts) (joined f.marks ++ f.values), length-append (joined f.marks) f.values)

-- what the judge answers of counts that say the same as these strings
abbrev counted_at : ℕ → List (List ℕ) → Counted
counted_at at cs = record { values = values_asked cs; columns = columns_asked cs; next = at + length (joined cs) }

counted_eq : {v v' c c' p p' : ℕ} → v ≡ v' → c ≡ c' → p ≡ p'
    → ◌≡◌ {A = Counted} (record { values = v; columns = c; next = p }) (record { values = v'; columns = c'; next = p' })
counted_eq a b d = λ i. record { values = a i; columns = b i; next = d i }

-- every field is taken
count_complete : {s c : List ℕ} {at : ℕ} → IsCount c → Stands s at c → count s at ≡ fine (number c)
unfolding count
count_complete {s} {c} {at} i st =
    let f = st.fits in
    let l = i.long in
    let n : big s at 4 ≡ number c = subst (λ (k : ℕ). big s at k ≡ number c) l (big_number c st) in
    let b : byte s at ≡ get_or c 0 0 = ap (λ (k : ℕ). get_or s k 0) (sym (add-zero at)) ∙ st.same 0 (omega arith) in
    simp (le-leb (at + 4) (length s) (omega arith), b, i.sign, n)

counts_complete : {s : List ℕ} {at : ℕ} (cs : List (List ℕ)) → length cs ≤ 2 → Each IsCount cs → Stands s at (joined cs)
    → counts s (length cs) at ≡ fine (counted_at at cs)
unfolding counts values_asked columns_asked flat_map
counts_complete {at = at} [] h none st = ap fine (counted_eq refl refl (omega arith))
counts_complete {s} {at} (c ∷ []) h (more a none) st =
    let l = a.long in
    simp (count_complete a (stands_left c [] st)) (ap fine (counted_eq refl refl (omega (arith, length-append c []))))
counts_complete {s} {at} (r ∷ c ∷ []) h (more a (more b none)) st =
    let l = a.long in
    let m = b.long in
    let second : Stands s (at + 4) c = stands_left c [] (stands_to (at + 4) (omega arith) (stands_right r (c ++ []) st)) in
    simp (count_complete a (stands_left r (c ++ []) st), count_complete b second)
    (ap fine (counted_eq refl refl (omega (arith, length-append r (c ++ []), length-append c []))))
counts_complete (r ∷ c ∷ x ∷ xs) h i st = absurd (omega arith)

marks_asked_lem : (m : ℕ) (cs : List (List ℕ)) → mark_count m (columns_asked cs) ≡ marks_asked m cs
unfolding mark_count marks_asked
marks_asked_lem zero cs = refl
marks_asked_lem (suc zero) cs = refl
marks_asked_lem (suc (suc m)) cs = refl

booleans_complete : (n : ℕ) (s : List ℕ) (at : ℕ) → ((i : ℕ) → i < n → byte s (at + i) ≤ 1) → booleans s n at ≡ fine tt
unfolding booleans
booleans_complete zero s at h = refl
booleans_complete (suc n) s at h =
    let z : byte s at ≤ 1 = subst (λ (p : ℕ). byte s p ≤ 1) (add-zero at) (h 0 (omega arith)) in
    simp (le-leb (byte s at) 1 z)
    (booleans_complete n s (at + 1) (λ i k. subst (λ (p : ℕ). byte s p ≤ 1) (omega arith) (h (suc i) (omega arith))))

-- a byte that is judged is one of a Boolean field, and there is one for each value byte
judged_boolean : (c n i : ℕ) → i < booleans_of c n → (boolean c ≡ true) × (i < n)
unfolding booleans_of
judged_boolean c n i h = go (boolean c) refl h
  where
    go : (b : Bool) → boolean c ≡ b → i < cond b n 0 → (boolean c ≡ true) × (i < n)
    go true e k = (e, k)
    go false e k = absurd (not-suc-le-zero k)

boolean_judged : (c n i : ℕ) → boolean c ≡ true → i < n → i < booleans_of c n
unfolding booleans_of
boolean_judged c n i e h = rw e h

values_complete : (s : List ℕ) (first : ℕ) (f : FieldParts) → IsField f → Stands s first f.values
    → booleans s (booleans_of f.code (length f.values)) first ≡ fine tt
values_complete s first f i st = booleans_complete (booleans_of f.code (length f.values)) s first each
  where
    each : (j : ℕ) → j < booleans_of f.code (length f.values) → byte s (first + j) ≤ 1
    each j k =
        let b = judged_boolean f.code (length f.values) j k in rw (st.same j b.1) (i.is_boolean b.0 j b.1)

pub field_complete : {s : List ℕ} {at : ℕ} (f : FieldParts) → IsField f → Stands s at (field_bytes f) → field s at ≡ fine (field_at at f)
unfolding field outline head head_rest
field_complete {s} {at} f i st =
    let cs = joined f.counts in
    let ms = joined f.marks in
    let fits = st.fits in
    let from_counts : Stands s (at + 1) (cs ++ (ms ++ f.values)) = stands_tail st in
    let from_marks : Stands s (at + 1 + length cs) (ms ++ f.values) = stands_right cs (ms ++ f.values) from_counts in
    let counted = counts_complete f.counts (rw i.counted (two_counts f.code)) i.is_counts (stands_left cs (ms ++ f.values) from_counts) in
    let first = at + 1 + length cs + length ms in
    let from_values : Stands s first f.values = stands_right ms f.values from_marks in
    let room = from_values.fits in
    let asked : mark_count (marking_of f.code) (columns_asked f.counts) ≡ length f.marks
    = marks_asked_lem (marking_of f.code) f.counts ∙ sym i.marked in
    simp (
      le-leb (at + 1) (length s) (omega arith),
      stands_head st,
      i.known,
      ← i.counted,
      counted,
      asked,
      marks_complete f.marks i.is_marks (stands_left ms f.values from_marks),
      ← i.sized,
      le-leb (first + length f.values) (length s) room,
      values_complete s first f i from_values,
    )

-- whatever is taken is a field
pub record FoundCount (s : List ℕ) (at n : ℕ) : Type 0 where
  pub bytes : List ℕ
  pub is : IsCount bytes
  pub there : Stands s at bytes
  pub says : n ≡ number bytes

pub count_sound : (s : List ℕ) (at n : ℕ) → count s at ≡ fine n → FoundCount s at n
unfolding count
count_sound s at n q =
    let a = needed s at 4 _ q in
    let b = guarded (not_negative (byte s at)) _ _ _ a.1 in
    let p = stands_part s at 4 a.0 in
    let l = p.0 in
    let first : byte s at ≡ get_or (part s at 4) 0 0 = ap (λ (k : ℕ). get_or s k 0) (sym (add-zero at)) ∙ p.1.same 0 (omega arith) in
    record {
      bytes = part s at 4;
      is = record { long = l; sign = rw (← first) b.0 };
      there = p.1;
      says = sym (fine_eq b.1) ∙ subst (λ (k : ℕ). big s at k ≡ number (part s at 4)) l (big_number (part s at 4) p.1);
    }

record FoundCounts (k : ℕ) (s : List ℕ) (at : ℕ) (r : Counted) : Type 0 where
  pub strings : List (List ℕ)
  pub many : length strings ≡ k
  pub are : Each IsCount strings
  pub there : Stands s at (joined strings)
  pub says : r ≡ counted_at at strings

counts_sound : (k : ℕ) (s : List ℕ) (at : ℕ) (r : Counted) → k ≤ 2 → at ≤ length s → counts s k at ≡ fine r → FoundCounts k s at r
unfolding counts values_asked columns_asked flat_map
counts_sound zero s at r k h q =
    let e : at ≡ at + 0 = omega arith in
    record {
      strings = [];
      many = refl;
      are = none;
      there = stands_nil h;
      says = sym (fine_eq q) ∙ counted_eq refl refl e;
    }
counts_sound (suc zero) s at r k h q =
    let b = bind_fine (count s at) _ q in
    let x = count_sound s at b.0 b.1 in
    let n = x.bytes in
    let fits = x.there.fits in
    let l = x.is.long in
    let e : at + 4 ≡ at + length (n ++ []) = omega (arith, length-append n []) in
    record {
      strings = n ∷ [];
      many = refl;
      are = more x.is none;
      there = stands_join n [] x.there (stands_nil (omega arith));
      says = sym (fine_eq b.2) ∙ counted_eq x.says refl e;
    }
counts_sound (suc (suc zero)) s at r k h q =
    let b = bind_fine (count s at) _ q in
    let x = count_sound s at b.0 b.1 in
    let d = bind_fine (count s (at + 4)) _ b.2 in
    let y = count_sound s (at + 4) d.0 d.1 in
    let n = x.bytes in
    let c = y.bytes in
    let l = x.is.long in
    let m = y.is.long in
    let fits = y.there.fits in
    let e : at + 8 ≡ at + length (n ++ (c ++ [])) = omega (arith, length-append n (c ++ []), length-append c []) in
    let second : Stands s (at + 4) (c ++ []) = stands_join c [] y.there (stands_nil (omega arith)) in
    record {
      strings = n ∷ c ∷ [];
      many = refl;
      are = more x.is (more y.is none);
      there = stands_join n (c ++ []) x.there (stands_to (at + length n) (omega arith) second);
      says = sym (fine_eq d.2) ∙ counted_eq (ap₂ ◌*◌ x.says y.says) y.says e;
    }
counts_sound (suc (suc (suc n))) s at r k h q = absurd (omega arith)

booleans_sound : (n : ℕ) (s : List ℕ) (at : ℕ) {u : Unit {0}} → booleans s n at ≡ fine u → (i : ℕ) → i < n → byte s (at + i) ≤ 1
unfolding booleans
booleans_sound zero s at q i h = absurd (not-suc-le-zero h)
booleans_sound (suc n) s at q zero h =
    let r = guarded_bind (leb (byte s at) 1) _ _ _ q in subst (λ (x : ℕ). byte s x ≤ 1) (sym (add-zero at)) (leb-true _ _ r.0)
booleans_sound (suc n) s at q (suc i) h =
    let r = guarded_bind (leb (byte s at) 1) _ _ _ q in
    subst (λ (x : ℕ). byte s x ≤ 1) (omega arith) (booleans_sound n s (at + 1) r.1 i (le_of_suc-le-suc h))

pub record FoundField (s : List ℕ) (at : ℕ) (x : Field) : Type 0 where
  pub parts : FieldParts
  pub is : IsField parts
  pub there : Stands s at (field_bytes parts)
  pub says : x ≡ field_at at parts

field_eq : {c at f f' n n' m m' v : ℕ} → f ≡ f' → n ≡ n' → m ≡ m'
    → ◌≡◌ {A = Field} (record { code = c; place = at; first = f; size = n; marked = m; values = v })
    (record { code = c; place = at; first = f'; size = n'; marked = m'; values = v })
field_eq {c} {at} {v = v} a b d = λ i. record { code = c; place = at; first = a i; size = b i; marked = d i; values = v }

-- what the judge of an outline does after the head
abbrev Rest : List ℕ → ℕ → Field → Head → Type 0
Rest s at x h =
    (marks s h.marked h.next >>= (λ first. need s first (h.values * width_of h.code) >>= (λ there. fine (field_of at h first)))) ≡ fine x

-- each Boolean of a field was judged
abbrev Judged : List ℕ → Field → Type 0
Judged s x = (i : ℕ) → i < booleans_of x.code x.size → byte s (x.first + i) ≤ 1

rest_sound : (s : List ℕ) (at c : ℕ) (x : Field) (cs : List (List ℕ)) → byte s at ≡ c → code_known c ≡ true → length cs ≡ counts_of c
    → Each IsCount cs → Stands s (at + 1) (joined cs) → Judged s x → Rest s at x (head_of c (counted_at (at + 1) cs)) → FoundField s at x
rest_sound s at c x cs code known counted is_counts there judged q =
    let h = head_of c (counted_at (at + 1) cs) in
    let size = values_asked cs * width_of c in
    let m = bind_fine (marks s h.marked h.next) _ q in
    let first = m.0 in
    let y = marks_sound h.marked s h.next first there.fits m.1 in
    let e = y.ends in
    let ms = joined y.strings in
    let v = needed_bind s first size _ m.2 in
    let z = stands_part s first size v.0 in
    let vs = part s first size in
    let from_marks : Stands s (at + 1 + length (joined cs)) (ms ++ vs)
    = stands_join ms vs y.there (stands_to (h.next + length ms) e z.1) in
    let bools : Judged s (field_of at h first) = subst (λ (w : Field). Judged s w) (sym (fine_eq v.1)) judged in
    record {
      parts = record { code = c; counts = cs; marks = y.strings; values = vs };
      is =
          record {
            known = known;
            counted = counted;
            is_counts = is_counts;
            marked = y.many ∙ marks_asked_lem (marking_of c) cs;
            is_marks = y.are;
            sized = z.0;
            is_boolean = λ t i k. rw (← (z.1.same i k)) (bools i (boolean_judged c size i t (let l = z.0 in omega arith)));
          };
      there = stands_cons code (stands_join (joined cs) (ms ++ vs) there from_marks);
      says = sym (fine_eq v.1) ∙ field_eq e (sym z.0) (sym y.many);
    }

pub field_sound : (s : List ℕ) (at : ℕ) (x : Field) → field s at ≡ fine x → FoundField s at x
unfolding field outline head head_rest
field_sound s at x q =
    let c = byte s at in
    let f = bind_fine (outline s at) _ q in
    let g = bind_fine (booleans s (booleans_of f.0.code f.0.size) f.0.first) _ f.2 in
    let same : f.0 ≡ x = fine_eq g.2 in
    let judged : Judged s x
    = subst (λ (y : Field). Judged s y) same (booleans_sound (booleans_of f.0.code f.0.size) s f.0.first g.1) in
    let o = bind_fine (head s at) _ (f.1 ∙ ap fine same) in
    let a = needed s at 1 _ o.1 in
    let b = guarded (code_known c) _ _ _ a.1 in
    let d = bind_fine (counts s (counts_of c) (at + 1)) _ b.1 in
    let k = counts_sound (counts_of c) s (at + 1) d.0 (two_counts c) a.0 d.1 in
    let h : o.0 ≡ head_of c (counted_at (at + 1) k.strings) = sym (fine_eq d.2) ∙ ap (λ (r : Counted). head_of c r) k.says in
    rest_sound s at c x k.strings refl b.0 k.many k.are k.there judged (subst (λ (y : Head). Rest s at x y) h o.2)
