-- Trailer and index are judged by the file's length and its last bytes alone: each number is read at a place that is
-- counted from where those bytes begin.
use Prim.Native.Nat.{ℕ, zero, suc, ◌+◌, ◌-◌, ◌*◌, ◌≤◌, ◌<◌, zero-le}
use mathlib.Core.Path.{◌≡◌, refl, ap, ap₂, sym, ◌∙◌, subst}
use mathlib.Core.Bool.{Bool, true, false}
use mathlib.Core.List.{List, ◌∷◌}
use native.Mathlib.Omega.{arith}
use native.Mathlib.Nat.{zero-add, mul-le-mul}
use lib.ListN.{length, drop, length-drop}
use lib.Seq.{get_or-drop}
use lib.Dec.{leb, eqb}
use borrow.Author.Tests.{leb-true, leb-false, le-leb}
use Rattle.sim0mq.specs.Answer.{Answer, fine, refused, ◌>>=◌, ◌>>◌, guard, big, byte}
use Rattle.sim0mq.proofs.Answers.{not_fine, bind_fine, fine_eq}
use Rattle.dividing.specs.Run.{total}
use Rattle.recordings_format.specs.Edition.{entry_size, most_messages, trailer_size}
use Rattle.recordings_format.specs.Judge as J
use Rattle.recordings_format.specs.Judge.{Trailer, trailer_from, trailer_at, trailer, entries_from, Index, index}
use Rattle.recordings_format.proofs.IndexLaws.{trailer_says, entries_many}
use Rattle.recordings_index.specs.Tail.{Reached, there, wanted, enough_or, trailer_in, entries_in, index_in}
use Rattle.recordings_index.specs.Index.{summed, summed_in}

module _ (s : List ℕ) (gap : ℕ) where
  -- a number
  pub big_past : (p n : ℕ) → big (drop gap s) p n ≡ big s (gap + p) n
  unfolding big
  big_past p zero = refl
  big_past p (suc n) =
      let sum : gap + (p + n) ≡ gap + p + n = omega arith in
      ap₂ (λ (a b : ℕ). a * 256 + b) (big_past p n) (get_or-drop gap s (p + n) 0 ∙ ap (byte s) sum)

  -- the entries of an index
  pub entries_past : (w n p at end : ℕ) → entries_from (drop gap s) w n p at end ≡ entries_from s w n (gap + p) at end
  unfolding entries_from
  entries_past w zero p at end = refl
  entries_past w (suc n) p at end =
      let start = big_past p 4 in
      let size : big (drop gap s) (p + 4) w ≡ big s (gap + p + 4) w
      = big_past (p + 4) w ∙ ap (λ (x : ℕ). big s x w) (omega arith) in
      let place : gap + (p + (4 + w)) ≡ gap + p + (4 + w) = omega arith in
      let later
      =
      entries_past w n (p + (4 + w)) (at + big (drop gap s) (p + 4) w) end
      ∙ (λ i. entries_from s w n (place i) (at + size i) end) in
      λ i. guard (eqb (start i) at) 18 0 >>= (λ u. later i >>= (λ ns. fine (size i ∷ ns)))

-- bytes that are as many and end alike, from where the messages end on, have the same trailer and index
module _ (s t : List ℕ) (gap : ℕ) (long : length s ≡ length t) (alike : drop gap s ≡ drop gap t) where
  big_same : (p n : ℕ) → gap ≤ p → big s p n ≡ big t p n
  big_same p n h =
      let there : gap + (p - gap) ≡ p = omega arith in
      ap (λ (x : ℕ). big s x n) (sym there)
      ∙ sym (big_past s gap (p - gap) n)
      ∙ ap (λ (l : List ℕ). big l (p - gap) n) alike
      ∙ big_past t gap (p - gap) n
      ∙ ap (λ (x : ℕ). big t x n) there

  entries_same : (w n p at end : ℕ) → gap ≤ p → entries_from s w n p at end ≡ entries_from t w n p at end
  entries_same w n p at end h =
      let there : gap + (p - gap) ≡ p = omega arith in
      ap (λ (x : ℕ). entries_from s w n x at end) (sym there)
      ∙ sym (entries_past s gap w n (p - gap) at end)
      ∙ ap (λ (l : List ℕ). entries_from l w n (p - gap) at end) alike
      ∙ entries_past t gap w n (p - gap) at end
      ∙ ap (λ (x : ℕ). entries_from t w n x at end) there

  trailer_same : gap + trailer_size ≤ length s → trailer s ≡ trailer t
  unfolding trailer
  trailer_same h =
      let at = length s - trailer_size in
      let number = big_same (at + 8) 2 (omega arith) in
      let place = big_same at 4 (omega arith) in
      let entries = big_same (at + 4) 4 (omega arith) in
      (λ i. guard (leb trailer_size (length s)) 18 0 >> trailer_from (number i) (place i) (entries i) at)
      ∙ ap (λ (n : ℕ). guard (leb trailer_size n) 18 0 >> trailer_at t (n - trailer_size)) long

pub index_same : (s t : List ℕ) (i : Index) → length s ≡ length t → drop (total i.lengths) s ≡ drop (total i.lengths) t
    → index s ≡ fine i → index t ≡ fine i
unfolding index
index_same s t i long alike q =
    let a = bind_fine (trailer s) _ q in
    let x = a.0 in
    let f = trailer_says s x a.1 in
    let fills = f.fills in
    let w = x.edition.length_bytes in
    let b = bind_fine (entries_from s w x.entries x.place 0 x.place) _ a.2 in
    let many = entries_many s w x.entries x.place 0 x.place b.0 b.1 in
    let lengths : b.0 ≡ i.lengths = ap (λ (y : Index). y.lengths) (fine_eq b.2) in
    let place : total i.lengths ≡ x.place = ap total (sym lengths) ∙ sym (zero-add (total b.0)) ∙ many.1 in
    let gap = total i.lengths in
    let fits : gap + trailer_size ≤ length s = below x.place (entry_size x.edition * x.entries) (length s) place fills in
    simp (sym (trailer_same s t gap long alike fits) ∙ a.1, sym (entries_same s t gap long alike w x.entries x.place 0 x.place (omega arith)) ∙ b.1)
    b.2
  where
    below : {gap : ℕ} (p n l : ℕ) → gap ≡ p → p + n + trailer_size ≡ l → gap + trailer_size ≤ l
    below p n l e f = omega arith

-- what is wanted is not there
abbrev is_wanted : {A : Type 0} → Reached A → Type 0
is_wanted (there a) = ⊥
is_wanted (wanted w) = Unit {0}

apart : {A : Type 0} {w : ℕ} {a : A} → there a ≡ wanted w → ⊥
apart {A} e = subst (λ (x : Reached A). is_wanted x) (sym e) tt

wanted_same : {A : Type 0} {u v : ℕ} → ◌≡◌ {A = Reached A} (wanted u) (wanted v) → u ≡ v
wanted_same e = cc

-- the trailer of a file, in its last bytes
trailer_in_lem : (s : List ℕ) (gap : ℕ) → gap + trailer_size ≤ length s → trailer_in (length s) (drop gap s) ≡ trailer s
unfolding trailer_in trailer
trailer_in_lem s gap h =
    let at = length (drop gap s) - trailer_size in
    let here : gap + at ≡ length s - trailer_size = omega (arith, length-drop gap s) in
    let number : big (drop gap s) (at + 8) 2 ≡ big s (length s - trailer_size + 8) 2
    = big_past s gap (at + 8) 2 ∙ ap (λ (x : ℕ). big s x 2) (omega arith) in
    let place : big (drop gap s) at 4 ≡ big s (length s - trailer_size) 4
    = big_past s gap at 4 ∙ ap (λ (x : ℕ). big s x 4) here in
    let entries : big (drop gap s) (at + 4) 4 ≡ big s (length s - trailer_size + 4) 4
    = big_past s gap (at + 4) 4 ∙ ap (λ (x : ℕ). big s x 4) (omega arith) in
    (λ i. trailer_from (number i) (place i) (entries i) (length s - trailer_size))
    ∙ sym (simp (le-leb trailer_size (length s) (omega arith)))

-- what comes of the last bytes of a file, `had` of them: what the whole file says, or more of them are wanted, no more
-- than the file has nor than the longest tail
pub data Comes (s : List ℕ) (had : ℕ) : Answer (Reached Index) → Type 0 where
  whole : {i : Index} → index s ≡ fine i → Comes s had (fine (there i))
  stopped : {k p : ℕ} → index s ≡ refused k p → Comes s had (refused k p)
  short : {w : ℕ} → had < w → w ≤ length s → w ≤ 32778 → Comes s had (fine (wanted w))

module _ (s : List ℕ) (gap : ℕ) (h : gap ≤ length s) where
  abbrev tail : List ℕ
  tail = drop gap s

  long : length tail ≡ length s - gap
  long = length-drop gap s

  comes : {a b : Answer (Reached Index)} → a ≡ b → Comes s (length s - gap) b → Comes s (length s - gap) a
  comes e c = subst (λ (x : Answer (Reached Index)). Comes s (length s - gap) x) (sym e) c

  -- the trailer is right
  module _ (file : trailer_size ≤ length s) (room : trailer_size ≤ length tail) (t : Trailer) (is : trailer s ≡ fine t) where
    read : trailer_in (length s) tail ≡ fine t
    read = trailer_in_lem s gap (let e = long in omega arith) ∙ is

    fills : t.place + entry_size t.edition * t.entries + trailer_size ≡ length s
    fills = (trailer_says s t is).fills

    size : entry_size t.edition * t.entries ≤ 32768
    unfolding most_messages
    size =
        let narrow = (trailer_says s t is).row.narrow in
        mul-le-mul {n₁ = entry_size t.edition} {m₁ = t.entries} {n₂ = 8} {m₂ = most_messages} (omega arith)
        (trailer_says s t is).few

    wants : length tail < length s - t.place → Comes s (length s - gap) (fine (wanted (length s - t.place)))
    unfolding trailer_size
    wants l = go (entry_size t.edition * t.entries) fills size
      where
        go : (x : ℕ) → t.place + x + trailer_size ≡ length s → x ≤ 32768
            → Comes s (length s - gap) (fine (wanted (length s - t.place)))
        go x e f = let z = long in short {w = length s - t.place} (omega arith) (omega arith) (omega arith)

    -- and its entries are there
    module _ (reach : length s - t.place ≤ length tail) where
      from : gap + (length tail - (length s - t.place)) ≡ t.place
      from = go (entry_size t.edition * t.entries) fills
        where
          go : (x : ℕ) → t.place + x + trailer_size ≡ length s → gap + (length tail - (length s - t.place)) ≡ t.place
          go x e = let z = long in omega arith

      abbrev listed : Answer (List ℕ)
      listed = entries_from s t.edition.length_bytes t.entries t.place 0 t.place

      same : entries_from tail t.edition.length_bytes t.entries (length tail - (length s - t.place)) 0 t.place ≡ listed
      same =
          entries_past s gap t.edition.length_bytes t.entries (length tail - (length s - t.place)) 0 t.place
          ∙ ap (λ (p : ℕ). entries_from s t.edition.length_bytes t.entries p 0 t.place) from

      lists : Comes s (length s - gap) (entries_in (length s) tail t)
      unfolding entries_in index
      lists = go listed refl
        where
          go : (a : Answer (List ℕ)) → listed ≡ a → Comes s (length s - gap) (entries_in (length s) tail t)
          go (fine ns) e = comes (simp (same ∙ e)) (whole {i = record { edition = t.edition; lengths = ns }} (simp (is, e)))
          go (refused k p) e = comes (simp (same ∙ e)) (stopped {k = k} {p = p} (simp (is, e)))

  after : trailer_size ≤ length s → trailer_size ≤ length tail → (t : Trailer) → trailer s ≡ fine t → (b : Bool)
      → leb (length s - t.place) (length tail) ≡ b
      → Comes s (length s - gap) (enough_or b (length s - t.place) (λ v. entries_in (length s) tail t))
  after f r t is true e = lists f r t is (leb-true _ _ e)
  after f r t is false e = wants f r t is (leb-false _ _ e)

  trailed : trailer_size ≤ length s → trailer_size ≤ length tail → (a : Answer Trailer) → trailer s ≡ a
      → Comes s (length s - gap)
      (a >>= (λ t. enough_or (leb (length s - t.place) (length tail)) (length s - t.place) (λ v. entries_in (length s) tail t)))
  unfolding index
  trailed f r (fine t) is = after f r t is (leb (length s - t.place) (length tail)) refl
  trailed f r (refused k p) is = stopped {k = k} {p = p} (simp is)

  ends : leb (length tail) (length s) ≡ true
  ends = let e = long in le-leb (length tail) (length s) (omega arith)

  room : trailer_size ≤ length s → (b : Bool) → leb trailer_size (length tail) ≡ b → Comes s (length s - gap) (index_in (length s) tail)
  unfolding index_in trailer_size
  room f false e =
      let few = leb-false trailer_size (length tail) e in
      let z = long in
      comes (simp (le-leb trailer_size (length s) f, ends, e)) (short {w = trailer_size} (omega arith) (omega arith) (omega arith))
  room f true e =
      let some = leb-true trailer_size (length tail) e in
      let z = long in
      let fits : gap + trailer_size ≤ length s = omega arith in
      comes (simp (le-leb trailer_size (length s) f, ends, e, trailer_in_lem s gap fits)) (trailed f some (trailer s) refl)

  pub tail_comes : Comes s (length s - gap) (index_in (length s) tail)
  unfolding index_in index trailer
  tail_comes = file (leb trailer_size (length s)) refl
    where
      file : (b : Bool) → leb trailer_size (length s) ≡ b → Comes s (length s - gap) (index_in (length s) tail)
      file false e = comes (simp e) (stopped {k = 18} {p = 0} (simp e))
      file true e = room (leb-true trailer_size (length s) e) (leb trailer_size (length tail)) refl

  -- once the trailer is had, as many are wanted as there are from the first entry on
  pub record Wants (w : ℕ) : Type 0 where
    pub trailed : Trailer
    pub is : trailer s ≡ fine trailed
    pub from-there : length s - trailed.place ≡ w

  pub tail_wants : {w : ℕ} → trailer_size ≤ length tail → index_in (length s) tail ≡ fine (wanted w) → Wants w
  unfolding index_in entries_in
  tail_wants {w} r q =
      let z = long in
      let file : trailer_size ≤ length s = omega arith in
      let judged
      : index_in (length s) tail
      ≡ (trailer s
      >>= (λ t. enough_or (leb (length s - t.place) (length tail)) (length s - t.place) (λ v. entries_in (length s) tail t)))
      = simp (le-leb trailer_size (length s) file, ends, le-leb trailer_size (length tail) r, trailer_in_lem s gap (omega arith)) in
      read (trailer s) refl (sym judged ∙ q)
    where
      entries : (t : Trailer) (a : Answer (List ℕ))
          → ◌>>=◌ {B = Reached Index} a (λ ns. fine (there (record { edition = t.edition; lengths = ns }))) ≡ fine (wanted w) → ⊥
      entries t (fine ns) e = apart (fine_eq e)
      entries t (refused k p) e = not_fine e

      reads : (t : Trailer) → trailer s ≡ fine t → (b : Bool)
          → enough_or b (length s - t.place) (λ v. entries_in (length s) tail t) ≡ fine (wanted w) → Wants w
      reads t is true e =
          absurd
          (entries t (entries_from tail t.edition.length_bytes t.entries (length tail - (length s - t.place)) 0 t.place) e)
      reads t is false e = record { trailed = t; is = is; from-there = wanted_same (fine_eq e) }

      read : (a : Answer Trailer) → trailer s ≡ a
          → (a >>= (λ t. enough_or (leb (length s - t.place) (length tail)) (length s - t.place) (λ v. entries_in (length s) tail t)))
          ≡ fine (wanted w) → Wants w
      read (fine t) is e = reads t is (leb (length s - t.place) (length tail)) e
      read (refused k p) is e = absurd (not_fine e)

-- of a file that is had whole, the answer is the index's, and nothing is wanted
module _ (s : List ℕ) where
  abbrev Whole : Answer (Reached J.Trailer) → Type 0
  Whole (fine (there t)) = fine t ≡ summed (index s)
  Whole (fine (wanted w)) = ⊥
  Whole (refused k p) = refused k p ≡ summed (index s)

  pub whole_comes : (a : Answer (Reached J.Trailer)) → a ≡ summed_in (index_in (length s) s) → Whole a
  whole_comes a e = subst Whole (sym e) (go (tail_comes s 0 zero-le))
    where
      go : {x : Answer (Reached Index)} → Comes s (length s - 0) x → Whole (summed_in x)
      go (whole q) = sym (ap summed q)
      go (stopped q) = sym (ap summed q)
      go (short a b c) = absurd (omega arith)

  pub whole_wants : {w : ℕ} → fine (wanted w) ≡ summed_in (index_in (length s) s) → ⊥
  whole_wants {w} e = whole_comes (fine (wanted w)) e
