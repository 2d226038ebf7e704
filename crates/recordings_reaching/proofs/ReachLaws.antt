-- What a right trailer and index say by the last bytes of a file: the entries stand in these, and each states the start
-- and the length of its message in the file.
use Prim.Native.Nat.{ℕ, ◌+◌, ◌-◌, ◌*◌, ◌≤◌, ◌<◌}
use mathlib.Core.Path.{◌≡◌, refl, ap, ap₂, sym, ◌∙◌, subst}
use mathlib.Core.Bool.{Bool, true, false}
use mathlib.Core.List.{List}
use native.Mathlib.Omega.{arith}
use native.Mathlib.Nat.{zero-add}
use lib.Dec.{leb}
use lib.ListN.{length, get_or}
use borrow.Author.Tests.{leb-true, le-leb, lt-leb, lt-ltb, le-ltb}
use Rattle.sim0mq.specs.Answer.{Answer, fine, refused}
use Rattle.sim0mq.proofs.Answers.{not_fine, fine_eq, guarded, bind_fine}
use Rattle.dividing.specs.Run.{total}
use Rattle.recordings_format.specs.Edition as E
use Rattle.recordings_format.specs.Edition.{entry_size, most_messages, trailer_size}
use Rattle.recordings_format.specs.Judge as J
use Rattle.recordings_format.specs.Judge.{entries_from, Index}
use Rattle.recordings_format.proofs.EditionLaws.{Row}
use Rattle.recordings_format.proofs.IndexLaws.{numbers_say, entries_many}
use Rattle.recordings_index.specs.Tail.{Reached, there, wanted, enough_or, trailer_in, entries_in, index_in}
use Rattle.recordings_index.specs.Index.{row_of, trailer_as, summed_in, first_entry, entry_at, Trailing}
use Rattle.recordings_index.specs.declared.Trailer.{Trailer}
use Rattle.recordings_index.proofs.EntryCases.{entry_nth}
use Rattle.recordings.specs.Recordings.{entry_in}
use Rattle.recordings_index.specs.declared.Placed.{Placed}
use Rattle.recordings_reaching.specs.Reaching.{placing, asking_in, StatedIn}

there_eq : {A : Type 0} {a b : A} → ◌≡◌ {A = Reached A} (there a) (there b) → a ≡ b
there_eq e = cc

abbrev is_there : {A : Type 0} → Reached A → Type 0
is_there (there a) = Unit {0}
is_there (wanted w) = ⊥

pub not_there : {A : Type 0} {w : ℕ} {a : A} → wanted w ≡ there a → ⊥
not_there {A} e = subst (λ (x : Reached A). is_there x) (sym e) tt

pub wanted_same : {A B : Type 0} {u v : ℕ} → ◌≡◌ {A = Reached A} (wanted u) (wanted v) → ◌≡◌ {A = Reached B} (wanted u) (wanted v)
wanted_same {u = u} {v = v} e = let z : u ≡ v = cc in ap wanted z

-- enough bytes were had
enough_had : {A : Type 0} (b : Bool) (w : ℕ) (go : Unit {0} → Answer (Reached A)) {a : A} → enough_or b w go ≡ fine (there a)
    → (b ≡ true) × (go tt ≡ fine (there a))
enough_had true w go e = (refl, e)
enough_had false w go e = absurd (not_there (fine_eq e))

-- trailer and index that are right
pub record Says (n : ℕ) (tail : List ℕ) (i : Index) : Type 0 where
  pub row : Row i.edition
  pub few : length i.lengths ≤ most_messages
  pub ends : length tail ≤ n
  pub reach : n - total i.lengths ≤ length tail
  pub fills : total i.lengths + entry_size i.edition * length i.lengths + trailer_size ≡ n
  pub states : entries_from tail i.edition.length_bytes (length i.lengths) (length tail - (n - total i.lengths)) 0 (total i.lengths)
      ≡ fine i.lengths

pub index_in_says : (n : ℕ) (tail : List ℕ) (i : Index) → index_in n tail ≡ fine (there i) → Says n tail i
unfolding index_in trailer_in entries_in
index_in_says n tail i q =
    let a = guarded (leb trailer_size n) _ _ _ q in
    let b = guarded (leb (length tail) n) _ _ _ a.1 in
    let c = enough_had (leb trailer_size (length tail)) _ _ b.1 in
    let d = bind_fine (trailer_in n tail) _ c.1 in
    let t = d.0 in
    let f = numbers_say _ _ _ _ t d.1 in
    let g = enough_had (leb (n - t.place) (length tail)) _ _ d.2 in
    let w = t.edition.length_bytes in
    let from = length tail - (n - t.place) in
    let h = bind_fine (entries_from tail w t.entries from 0 t.place) _ g.1 in
    let ns = h.0 in
    let m = entries_many tail w t.entries from 0 t.place ns h.1 in
    let many : t.entries ≡ length ns = sym m.0 in
    let place : t.place ≡ total ns = sym m.1 ∙ zero-add (total ns) in
    let file = leb-true trailer_size n a.0 in
    let size = entry_size t.edition * t.entries in
    let all : t.place + size + trailer_size ≡ n = filled t.place size n file f.fills in
    subst (λ (x : Index). Says n tail x) (there_eq (fine_eq h.2))
    (record {
      row = f.row;
      few = subst (λ (x : ℕ). x ≤ most_messages) many f.few;
      ends = leb-true (length tail) n b.0;
      reach = subst (λ (p : ℕ). n - p ≤ length tail) place (leb-true (n - t.place) (length tail) g.0);
      fills = sym (λ j. place j + entry_size t.edition * many j + trailer_size) ∙ all;
      states = sym (λ j. entries_from tail w (many j) (length tail - (n - place j)) 0 (place j)) ∙ h.1;
    })
  where
    filled : (p x n : ℕ) → trailer_size ≤ n → p + x ≡ n - trailer_size → p + x + trailer_size ≡ n
    filled p x n h e = omega arith

-- what the code found is stated
pub stated_in : (n : ℕ) (tail : List ℕ) {t : Trailer} → fine (there (trailer_as t)) ≡ summed_in (index_in n tail) → StatedIn n tail t
stated_in n tail {t} says = go (index_in n tail) refl (sym says)
  where
    go : (a : Answer (Reached Index)) → index_in n tail ≡ a → summed_in a ≡ fine (there (trailer_as t)) → StatedIn n tail t
    go (fine (there i)) q e = record { found = i; is = q; says = there_eq (fine_eq e) }
    go (fine (wanted v)) q e = absurd (not_there (fine_eq e))
    go (refused k p) q e = absurd (not_fine e)

module _ {n : ℕ} {tail : List ℕ} {t : Trailer} (h : StatedIn n tail t) where
  told : Says n tail h.found
  told = index_in_says n tail h.found h.is

  edition : h.found.edition ≡ row_of t.edition
  edition = ap (λ (x : J.Trailer). x.edition) h.says

  place : total h.found.lengths ≡ t.place
  place = ap (λ (x : J.Trailer). x.place) h.says

  many : length h.found.lengths ≡ t.entries
  many = ap (λ (x : J.Trailer). x.entries) h.says

  fills : t.place + (4 + t.edition.wide) * t.entries + trailer_size ≡ n
  fills = sym (λ i. place i + entry_size (edition i) * many i + trailer_size) ∙ told.fills

  reach : n - t.place ≤ length tail
  reach = subst (λ (p : ℕ). n - p ≤ length tail) place told.reach

  -- the entries stand in these bytes, and are the index's
  trailing : Trailing tail t.edition.wide (first_entry n tail t) t.entries
  trailing =
      record {
        few = subst (λ (m : ℕ). m ≤ most_messages) many told.few;
        narrow = subst (λ (x : E.Edition). x.length_bytes ≤ 4) edition told.row.narrow;
        fills = go ((4 + t.edition.wide) * t.entries) fills reach;
      }
    where
      go : (x : ℕ) → t.place + x + trailer_size ≡ n → n - t.place ≤ length tail
          → length tail - (n - t.place) + x + trailer_size ≡ length tail
      go x e f = omega arith

  states : entries_from tail t.edition.wide t.entries (first_entry n tail t) 0 t.place ≡ fine h.found.lengths
  states =
      sym (λ i. entries_from tail (edition i).length_bytes (many i) (length tail - (n - place i)) 0 (place i)) ∙ told.states

  -- the answers
  module _ (k : ℕ) where
    asked : asking_in n tail k ≡ placing h.found k
    unfolding asking_in
    asked = simp h.is

    pub in-none : t.entries ≤ k → refused 16 0 ≡ asking_in n tail k
    unfolding placing
    in-none e =
        let c = many in sym (asked ∙ simp (le-ltb k (length h.found.lengths) (omega arith)))

    module _ (f : k < t.entries) {m : Placed} (is : m ≡ entry_at n tail t k) where
      named : m ≡ entry_in h.found.lengths k
      named = is ∙ entry_nth n tail t trailing f h.found.lengths states

      most : h.found.edition.most ≡ t.edition.most
      most = ap (λ (x : E.Edition). x.most) edition

      pub in-over : t.edition.most < m.length → refused 8 m.start ≡ asking_in n tail k
      unfolding placing
      in-over l =
          let ns = h.found.lengths in
          let c = many in
          let e = most in
          let size = ap (λ (p : Placed). p.length) named in
          sym
          (asked
          ∙ simp (lt-ltb k (length ns) (omega arith), lt-leb (get_or ns k 0) h.found.edition.most (omega arith))
          (ap (λ (p : Placed). refused 8 p.start) (sym named)))

      pub in-there : m.length ≤ t.edition.most → fine (there (record { start = m.start; size = m.length })) ≡ asking_in n tail k
      unfolding placing
      in-there l =
          let ns = h.found.lengths in
          let c = many in
          let e = most in
          let size = ap (λ (p : Placed). p.length) named in
          sym
          (asked
          ∙ simp (lt-ltb k (length ns) (omega arith), le-leb (get_or ns k 0) h.found.edition.most (omega arith))
          (ap (λ (p : Placed). fine (there (record { start = p.start; size = p.length }))) (sym named)))

-- it is not right, or not reached
module _ (n : ℕ) (tail : List ℕ) (k : ℕ) where
  pub in_wrong : refused 18 0 ≡ summed_in (index_in n tail) → refused 18 0 ≡ asking_in n tail k
  unfolding asking_in
  in_wrong says = go (index_in n tail) refl (sym says)
    where
      go : (a : Answer (Reached Index)) → index_in n tail ≡ a → summed_in a ≡ refused 18 0 → refused 18 0 ≡ asking_in n tail k
      go (fine (there i)) q e = absurd (not_fine (sym e))
      go (fine (wanted v)) q e = absurd (not_fine (sym e))
      go (refused j p) q e =
          let a : 18 ≡ j = cc in let b : 0 ≡ p = cc in ap₂ (λ (x y : ℕ). refused x y) a b ∙ sym (simp q)

  pub in_wanted : {v : ℕ} → fine (wanted v) ≡ summed_in (index_in n tail) → fine (wanted v) ≡ asking_in n tail k
  unfolding asking_in
  in_wanted {v} says = go (index_in n tail) refl (sym says)
    where
      go : (a : Answer (Reached Index)) → index_in n tail ≡ a → summed_in a ≡ fine (wanted v) → fine (wanted v) ≡ asking_in n tail k
      go (fine (there i)) q e = absurd (not_there (sym (fine_eq e)))
      go (fine (wanted u)) q e = ap (λ (x : Reached J.Placed). fine x) (wanted_same (fine_eq (sym e))) ∙ sym (simp q)
      go (refused j p) q e = absurd (not_fine e)
