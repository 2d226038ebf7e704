-- What a right trailer and index say: as many lengths as entries, which come to the index's place, and each entry
-- states its own start and length.
use Prim.Native.Nat.{ℕ, zero, suc, ◌+◌, ◌-◌, ◌*◌, ◌≤◌, ◌<◌}
use mathlib.Core.Path.{◌≡◌, refl, ap, sym, ◌∙◌, subst}
use mathlib.Core.List.{List, [], ◌∷◌}
use native.Mathlib.Omega.{arith}
use native.Mathlib.Nat.{mul-suc, mul-zero, add-zero, zero-add, not-suc-le-zero}
use lib.ListN.{length, take, get_or}
use lib.Dec.{leb, eqb}
use borrow.Author.Tests.{leb-true, eqb-true}
use Rattle.sim0mq.specs.Answer.{fine, big}
use Rattle.sim0mq.proofs.Answers.{guarded, guarded_bind, bind_fine, fine_eq}
use Rattle.dividing.specs.Run.{total}
use Rattle.recordings_format.specs.Edition.{edition_of, entry_size, most_messages, trailer_size}
use Rattle.recordings_format.specs.Judge.{Trailer, trailer_from, trailer, entries_from, Index, index}
use Rattle.recordings_format.proofs.EditionLaws.{Row, found_row}

-- the entries of an index
module _ (s : List ℕ) (w : ℕ) where
  -- the first entry, and the others
  pub record First (n p at end : ℕ) (ns : List ℕ) : Type 0 where
    pub start : big s p 4 ≡ at
    pub others : List ℕ
    pub all : big s (p + 4) w ∷ others ≡ ns
    pub rest : entries_from s w n (p + (4 + w)) (at + big s (p + 4) w) end ≡ fine others

  pub entries_first : (n p at end : ℕ) (ns : List ℕ) → entries_from s w (suc n) p at end ≡ fine ns → First n p at end ns
  unfolding entries_from
  entries_first n p at end ns q =
      let g = guarded_bind (eqb (big s p 4) at) _ _ _ q in
      let size = big s (p + 4) w in
      let b = bind_fine (entries_from s w n (p + (4 + w)) (at + size) end) _ g.1 in
      record { start = eqb-true (big s p 4) at g.0; others = b.0; all = fine_eq b.2; rest = b.1 }

  pub entries_none : (p at end : ℕ) (ns : List ℕ) → entries_from s w 0 p at end ≡ fine ns → (at ≡ end) × ([] ≡ ns)
  unfolding entries_from
  entries_none p at end ns q = let g = guarded (eqb at end) _ _ _ q in (eqb-true at end g.0, fine_eq g.1)

  -- as many lengths as entries, and they reach the end
  pub entries_many : (n p at end : ℕ) (ns : List ℕ) → entries_from s w n p at end ≡ fine ns
      → (length ns ≡ n) × (at + total ns ≡ end)
  unfolding total
  entries_many zero p at end ns q =
      let g = entries_none p at end ns q in
      let h = g.0 in
      subst (λ (l : List ℕ). (length l ≡ 0) × (at + total l ≡ end)) g.1 (refl, omega arith)
  entries_many (suc n) p at end ns q =
      let f = entries_first n p at end ns q in
      let size = big s (p + 4) w in
      let r = entries_many n (p + (4 + w)) (at + size) end f.others f.rest in
      let many = r.0 in
      let sum = r.1 in
      subst (λ (l : List ℕ). (length l ≡ suc n) × (at + total l ≡ end)) f.all (omega arith, omega arith)

  -- entry k states its start and its length
  pub record Nth (p at : ℕ) (ns : List ℕ) (k : ℕ) : Type 0 where
    pub start : big s (p + (4 + w) * k) 4 ≡ at + total (take k ns)
    pub size : big s (p + (4 + w) * k + 4) w ≡ get_or ns k 0

  pub entries_nth : (n p at end : ℕ) (ns : List ℕ) (k : ℕ) → entries_from s w n p at end ≡ fine ns → k < n → Nth p at ns k
  unfolding total
  entries_nth zero p at end ns k q h = absurd (not-suc-le-zero h)
  entries_nth (suc n) p at end ns zero q h =
      let f = entries_first n p at end ns q in
      let here : p + (4 + w) * 0 ≡ p = ap (λ (x : ℕ). p + x) (mul-zero ((4 + w))) ∙ add-zero p in
      subst (λ (l : List ℕ). Nth p at l 0) f.all
      (record {
        start = ap (λ (x : ℕ). big s x 4) here ∙ f.start ∙ sym (add-zero at);
        size = ap (λ (x : ℕ). big s (x + 4) w) here;
      })
  entries_nth (suc n) p at end ns (suc k) q h =
      let f = entries_first n p at end ns q in
      let size = big s (p + 4) w in
      let r = entries_nth n (p + (4 + w)) (at + size) end f.others k f.rest (omega arith) in
      let there : p + (4 + w) * suc k ≡ p + (4 + w) + (4 + w) * k = omega (arith, mul-suc ((4 + w)) k) in
      let sum : at + size + total (take k f.others) ≡ at + (size + total (take k f.others)) = omega arith in
      subst (λ (l : List ℕ). Nth p at l (suc k)) f.all
      (record {
        start = ap (λ (x : ℕ). big s x 4) there ∙ r.start ∙ sum;
        size = ap (λ (x : ℕ). big s (x + 4) w) there ∙ r.size;
      })

-- message k and those before it are no more than all
pub total_nth : (ns : List ℕ) (k : ℕ) → k < length ns → total (take k ns) + get_or ns k 0 ≤ total ns
unfolding total
total_nth [] k h = absurd (not-suc-le-zero h)
total_nth (n ∷ ns) zero h = omega arith
total_nth (n ∷ ns) (suc k) h = let e = total_nth ns k (omega arith) in omega arith

-- one message more
pub total_more : (ns : List ℕ) (k : ℕ) → k < length ns → total (take (suc k) ns) ≡ total (take k ns) + get_or ns k 0
unfolding total
total_more [] k h = absurd (not-suc-le-zero h)
total_more (n ∷ ns) zero h = omega arith
total_more (n ∷ ns) (suc k) h = omega (arith, total_more ns k (omega arith))

-- a trailer that is right, and begins at `at`
pub record TrailerOf (at : ℕ) (t : Trailer) : Type 0 where
  pub row : Row t.edition
  pub few : t.entries ≤ most_messages
  pub fills : t.place + entry_size t.edition * t.entries ≡ at

pub numbers_say : (number place entries at : ℕ) (t : Trailer) → trailer_from number place entries at ≡ fine t → TrailerOf at t
unfolding trailer_from
numbers_say number place entries at t q =
    let a = bind_fine (edition_of number) _ q in
    let e = a.0 in
    let b = guarded (leb entries most_messages) _ _ _ a.2 in
    let c = guarded (eqb (place + entry_size e * entries) at) _ _ _ b.1 in
    subst (λ (x : Trailer). TrailerOf at x) (fine_eq c.1)
    (record { row = found_row number e a.1; few = leb-true _ _ b.0; fills = eqb-true _ _ c.0 })

-- it is the last bytes
pub record TrailerSays (s : List ℕ) (t : Trailer) : Type 0 where
  pub row : Row t.edition
  pub few : t.entries ≤ most_messages
  pub fills : t.place + entry_size t.edition * t.entries + trailer_size ≡ length s

pub trailer_says : (s : List ℕ) (t : Trailer) → trailer s ≡ fine t → TrailerSays s t
unfolding trailer
trailer_says s t q =
    let at = length s - trailer_size in
    let z = guarded (leb trailer_size (length s)) _ _ _ q in
    let long : trailer_size ≤ length s = leb-true trailer_size (length s) z.0 in
    let f = numbers_say (big s (at + 8) 2) (big s at 4) (big s (at + 4) 4) at t z.1 in
    let fills = f.fills in
    record { row = f.row; few = f.few; fills = omega arith }

-- trailer and index that are right: the lengths are not too many, their entries and the trailer fill what follows the
-- messages, and the entries state them
pub record Indexed (s : List ℕ) (i : Index) : Type 0 where
  pub row : Row i.edition
  pub few : length i.lengths ≤ most_messages
  pub fills : total i.lengths + entry_size i.edition * length i.lengths + trailer_size ≡ length s
  pub states : entries_from s i.edition.length_bytes (length i.lengths) (total i.lengths) 0 (total i.lengths) ≡ fine i.lengths

pub index_says : (s : List ℕ) (i : Index) → index s ≡ fine i → Indexed s i
unfolding index
index_says s i q =
    let a = bind_fine (trailer s) _ q in
    let t = a.0 in
    let e = t.edition in
    let f = trailer_says s t a.1 in
    let c = bind_fine (entries_from s e.length_bytes t.entries t.place 0 t.place) _ a.2 in
    let ns = c.0 in
    let m = entries_many s e.length_bytes t.entries t.place 0 t.place ns c.1 in
    let many : t.entries ≡ length ns = sym m.0 in
    let place : t.place ≡ total ns = sym m.1 ∙ zero-add (total ns) in
    let few = f.few in
    subst (λ (x : Index). Indexed s x) (fine_eq c.2)
    (record {
      row = f.row;
      few = omega arith;
      fills = sym (λ j. place j + entry_size e * many j + trailer_size) ∙ f.fills;
      states = sym (λ j. entries_from s e.length_bytes (many j) (place j) 0 (place j)) ∙ c.1;
    })
