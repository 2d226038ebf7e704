-- Whatever is opened is a recording: the index and the trailer are the bytes that their numbers are written in, and
-- they leave nothing out.
use Prim.Native.Nat.{ℕ, zero, suc, ◌+◌, ◌-◌, ◌*◌, ◌<◌, ◌≤◌, ◌^◌}
use mathlib.Core.Path.{◌≡◌, refl, ap, ap₂, sym, ◌∙◌, subst}
use mathlib.Core.List.{List, [], ◌∷◌, ◌++◌, map}
use native.Mathlib.Omega.{arith}
use native.Mathlib.Nat.{mul-suc}
use lib.ListN.{length, take, drop, length-append, length-map}
use lib.Seq.{take_at}
use lib.Dec.{leb, eqb}
use borrow.Author.Tests.{leb-true, eqb-true}
use Rattle.sim0mq.specs.Answer.{fine, part_at, big}
use Rattle.sim0mq.specs.Message.{no_table, message}
use Rattle.sim0mq.specs.Allowed.{Each, none, more, joined}
use Rattle.sim0mq.proofs.Answers.{guarded, guarded_bind, bind_fine, part_fine, fine_eq}
use Rattle.sim0mq.proofs.Stands.{Stands, stands_to, stands_nil, stands_join, stands_self, stands_same, part, stands_part, part_back}
use Rattle.sim0mq_numbers.specs.Bytes.{big_bytes}
use Rattle.sim0mq_numbers.proofs.ByteLaws.{bytes_back, big_fits}
use Rattle.writing_puts.proofs.PlaceLaws.{big_length}
use Rattle.dividing.specs.Front.{Taken}
use Rattle.dividing.specs.Run.{stretches, total}
use Rattle.dividing.proofs.RunLaws.{stretches_joined}
use Rattle.recordings_format.specs.Edition.{Edition, editions, Listed, edition_of, entry_size, most_messages, trailer_size}
use Rattle.recordings_format.specs.Text.{entry_text, index_text, trailer_text, tail_text, IsRecording, HasTail}
use Rattle.recordings_format.specs.Judge.{Trailer, trailer_from, trailer_at, trailer, entries_from, Index, index, stretch, stretches_from, roomy, opening}
use Rattle.recordings_format.specs.Promises.{Bytes}
use Rattle.recordings_format.proofs.EditionLaws.{found_listed}
use Rattle.recordings_format.proofs.TextLaws.{entry_long, index_long, tail_long}

-- the n bytes at a place stand there
taken_stands : (s : List ℕ) (at n : ℕ) → at + n ≤ length s → (length (take n (drop at s)) ≡ n) × Stands s at (take n (drop at s))
taken_stands s at n h =
    let p = stands_part s at n h in
    let e : part s at n ≡ take n (drop at s) = sym (part_back (part s at n) p.1) ∙ ap (λ (k : ℕ). take k (drop at s)) p.0 in
    subst (λ (l : List ℕ). (length l ≡ n) × Stands s at l) e p

-- stretches that lie in s have these lengths
pub stretches_long : (s : List ℕ) (at : ℕ) (ns : List ℕ) → at + total ns ≤ length s → map length (stretches s at ns) ≡ ns
unfolding stretches total
stretches_long s at [] h = refl
stretches_long s at (n ∷ ns) h =
    ap₂ ◌∷◌ (taken_stands s at n (omega arith)).0 (stretches_long s (at + n) ns (omega arith))

pub stretches_sound : (most : ℕ) (s : List ℕ) (at : ℕ) (ns : List ℕ) {u : Unit {0}} → stretches_from most s at ns ≡ fine u
    → Each (Taken most) (stretches s at ns)
unfolding stretches_from stretch stretches
stretches_sound most s at [] q = none
stretches_sound most s at (n ∷ ns) q =
    let a = bind_fine (part_at at (message most no_table (take n (drop at s)))) _ q in
    more (a.0, part_fine at _ a.1) (stretches_sound most s (at + n) ns a.2)

module _ (s : List ℕ) (bytes : Bytes s) where
  number_stands : (at n : ℕ) → at + n ≤ length s → Stands s at (big_bytes n (big s at n))
  number_stands at n h = subst (λ (l : List ℕ). Stands s at l) (sym (bytes_back s bytes n at h)) (taken_stands s at n h).1

  entries_sound : (e : Edition) (n p at end : ℕ) (ns : List ℕ) → p + entry_size e * n ≤ length s
      → entries_from s e.length_bytes n p at end ≡ fine ns
      → (length ns ≡ n)
      × (at + total ns ≡ end)
      × Each (λ k. k < 2 ^ (8 * e.length_bytes)) ns
      × Stands s p (index_text e at ns)
  unfolding entries_from index_text total
  entries_sound e zero p at end ns h q =
      let g = guarded (eqb at end) _ _ _ q in
      let nothing : [] ≡ ns = fine_eq g.1 in
      subst
      (λ (l : List ℕ).
      (length l ≡ 0) × (at + total l ≡ end) × Each (λ k. k < 2 ^ (8 * e.length_bytes)) l × Stands s p (index_text e at l))
      nothing
      (refl, omega (arith, eqb-true at end g.0), none, stands_nil (omega arith))
  entries_sound e (suc n) p at end ns h q =
      let size = big s (p + 4) e.length_bytes in
      let g = guarded_bind (eqb (big s p 4) at) _ _ _ q in
      let start : big s p 4 ≡ at = eqb-true (big s p 4) at g.0 in
      let b = bind_fine (entries_from s e.length_bytes n (p + entry_size e) (at + size) end) _ g.1 in
      let fits : p + entry_size e + entry_size e * n ≤ length s = omega (arith, mul-suc (entry_size e) n) in
      let others = entries_sound e n (p + entry_size e) (at + size) end b.0 fits b.1 in
      let many = others.0 in
      let tiles = others.1 in
      let first : Stands s p (big_bytes 4 at)
      = subst (λ (x : ℕ). Stands s p (big_bytes 4 x)) start (number_stands p 4 (omega arith)) in
      let second : Stands s (p + length (big_bytes 4 at)) (big_bytes e.length_bytes size)
      =
      stands_to (p + length (big_bytes 4 at)) (omega (arith, big_length 4 at))
      (number_stands (p + 4) e.length_bytes (omega arith)) in
      let entry : Stands s p (entry_text e at size)
      = stands_join (big_bytes 4 at) (big_bytes e.length_bytes size) first second in
      let rest : Stands s (p + length (entry_text e at size)) (index_text e (at + size) b.0)
      = stands_to (p + length (entry_text e at size)) (omega (arith, entry_long e at size)) others.3 in
      subst
      (λ (l : List ℕ).
      (length l ≡ suc n)
      × (at + total l ≡ end)
      × Each (λ k. k < 2 ^ (8 * e.length_bytes)) l
      × Stands s p (index_text e at l))
      (fine_eq b.2) (
        omega arith,
        omega arith,
        more (big_fits s bytes e.length_bytes (p + 4)) others.2,
        stands_join (entry_text e at size) (index_text e (at + size) b.0) entry rest,
      )

  record FoundTrailer (at : ℕ) (t : Trailer) : Type 0 where
    pub listed : Listed t.edition editions
    pub few : t.entries ≤ most_messages
    pub fits : t.place < 2 ^ (8 * 4)
    pub fills : t.place + entry_size t.edition * t.entries ≡ at
    pub there : Stands s at (trailer_text t.edition t.place t.entries)

  trailer_sound : (at : ℕ) (t : Trailer) → at + trailer_size ≤ length s → trailer_at s at ≡ fine t → FoundTrailer at t
  unfolding trailer_from trailer_size
  trailer_sound at t h q =
      let a = bind_fine (edition_of (big s (at + 8) 2)) _ q in
      let e = a.0 in
      let b = guarded (leb (big s (at + 4) 4) most_messages) _ _ _ a.2 in
      let c = guarded (eqb (big s at 4 + entry_size e * big s (at + 4) 4) at) _ _ _ b.1 in
      let r = found_listed (big s (at + 8) 2) e a.1 in
      let place = big s at 4 in
      let n = big s (at + 4) 4 in
      let number : Stands s (at + 8) (big_bytes 2 e.number)
      =
      subst (λ (x : ℕ). Stands s (at + 8) (big_bytes 2 x)) (sym r.1) (number_stands (at + 8) 2 (omega arith)) in
      let count : Stands s (at + 4) (big_bytes 4 n ++ big_bytes 2 e.number)
      =
      stands_join (big_bytes 4 n) (big_bytes 2 e.number) (number_stands (at + 4) 4 (omega arith))
      (stands_to (at + 4 + length (big_bytes 4 n)) (omega (arith, big_length 4 n)) number) in
      let whole : Stands s at (trailer_text e place n)
      =
      stands_join (big_bytes 4 place) (big_bytes 4 n ++ big_bytes 2 e.number) (number_stands at 4 (omega arith))
      (stands_to (at + length (big_bytes 4 place)) (omega (arith, big_length 4 place)) count) in
      subst (λ (x : Trailer). FoundTrailer at x) (fine_eq c.1)
      (record {
        listed = r.0;
        few = leb-true _ _ b.0;
        fits = big_fits s bytes 4 at;
        fills = eqb-true _ _ c.0;
        there = whole;
      })

  -- trailer and index are the tail of some bytes
  pub index_sound : (i : Index) → index s ≡ fine i → HasTail i.edition i.lengths s
  unfolding index trailer
  index_sound i q =
      let a = bind_fine (trailer s) _ q in
      let t = a.0 in
      let e = t.edition in
      let b = guarded (leb trailer_size (length s)) _ _ _ a.1 in
      let h : trailer_size ≤ length s = leb-true trailer_size (length s) b.0 in
      let at = length s - trailer_size in
      let f = trailer_sound at t (omega arith) b.1 in
      let fills = f.fills in
      let few = f.few in
      let fits = f.fits in
      let c = bind_fine (entries_from s e.length_bytes t.entries t.place 0 t.place) _ a.2 in
      let ns = c.0 in
      let g = entries_sound e t.entries t.place 0 t.place ns (omega arith) c.1 in
      let many = g.0 in
      let place : t.place ≡ total ns = let tiles = g.1 in omega arith in
      let ix = index_text e 0 ns in
      let tr = trailer_text e (total ns) (length ns) in
      let last : Stands s at tr
      =
      subst (λ (n : ℕ). Stands s at (trailer_text e (total ns) n)) (sym many)
      (subst (λ (p : ℕ). Stands s at (trailer_text e p t.entries)) place f.there) in
      let sized : entry_size e * length ns ≡ entry_size e * t.entries = ap (λ (k : ℕ). entry_size e * k) many in
      let tail : Stands s (total ns) (ix ++ tr)
      =
      stands_join ix tr (stands_to (total ns) place g.3)
      (stands_to (total ns + length ix) (omega (arith, index_long e 0 ns)) last) in
      let front = taken_stands s 0 (total ns) (omega arith) in
      subst (λ (x : Index). HasTail x.edition x.lengths s) (fine_eq c.2)
      (record {
        listed = f.listed;
        few = omega arith;
        lengths_fit = g.2;
        places_fit = omega arith;
        front = take (total ns) (drop 0 s);
        long = front.0;
        whole = joined-whole (take (total ns) (drop 0 s)) (ix ++ tr) (total ns) front.0 front.1 tail (omega (arith, tail_long e ns));
      })
    where
      -- two texts that stand end to end and are as long as s are s
      joined-whole : (a b : List ℕ) (n : ℕ) → length a ≡ n → Stands s 0 a → Stands s n b → n + length b ≡ length s → a ++ b ≡ s
      joined-whole a b n long left right all =
          stands_same (a ++ b) s (omega (arith, length-append a b))
          (stands_join a b left (stands_to (0 + length a) (omega arith) right)) (stands_self s)

  -- messages that are the stretches before such a tail are a recording
  tail_recording : (i : Index) {u : Unit {0}} → HasTail i.edition i.lengths s
      → stretches_from i.edition.most s 0 i.lengths ≡ fine u
      → IsRecording i.edition (stretches s 0 i.lengths) s
  tail_recording i f r =
      let ns = i.lengths in
      let e = i.edition in
      let ms = stretches s 0 ns in
      let front = f.front in
      let fits : 0 + total ns ≤ length s = omega (arith, ap length f.whole, length-append front (tail_text e ns), f.long) in
      let lengths : map length ms ≡ ns = stretches_long s 0 ns fits in
      let same : joined ms ≡ front
      =
      stretches_joined s 0 ns
      ∙ ap (take (total ns)) (sym f.whole)
      ∙ take_at front (tail_text e ns) (total ns) f.long in
      record {
        listed = f.listed;
        each = stretches_sound e.most s 0 ns r;
        few = let few = f.few in omega (arith, ap length lengths, length-map ms length);
        whole = ap₂ (λ (a : List ℕ) (l : List ℕ). a ++ tail_text e l) same lengths ∙ f.whole;
      }

  pub opening_sound : (i : Index) → opening no_table s ≡ fine i → IsRecording i.edition (stretches s 0 i.lengths) s
  unfolding opening roomy
  opening_sound i q =
      let a = bind_fine (index s) _ q in
      let x = a.0 in
      let b = bind_fine (stretches_from x.edition.most s 0 x.lengths) _ a.2 in
      subst (λ (y : Index). IsRecording y.edition (stretches s 0 y.lengths) s) (fine_eq b.2)
      (tail_recording x (index_sound x a.1) b.1)
