-- A table is filled message by message: the numbers stored so far are those of the messages so far.
use Prim.Native.Nat.{ℕ, zero, suc, ◌+◌, ◌*◌, ◌≤◌, ◌<◌, zero-le}
use mathlib.Core.Path.{◌≡◌, refl, ap, sym, ◌∙◌}
use mathlib.Core.List.{List, [], ◌∷◌, ◌++◌}
use native.Mathlib.Omega.{arith}
use native.Mathlib.Nat.{not-suc-le-zero, zero-add}
use native.Mathlib.Numerals.{add-one}
use lib.ListN.{length, take, drop, get_or, set, length-set}
use lib.Seq.{take_all, length-take-le}
use Rattle.sim0mq.specs.Table.{placed, stored}
use Rattle.sim0mq_buffers.proofs.PlaceLaws.{placed_byte}
use Rattle.sim0mq.proofs.PlaceLaws.{placed_nothing, placed_length, placed_on}
use Rattle.dividing.specs.Run.{total}
use Rattle.recordings_format.specs.Judge.{index, place_size, places}
use Rattle.recordings_index.specs.declared.Trailer.{Trailer}
use Rattle.recordings.specs.Recordings.{Stated, lengths_in, entry_in, numbers_of, Storable}
use Rattle.recordings_index.specs.declared.Placed.{Placed}
use Rattle.recordings.proofs.StatedLaws.{stated_lengths, stated_many, stated_few}

-- the two numbers of a message, stored one after the other
pub numbers_placed : (old : List ℕ) (k : ℕ) (m : Placed) → place_size * k + place_size ≤ length old
    → set (set old (2 * k) m.start) (2 * k + 1) m.length ≡ placed old (place_size * k) (numbers_of m)
unfolding place_size
numbers_placed old k m h =
    let i = 2 * k in
    placed_byte (set old i m.start) (i + 1) m.length (omega (arith, length-set old i m.start))
    ∙ ap (λ (l : List ℕ). placed l (i + 1) (m.length ∷ [])) (placed_byte old i m.start (omega arith))
    ∙ placed_on old i (m.start ∷ []) (m.length ∷ []) (i + 1) refl (omega arith)

-- two numbers for each message
places_long : (at : ℕ) (ns : List ℕ) → length (places at ns) ≡ place_size * length ns
unfolding places place_size
places_long at [] = refl
places_long at (n ∷ ns) = omega (arith, places_long (at + n) ns)

-- one message more
places_more : (at : ℕ) (ns : List ℕ) (k : ℕ) → k < length ns
    → places at (take (suc k) ns) ≡ places at (take k ns) ++ ((at + total (take k ns)) ∷ get_or ns k 0 ∷ [])
unfolding places total
places_more at [] k h = absurd (not-suc-le-zero h)
places_more at (n ∷ ns) zero h = ap (λ (p : ℕ). p ∷ n ∷ []) (omega arith)
places_more at (n ∷ ns) (suc k) h =
    let sum : at + n + total (take k ns) ≡ at + (n + total (take k ns)) = omega arith in
    ap (λ (l : List ℕ). at ∷ n ∷ l)
    (places_more (at + n) ns k (omega arith)
    ∙ ap (λ (p : ℕ). places (at + n) (take k ns) ++ (p ∷ get_or ns k 0 ∷ [])) sum)

pub record Storing (s : List ℕ) (t : Trailer) (old new : List ℕ) (k : ℕ) : Type 0 where
  pub few : k ≤ t.entries
  pub long : length new ≡ length old
  pub same : new ≡ placed old 0 (places 0 (take k (lengths_in (index s))))

pub storing_start : (s : List ℕ) (t : Trailer) (old : List ℕ) → Storing s t old old 0
unfolding places
storing_start s t old = record { few = zero-le; long = refl; same = placed_nothing old 0 }

module _ {s : List ℕ} {t : Trailer} {old new : List ℕ} {k : ℕ} (asked : Stated s t × (place_size * t.entries ≤ length old))
    (u : Storing s t old new k) where
  many : length (lengths_in (index s)) ≡ t.entries
  many = ap length (stated_lengths asked.0) ∙ stated_many asked.0

  -- room for the two numbers of a message
  two_more : k < t.entries → place_size * k + place_size ≤ length old
  unfolding place_size
  two_more f = let room = asked.1 in omega arith

  pub storing_room : k < t.entries → {m : Placed} → (m.start < 4294967296) × (m.length < 4294967296)
      → Storable (length new) k m
  storing_room f narrow =
      let long = u.long in
      let few = stated_few asked.0 in
      let room = two_more f in
      record { few = omega arith; room = omega arith; start = narrow.0; length = narrow.1 }

  -- two numbers are as many as a message has
  pair : (m : Placed) → length (numbers_of m) ≡ place_size
  unfolding place_size
  pair m = refl

  pub storing_turn : (f : k < t.entries) {m : Placed} {next : List ℕ} → m ≡ entry_in (lengths_in (index s)) k
      → next ≡ placed new (place_size * k) (numbers_of m) → Storing s t old next (k + 1)
  storing_turn f {m} {next} is e =
      let ns = lengths_in (index s) in
      let some : k < length ns = omega (arith, many) in
      let done = places 0 (take k ns) in
      let here : length done ≡ place_size * k
      = places_long 0 (take k ns) ∙ ap (λ (n : ℕ). place_size * n) (length-take-le k ns (omega arith)) in
      let long = u.long in
      let fits : place_size * k + length (numbers_of m) ≤ length old = omega (arith, two_more f, pair m) in
      let numbers : numbers_of m ≡ (0 + total (take k ns)) ∷ get_or ns k 0 ∷ []
      = ap numbers_of is ∙ ap (λ (p : ℕ). p ∷ get_or ns k 0 ∷ []) (sym (zero-add (total (take k ns)))) in
      let both : next ≡ placed old 0 (places 0 (take (k + 1) ns))
      =
      e
      ∙ ap (λ (l : List ℕ). placed l (place_size * k) (numbers_of m)) u.same
      ∙ placed_on old 0 done (numbers_of m) (place_size * k) (omega arith) fits
      ∙ ap (λ (l : List ℕ). placed old 0 (done ++ l)) numbers
      ∙ ap (placed old 0) (sym (rw (add-one k) (places_more 0 ns k some))) in
      record {
        few = omega arith;
        long =
            ap length e
            ∙ placed_length new (place_size * k) (numbers_of m) (omega arith)
            ∙ u.long;
        same = both;
      }

  pub storing_end : t.entries ≤ k → new ≡ stored old (places 0 (lengths_in (index s)))
  unfolding placed stored
  storing_end e =
      let ns = lengths_in (index s) in
      let all : take k ns ≡ ns = take_all k ns (omega (arith, many)) in
      let at : 0 + length (places 0 ns) ≡ length (places 0 ns) = zero-add (length (places 0 ns)) in
      u.same
      ∙ ap (λ (l : List ℕ). placed old 0 (places 0 l)) all
      ∙ ap (λ (n : ℕ). places 0 ns ++ drop n old) at
