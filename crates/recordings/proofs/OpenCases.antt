-- How opening and asking answer, case by case, in the words of the code's tests: messages are judged one by one, and
-- what is left to judge is what the whole comes to.
use Prim.Native.Nat.{ℕ, suc, ◌+◌, ◌*◌, ◌≤◌, ◌<◌, zero-le}
use mathlib.Core.Path.{◌≡◌, refl, ap, sym, ◌∙◌, subst}
use mathlib.Core.List.{List, []}
use native.Mathlib.Omega.{arith}
use native.Mathlib.Numerals.{add-one}
use lib.ListN.{length, take, drop, get_or, drop_of_length-le}
use lib.Seq.{drop-cons}
use borrow.Author.Tests.{lt-leb, lt-ltb, le-ltb}
use Rattle.sim0mq.specs.Answer.{Answer, fine, refused, ◌>>=◌}
use Rattle.sim0mq.specs.Message.{no_table, table, Reading}
use Rattle.sim0mq.specs.Table.{stored}
use Rattle.sim0mq.proofs.Answers.{not_fine}
use Rattle.dividing.specs.Run.{total}
use Rattle.recordings_format.specs.Judge.{Index, index, stretch, stretches_from, place_size, roomy, opening, places, places_after, placed_in, asking}
use Rattle.recordings_format.proofs.IndexLaws.{total_more}
use Rattle.recordings_format.proofs.Promises.{table_is_lent}
use Rattle.recordings_index.specs.Index.{summed}
use Rattle.recordings_index.specs.declared.Trailer.{Trailer}
use Rattle.recordings.specs.Recordings.{Stated, lengths_in, entry_in, size_of, count_of}
use Rattle.recordings_index.specs.declared.Placed.{Placed}
use Rattle.recordings.proofs.StatedLaws.{stated_lengths, stated_many, stated_most}

-- trailer or index is wrong
module _ (s : List ℕ) {k p : ℕ} (says : refused k p ≡ summed (index s)) where
  no_index : index s ≡ refused k p
  no_index = go (index s) (sym says)
    where
      go : (a : Answer Index) → summed a ≡ refused k p → a ≡ refused k p
      go (fine i) e = absurd (not_fine (sym e))
      go (refused j v) e = cc

  pub open_wrong : refused k p ≡ count_of (opening no_table s)
  unfolding opening
  open_wrong = sym (simp no_index)

  pub into_wrong : (r : ℕ) → refused k p ≡ count_of (opening (table r) s)
  unfolding opening
  into_wrong r = sym (simp no_index)

  pub into_wrong_kept : (t : List ℕ) (r : ℕ) → t ≡ places_after t (opening (table r) s)
  unfolding opening places_after
  into_wrong_kept t r = sym (simp no_index)

  pub ask_wrong : (n : ℕ) → refused k p ≡ asking s n
  unfolding asking
  ask_wrong n = sym (simp no_index)

-- a message that was judged, and what is done with it then
size_refused : {B : Type 0} (a : Answer Reading) (f : Reading → Answer B) {k p : ℕ} → refused k p ≡ size_of a
    → (a >>= f) ≡ refused k p
size_refused (fine m) f q = absurd (not_fine q)
size_refused (refused j v) f q = cc

size_fine : {B : Type 0} (a : Answer Reading) {b : Answer B} (x : ℕ) → fine x ≡ size_of a → (a >>= (λ m. b)) ≡ b
size_fine (fine m) x q = refl
size_fine (refused j v) x q = absurd (not_fine (sym q))

-- the messages from the k-th on, in a recording of n
abbrev rest : Answer Index → ℕ → List ℕ → ℕ → ℕ → Answer ℕ
rest i most s n k = stretches_from most s (total (take k (lengths_in i))) (drop k (lengths_in i)) >>= (λ u. fine n)

-- the loop over the messages: those before the k-th are accepted
pub record Judging (s : List ℕ) (t : Trailer) (k : ℕ) : Type 0 where
  pub few : k ≤ t.entries
  pub same : count_of (opening no_table s) ≡ rest (index s) t.edition.most s t.entries k

module _ {s : List ℕ} {t : Trailer} (h : Stated s t) where
  many : length (lengths_in (index s)) ≡ t.entries
  many = ap length (stated_lengths h) ∙ stated_many h

  pub judging_start : Judging s t 0
  unfolding opening roomy total
  judging_start =
      let i = h.found in
      let whole : count_of (opening no_table s) ≡ (stretches_from i.edition.most s 0 i.lengths >>= (λ u. fine (length i.lengths)))
      = simp h.is (counted (stretches_from i.edition.most s 0 i.lengths)) in
      record {
        few = zero-le;
        same =
            whole
            ∙ (λ j. stretches_from (stated_most h j) s 0 i.lengths >>= (λ u. fine (stated_many h j)))
            ∙ ap (λ (a : Answer Index). rest a t.edition.most s t.entries 0) (sym h.is);
      }
    where
      counted : (a : Answer (Unit {0})) → count_of (a >>= (λ u. fine h.found)) ≡ (a >>= (λ u. fine (length h.found.lengths)))
      counted (fine u) = refl
      counted (refused k p) = refl

  module _ {k : ℕ} (u : Judging s t k) where
    pub judging-end : t.entries ≤ k → fine k ≡ count_of (opening no_table s)
    unfolding stretches_from
    judging-end e =
        let few = u.few in
        let none : drop k (lengths_in (index s)) ≡ [] = drop_of_length-le (lengths_in (index s)) {i = k} (omega (arith, many)) in
        let all : k ≡ t.entries = omega arith in
        ap fine all ∙ sym (u.same ∙ simp none)

    module _ (f : k < t.entries) {m : Placed} (is : m ≡ entry_in (lengths_in (index s)) k) where
      here : count_of (opening no_table s)
          ≡ (stretch t.edition.most s m.start m.length >>= (λ r. rest (index s) t.edition.most s t.entries (k + 1)))
      unfolding stretches_from
      here =
          let ns = lengths_in (index s) in
          let most = t.edition.most in
          let some : k < length ns = omega (arith, many) in
          let next : total (take k ns) + get_or ns k 0 ≡ total (take (k + 1) ns) = sym (rw (add-one k) (total_more ns k some)) in
          let others : drop (suc k) ns ≡ drop (k + 1) ns = ap (λ (j : ℕ). drop j ns) (sym (add-one k)) in
          u.same
          ∙ ap (λ (l : List ℕ). stretches_from most s (total (take k ns)) l >>= (λ z. fine t.entries)) (drop-cons ns k 0 some)
          ∙ go (stretch most s (total (take k ns)) (get_or ns k 0)) (λ i. stretches_from most s (next i) (others i))
          ∙ ap
          (λ (p : Placed). stretch most s p.start p.length >>= (λ r. rest (index s) most s t.entries (k + 1)))
          (sym is)
        where
          go : (a : Answer Reading) {x y : Answer (Unit {0})} → x ≡ y
              → (a >>= (λ r. x) >>= (λ z. fine t.entries)) ≡ (a >>= (λ r. y >>= (λ z. fine t.entries)))
          go (fine r) e = ap (λ (x : Answer (Unit {0})). x >>= (λ z. fine t.entries)) e
          go (refused j p) e = refl

      pub judging-refused : {j v : ℕ} → refused j v ≡ size_of (stretch t.edition.most s m.start m.length)
          → refused j v ≡ count_of (opening no_table s)
      judging-refused q = sym (here ∙ size_refused (stretch t.edition.most s m.start m.length) _ q)

      pub judging-turn : (x : ℕ) → fine x ≡ size_of (stretch t.edition.most s m.start m.length)
          → Judging s t (k + 1)
      judging-turn x q =
          record {
            few = omega arith;
            same = here ∙ size_fine (stretch t.edition.most s m.start m.length) x q;
          }

  -- asking
  module _ (k : ℕ) where
    pub ask-none : t.entries ≤ k → refused 16 0 ≡ asking s k
    unfolding asking
    ask-none e =
        let ns = h.found.lengths in
        let n = stated_many h in
        sym (simp (h.is, le-ltb k (length ns) (omega arith)))

    module _ (f : k < t.entries) {m : Placed} (is : m ≡ entry_in (lengths_in (index s)) k) where
      there : asking s k
          ≡ (stretch t.edition.most s m.start m.length >>= (λ r. fine (record { start = m.start; size = m.length })))
      unfolding asking
      there =
          let ns = h.found.lengths in
          let n = stated_many h in
          let named : m ≡ entry_in ns k = is ∙ ap (λ (l : List ℕ). entry_in l k) (stated_lengths h) in
          simp (h.is, lt-ltb k (length ns) (omega arith))
          ((λ i. stretch (stated_most h i) s (entry_in ns k).start (entry_in ns k).length >>= (λ r. fine (placed_in ns k)))
          ∙ ap
          (λ (p : Placed). stretch t.edition.most s p.start p.length >>= (λ r. fine (record { start = p.start; size = p.length })))
          (sym named))

      pub ask-refused : {j v : ℕ} → refused j v ≡ size_of (stretch t.edition.most s m.start m.length)
          → refused j v ≡ asking s k
      ask-refused q = sym (there ∙ size_refused (stretch t.edition.most s m.start m.length) _ q)

      pub ask-found : (x : ℕ) → fine x ≡ size_of (stretch t.edition.most s m.start m.length)
          → fine (record { start = m.start; size = m.length }) ≡ asking s k
      ask-found x q = sym (there ∙ size_fine (stretch t.edition.most s m.start m.length) x q)

  -- opening with a table of r numbers
  module _ (r : ℕ) where
    pub into-short : r < place_size * t.entries → refused 14 0 ≡ count_of (opening (table r) s)
    unfolding opening roomy
    into-short e =
        let ns = h.found.lengths in
        sym (simp (h.is, lt-leb (place_size * length ns) r (subst (λ (n : ℕ). r < place_size * n) (sym (stated_many h)) e)))

    pub into-short-kept : (old : List ℕ) → r < place_size * t.entries → old ≡ places_after old (opening (table r) s)
    unfolding opening roomy places_after
    into-short-kept old e =
        let ns = h.found.lengths in
        sym (simp (h.is, lt-leb (place_size * length ns) r (subst (λ (n : ℕ). r < place_size * n) (sym (stated_many h)) e)))

    module _ (room : place_size * t.entries ≤ r) where
      alike : opening (table r) s ≡ opening no_table s
      alike =
          (table_is_lent s h.found r h.is).0 (subst (λ (n : ℕ). place_size * n ≤ r) (sym (stated_many h)) room)

      pub into-alike : count_of (opening no_table s) ≡ count_of (opening (table r) s)
      into-alike = ap count_of (sym alike)

      pub into-kept : (old : List ℕ) (k p : ℕ) → refused k p ≡ count_of (opening no_table s)
          → old ≡ places_after old (opening (table r) s)
      unfolding places_after
      into-kept old k p q = sym (ap (places_after old) alike ∙ go (opening no_table s) q)
        where
          go : (a : Answer Index) → refused k p ≡ count_of a → places_after old a ≡ old
          go (fine i) e = absurd (not_fine e)
          go (refused j v) e = refl

      pub into-stored : (old : List ℕ) (n : ℕ) → fine n ≡ count_of (opening no_table s)
          → stored old (places 0 (lengths_in (index s))) ≡ places_after old (opening (table r) s)
      unfolding opening roomy places_after
      into-stored old n q =
          let i = h.found in
          let all : opening no_table s ≡ (stretches_from i.edition.most s 0 i.lengths >>= (λ u. fine i)) = simp h.is in
          ap (λ (l : List ℕ). stored old (places 0 l)) (stated_lengths h)
          ∙ sym (ap (places_after old) (alike ∙ all) ∙ go (stretches_from i.edition.most s 0 i.lengths) (q ∙ ap count_of all))
        where
          go : (a : Answer (Unit {0})) → fine n ≡ count_of (a >>= (λ u. fine h.found))
              → places_after old (a >>= (λ u. fine h.found)) ≡ stored old (places 0 h.found.lengths)
          go (fine u) e = refl
          go (refused j v) e = absurd (not_fine (sym e))
