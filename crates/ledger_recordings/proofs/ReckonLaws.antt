-- At each turn the messages before the k-th are accepted and mustered, and mustering those that are left, from where
-- the ledger and the book stand, comes to mustering them all.
use Prim.Native.Nat.{ℕ, ◌+◌, ◌-◌, ◌≤◌, ◌<◌}
use mathlib.Core.Path.{◌≡◌, refl, ap, sym, ◌∙◌}
use mathlib.Core.List.{List, [], ◌∷◌}
use native.Mathlib.Omega.{arith}
use native.Mathlib.Numerals.{add-one}
use lib.ListN.{length, take, drop, drop_of_length-le, length-append}
use lib.Seq.{drop-cons}
use Rattle.sim0mq.specs.Answer.{Answer, fine, refused, ◌>>=◌}
use Rattle.sim0mq.specs.Message.{no_table, Reading}
use Rattle.sim0mq.proofs.Answers.{not_fine, fine_eq, guarded, bind_fine}
use Rattle.dividing.specs.Run.{stretches, total}
use Rattle.dividing.proofs.RunLaws.{stretches_many}
use Rattle.recordings_format.specs.Judge.{Index, index, stretch, stretches_from, roomy, opening}
use Rattle.recordings_format.proofs.IndexLaws.{total_more}
use Rattle.recordings_index.specs.declared.Trailer.{Trailer}
use Rattle.recordings.specs.Recordings.{Stated, lengths_in, entry_in, size_of, count_of}
use Rattle.recordings.proofs.StatedLaws.{stated_lengths, stated_many}
use Rattle.recordings.proofs.OpenCases.{Judging, judging_start, judging-refused, judging-turn, judging-end}
use Rattle.senders_book.specs.Book.{empty_book}
use Rattle.senders_book.specs.declared.Book.{Book}
use Rattle.ledger_decks.specs.declared.Deed.{Deed}
use Rattle.ledger_decks.specs.declared.Ledger.{Ledger}
use Rattle.ledger_decks.specs.Mustering.{Order, mustering, decks_mustered, book_mustered}
use Rattle.ledger_decks.specs.History.{Point, start, after_calls, next, applied_by, point_after}
use Rattle.ledger.specs.Ledger.{MusteredAs, after_mustering}
use Rattle.recordings_index.specs.declared.Placed.{Placed}
use Rattle.ledger_recordings.specs.Reckoning.{mustered, reckoning_of, reckoning, Comes, reckoned_as, applied_as, turned}

-- opening finds what the index states
opening_index : (s : List ℕ) (i : Index) → opening no_table s ≡ fine i → index s ≡ fine i
unfolding opening
opening_index s i q =
    let a = bind_fine (index s) _ q in
    let b = guarded (roomy no_table (length a.0.lengths)) 14 0 _ a.2 in
    let c = bind_fine (stretches_from a.0.edition.most s 0 a.0.lengths) _ b.1 in
    a.1 ∙ c.2

-- a recording that is refused
pub reckon_refused : (s : List ℕ) (k p : ℕ) → refused k p ≡ count_of (opening no_table s) → reckoning s ≡ refused k p
unfolding reckoning
reckon_refused s k p q = go (opening no_table s) q
  where
    go : (a : Answer Index) → refused k p ≡ count_of a → (a >>= (λ i. fine (reckoning_of (stretches s 0 i.lengths)))) ≡ refused k p
    go (fine i) e = absurd (not_fine e)
    go (refused j v) e = cc

-- one message more is applied, or none
pub applied_more : (ds : List Deed) (o : Answer Order) → length (applied_by ds o) ≡ length ds + applied_as o
applied_more ds (fine o) = length-append ds (o.deed ∷ [])
applied_more ds (refused k p) = omega arith

pub applied_one : (o : Answer Order) → applied_as o ≤ 1
applied_one (fine o) = omega arith
applied_one (refused k p) = omega arith

-- ledger and book after mustering
mustered_decks : (l : Ledger) (b : Book) (o : Answer Order) → decks_mustered l.heads o ≡ (after_mustering l b o).ledger.heads
mustered_decks l b (fine o) = refl
mustered_decks l b (refused k p) = refl

mustered_book : (l : Ledger) (b : Book) (o : Answer Order) → book_mustered b.senders o ≡ (after_mustering l b o).book.senders
mustered_book l b (fine o) = refl
mustered_book l b (refused k p) = refl

-- the loop over the messages
pub record Reckons (s : List ℕ) (t : Trailer) (k applied : ℕ) (l : Ledger) (b : Book) : Type 0 where
  pub judging : Judging s t k
  pub point : Point
  pub decks : point.decks ≡ l.heads
  pub book : point.book ≡ b.senders
  pub deeds : length point.applied ≡ applied
  pub few : applied ≤ k
  pub same : mustered (start empty_book) (stretches s 0 (lengths_in (index s)))
      ≡ mustered point (stretches s (total (take k (lengths_in (index s)))) (drop k (lengths_in (index s))))

module _ {s : List ℕ} {t : Trailer} (h : Stated s t) where
  pub reckons_start : (l : Ledger) (b : Book) → l.heads ≡ (start empty_book).decks → b.senders ≡ empty_book → Reckons s t 0 0 l b
  unfolding total
  reckons_start l b e f =
      record {
        judging = judging_start h;
        point = start empty_book;
        decks = sym e;
        book = sym f;
        deeds = refl;
        few = omega arith;
        same = refl;
      }

  many : length (lengths_in (index s)) ≡ t.entries
  many = ap length (stated_lengths h) ∙ stated_many h

  module _ {k applied : ℕ} {l : Ledger} {b : Book} (u : Reckons s t k applied l b) where
    abbrev lengths : List ℕ
    lengths = lengths_in (index s)

    -- all are mustered
    pub reckons-end : t.entries ≤ k
        → ◌≡◌ {A = Comes} (record { said = fine applied; refused = t.entries - applied; ledger = l }) (reckoned_as (reckoning s))
    unfolding reckoning stretches after_calls
    reckons-end e = go (opening no_table s) refl (judging-end h u.judging e)
      where
        none : drop k lengths ≡ []
        none = drop_of_length-le lengths {i = k} (let n = many in omega arith)

        whole : mustered (start empty_book) (stretches s 0 lengths) ≡ u.point
        whole =
            u.same
            ∙ ap (λ (ns : List ℕ). mustered u.point (stretches s (total (take k lengths)) ns)) none

        long : length (stretches s 0 lengths) ≡ t.entries
        long = stretches_many s 0 lengths ∙ many

        go : (a : Answer Index) → opening no_table s ≡ a → fine k ≡ count_of a
            → ◌≡◌ {A = Comes} (record { said = fine applied; refused = t.entries - applied; ledger = l }) (reckoned_as (reckoning s))
        go (refused j p) q c = absurd (not_fine (sym c))
        go (fine i) q c =
            let stated : lengths ≡ i.lengths = ap lengths_in (opening_index s i q) in
            let p = sym whole in
            let deeds = sym u.deeds in
            let entries = sym long in
            let decks = sym u.decks in
            (λ j.
            record {
              said = fine (deeds j);
              refused = entries j - deeds j;
              ledger = record { heads = decks j };
            })
            ∙ (λ j.
            record {
              said = fine (length (p j).applied);
              refused = length (stretches s 0 lengths) - length (p j).applied;
              ledger = record { heads = (p j).decks };
            })
            ∙ ap (λ (ns : List ℕ). reckoned_as (fine (reckoning_of (stretches s 0 ns)))) stated
            ∙ sym (simp q)

    module _ (f : k < t.entries) (m : Placed) (is : m ≡ entry_in lengths k) where
      abbrev message : List ℕ
      message = take m.length (drop m.start s)

      abbrev order : Answer Order
      order = mustering l.heads b.senders message

      abbrev read : Answer Reading
      read = stretch t.edition.most s m.start m.length

      -- it is not accepted
      pub reckons-stop : (j p : ℕ) → refused j p ≡ turned l b read order → reckoned_as (refused j p) ≡ reckoned_as (reckoning s)
      unfolding turned
      reckons-stop j p e = ap reckoned_as (sym (reckon_refused s j p (judging-refused h u.judging f is (go read e))))
        where
          go : (a : Answer Reading) → refused j p ≡ turned l b a order → refused j p ≡ size_of a
          go (fine x) e = absurd (not_fine e)
          go (refused i w) e = cc

      -- it is accepted, and applied or passed over
      module _ (c : MusteredAs) (e : fine c ≡ turned l b read order) where
        accepted : (r : Reading) × (read ≡ fine r) × (c ≡ after_mustering l b order)
        unfolding turned
        accepted = go read refl e
          where
            go : (a : Answer Reading) → read ≡ a → fine c ≡ turned l b a order
                → (r : Reading) × (read ≡ fine r) × (c ≡ after_mustering l b order)
            go (fine x) g w = (x, g, fine_eq w)
            go (refused j p) g w = absurd (not_fine (sym w))

        pub reckons-said : c.said ≡ (after_mustering l b order).said
        reckons-said = ap (λ (x : MusteredAs). x.said) accepted.2

        module _ (one : ℕ) (counts : one ≡ applied_as order) where
          pub reckons-one : one ≤ 1
          reckons-one = let a = applied_one order in omega arith

          pub reckons-turn : Reckons s t (k + 1) (applied + one) c.ledger c.book
          unfolding stretches after_calls next total turned
          reckons-turn =
              let some : k < length lengths = (let n = many in omega arith) in
              let alike : mustering u.point.decks u.point.book message ≡ order
              = (λ i. mustering (u.decks i) (u.book i) message) in
              let later : drop k lengths ≡ m.length ∷ drop (k + 1) lengths
              = drop-cons lengths k 0 some ∙ (λ i. (sym is i).length ∷ drop (sym (add-one k) i) lengths) in
              let from : total (take k lengths) ≡ m.start = ap (λ (x : Placed). x.start) (sym is) in
              let until : m.start + m.length ≡ total (take (k + 1) lengths)
              = (λ i. (is i).start + (is i).length) ∙ sym (rw (add-one k) (total_more lengths k some)) in
              record {
                judging = judging-turn h u.judging f is accepted.0.bytes (sym (ap size_of accepted.1));
                point = point_after u.point order;
                decks =
                    (λ i. decks_mustered (u.decks i) order) ∙ mustered_decks l b order ∙ ap (λ (x : MusteredAs). x.ledger.heads) (sym accepted.2);
                book = (λ i. book_mustered (u.book i) order) ∙ mustered_book l b order ∙ ap (λ (x : MusteredAs). x.book.senders) (sym accepted.2);
                deeds = applied_more u.point.applied order ∙ (λ i. u.deeds i + sym counts i);
                few = (let a = reckons-one in let c = u.few in omega arith);
                same =
                    u.same
                    ∙ (λ i. mustered u.point (stretches s (from i) (later i)))
                    ∙ ap (λ (x : Answer Order). mustered (point_after u.point x) (stretches s (m.start + m.length) (drop (k + 1) lengths))) alike
                    ∙ ap (λ (at : ℕ). mustered (point_after u.point order) (stretches s at (drop (k + 1) lengths))) until;
              }
