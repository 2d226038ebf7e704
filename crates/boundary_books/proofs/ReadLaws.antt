-- A book is read place by place: four numbers give the bytes of an id, and the places so far are those of the
-- definition.
use Prim.Native.Nat.{ℕ, suc, ◌+◌, ◌-◌, ◌*◌, ◌≤◌, ◌<◌}
use mathlib.Core.Path.{◌≡◌, refl, ap, sym, ◌∙◌}
use mathlib.Core.List.{List, ◌∷◌, ◌++◌, append_assoc, append-nil}
use native.Mathlib.Omega.{arith}
use native.Mathlib.Numerals.{add-one}
use lib.ListN.{length, set, take, replicate, length-append, length-set}
use lib.Seq.{take_all, take-suc-set, append_snoc}
use Rattle.sim0mq.specs.Table.{placed}
use Rattle.sim0mq.proofs.PlaceLaws.{placed_length, placed_on}
use Rattle.sim0mq_numbers.specs.Bytes.{big_bytes}
use Rattle.sim0mq_buffers.specs.Placing.{put_in}
use Rattle.sim0mq_buffers.proofs.PlaceLaws.{front_stands}
use Rattle.writing_puts.proofs.PlaceLaws.{big_fits, big_length}
use Rattle.senders_book.specs.declared.Sender.{Sender}
use Rattle.senders_book.specs.declared.Book.{Book}
use Rattle.senders_book.specs.Book.{book_places}
use Rattle.boundary_books.specs.Books.{place_size, id_bytes_of, sender_at, places_from, book_of}

-- A text that is as long as the buffer takes its place.
whole : (out text : List ℕ) → length text ≡ length out → placed out 0 text ≡ text
whole out text e =
    sym (take_all (length text) (placed out 0 text) (omega (arith, placed_length out 0 text (omega arith))))
    ∙ front_stands out text

-- A number of eight bytes after the text before it.
next : (zeros text x y : List ℕ) (at n : ℕ) → at ≡ length text → at + 8 ≤ length zeros → x ≡ placed zeros 0 text
    → y ≡ put_in x at (big_bytes 8 n) → y ≡ placed zeros 0 (text ++ big_bytes 8 n)
next zeros text x y at n here room e h =
    let long : length x ≡ length zeros = ap length e ∙ placed_length zeros 0 text (omega arith) in
    h
    ∙ big_fits x at 8 n (omega arith)
    ∙ ap (λ (l : List ℕ). placed l at (big_bytes 8 n)) e
    ∙ placed_on zeros 0 text (big_bytes 8 n) at (omega arith) (omega (arith, big_length 8 n))

eight_more : (text : List ℕ) (n at : ℕ) → at ≡ length text → at + 8 ≡ length (text ++ big_bytes 8 n)
eight_more text n at e = omega (arith, length-append text (big_bytes 8 n), big_length 8 n)

pub bytes_put : (a b c d : ℕ) (x y z w : List ℕ) → x ≡ put_in (replicate 32 0) 0 (big_bytes 8 a) → y ≡ put_in x 8 (big_bytes 8 b)
    → z ≡ put_in y 16 (big_bytes 8 c) → w ≡ put_in z 24 (big_bytes 8 d) → w ≡ id_bytes_of a b c d
unfolding id_bytes_of
bytes_put a b c d x y z w e f g h =
    let zeros : List ℕ = replicate 32 0 in
    let A : List ℕ = big_bytes 8 a in
    let AB : List ℕ = A ++ big_bytes 8 b in
    let ABC : List ℕ = AB ++ big_bytes 8 c in
    let one : x ≡ placed zeros 0 A = e ∙ big_fits zeros 0 8 a (omega arith) in
    let l₁ : 8 ≡ length A = sym (big_length 8 a) in
    let two : y ≡ placed zeros 0 AB = next zeros A x y 8 b l₁ (omega arith) one f in
    let l₂ : 16 ≡ length AB = eight_more A b 8 l₁ in
    let three : z ≡ placed zeros 0 ABC = next zeros AB y z 16 c l₂ (omega arith) two g in
    let l₃ : 24 ≡ length ABC = eight_more AB c 16 l₂ in
    let four : w ≡ placed zeros 0 (ABC ++ big_bytes 8 d) = next zeros ABC z w 24 d l₃ (omega arith) three h in
    let l₄ : 32 ≡ length (ABC ++ big_bytes 8 d) = eight_more ABC d 24 l₃ in
    four
    ∙ whole zeros (ABC ++ big_bytes 8 d) (sym l₄)
    ∙ append_assoc AB (big_bytes 8 c) (big_bytes 8 d)
    ∙ append_assoc A (big_bytes 8 b) (big_bytes 8 c ++ big_bytes 8 d)

-- The places so far: they, and then those from here on, are the book's.
pub record Reading (l : List ℕ) (places : List Sender) (i : ℕ) : Type 0 where
  pub few : i ≤ book_places
  pub long : length places ≡ book_places
  pub same : places_from l 0 book_places ≡ take i places ++ places_from l i (book_places - i)

pub reading_start : (l : List ℕ) (places : List Sender) → length places ≡ book_places → Reading l places 0
reading_start l places e = record { few = omega arith; long = e; same = refl }

-- One place fewer is left.
left_turn : (l : List ℕ) (i : ℕ) → i < book_places → places_from l i (book_places - i) ≡ sender_at l (place_size * i) ∷ places_from l (suc i) (book_places - suc i)
unfolding places_from
left_turn l i h =
    let e : 32 - i ≡ suc (32 - suc i) = omega arith in
    ap (places_from l i) e

module _ {l : List ℕ} {places : List Sender} {i : ℕ} (r : Reading l places i) where
  pub reading_turn : (e : Sender) → i < book_places → e ≡ sender_at l (place_size * i) → Reading l (set places i e) (i + 1)
  reading_turn e h s =
      record {
        few = omega arith;
        long = length-set places i e ∙ r.long;
        same =
            r.same
            ∙ ap (λ (x : List Sender). take i places ++ x) (left_turn l i h ∙ ap (λ (x : Sender). x ∷ places_from l (suc i) (book_places - suc i)) (sym s))
            ∙ sym (append_snoc (take i places) e (places_from l (suc i) (book_places - suc i)))
            ∙ ap (λ (x : List Sender). x ++ places_from l (suc i) (book_places - suc i)) (sym (take-suc-set places i e (omega (arith, r.long))))
            ∙ ap (λ (k : ℕ). take k (set places i e) ++ places_from l k (book_places - k)) (sym (add-one i));
      }

  pub reading_end : book_places ≤ i → ◌≡◌ {A = Book} (record { senders = places }) (book_of l)
  unfolding places_from
  reading_end h =
      let e : i ≡ 32 = omega (arith, r.few) in
      let all : places_from l 0 book_places ≡ places
      = r.same
      ∙ ap (λ (k : ℕ). take k places ++ places_from l k (32 - k)) e
      ∙ append-nil (take 32 places)
      ∙ take_all 32 places (omega (arith, r.long)) in
      ap (λ (x : List Sender). record { senders = x }) (sym all)
