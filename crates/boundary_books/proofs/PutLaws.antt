-- A book is put place by place: the numbers put so far, and those from here on put after them, are the book's.
use Prim.Native.Nat.{ℕ, zero, suc, ◌+◌, ◌-◌, ◌*◌, ◌≤◌, ◌<◌}
use mathlib.Core.Path.{◌≡◌, refl, ap, ap₂, sym, ◌∙◌}
use mathlib.Core.List.{List, [], ◌∷◌, ◌++◌}
use native.Mathlib.Omega.{arith}
use native.Mathlib.Numerals.{add-one}
use lib.ListN.{length, get_or, set, take, drop, length-append, length-set}
use lib.Seq.{take_all, take-suc, length-take-le, drop-drop}
use borrow.Rule.Slice.PartMut.{put_mid}
use lib.IntN.{ℤ}
use mir.Val.{bool_byte}
use Rattle.sim0mq.specs.Table.{placed}
use Rattle.sim0mq.proofs.PlaceLaws.{placed_nothing, placed_length, placed_on}
use Rattle.sim0mq_signed.specs.Signed.{bits_of}
use Rattle.sim0mq_buffers.specs.Placing.{put_in}
use Rattle.sim0mq_buffers.proofs.PlaceLaws.{placed_byte, put_fits, put_over}
use Rattle.sim0mq_numbers.specs.Numbers.{number_at}
use Rattle.writing_puts.specs.Signed.{bits_up_to}
use Rattle.writing_puts.proofs.SignedLaws.{bits_of_lem}
use Rattle.boundary_casting.proofs.ScalarLaws.{truth_number}
use Rattle.senders_book.specs.declared.Sender.{Sender}
use Rattle.senders_book.specs.Book.{book_places, entry_in}
use Rattle.boundary_books.specs.Books.{place_size, sender_numbers, numbers_from, book_numbers}

-- The numbers of a place, one by one.
pub numbers_made : (e : Sender) (z : ℤ) (b w₁ w₂ w₃ w₄ : ℕ) → z ≡ e.number → b ≡ bits_up_to 18446744073709551615 z
    → w₁ ≡ number_at e.id.bytes 0 8 → w₂ ≡ number_at e.id.bytes 8 8 → w₃ ≡ number_at e.id.bytes 16 8 → w₄ ≡ number_at e.id.bytes 24 8
    → bool_byte e.held ∷ b ∷ e.id.code ∷ e.id.length ∷ w₁ ∷ w₂ ∷ w₃ ∷ w₄ ∷ [] ≡ sender_numbers e
unfolding sender_numbers
numbers_made e z b w₁ w₂ w₃ w₄ s h e₁ e₂ e₃ e₄ =
    let n : b ≡ bits_of 64 e.number = h ∙ ap (bits_up_to 18446744073709551615) s ∙ bits_of_lem 64 e.number in
    rw (truth_number e.held, n, e₁, e₂, e₃, e₄) refl

-- A row that is put number by number: those so far stand there.
pub record Rowing (row old new : List ℕ) (at k : ℕ) : Type 0 where
  pub few : k ≤ length row
  pub long : length new ≡ length old
  pub same : new ≡ placed old at (take k row)

pub rowing_start : (row old : List ℕ) (at : ℕ) → Rowing row old old at 0
rowing_start row old at = record { few = omega arith; long = refl; same = placed_nothing old at }

module _ {row old new : List ℕ} {at k : ℕ} (r : Rowing row old new at k) (room : at + length row ≤ length old) where
  pub rowing_turn : (p : ℕ) → p ≡ at + k → k < length row → Rowing row old (set new p (get_or row k 0)) at (k + 1)
  rowing_turn p e h =
      let x : ℕ = get_or row k 0 in
      let so : length (take k row) ≡ k = length-take-le k row (omega arith) in
      record {
        few = omega arith;
        long = length-set new p x ∙ r.long;
        same =
            placed_byte new p x (omega (arith, r.long))
            ∙ ap (λ (l : List ℕ). placed l p (x ∷ [])) r.same
            ∙ placed_on old at (take k row) (x ∷ []) p (omega arith) (omega arith)
            ∙ ap (placed old at) (sym (take-suc row k 0 (omega arith)))
            ∙ ap (λ (j : ℕ). placed old at (take j row)) (sym (add-one k));
      }

  pub rowing_end : length row ≤ k → new ≡ placed old at row
  rowing_end h = r.same ∙ ap (placed old at) (take_all k row (omega arith))

-- A row that is copied to the part of its length from `at` on is placed there.
row_placed : (row part out : List ℕ) (at k : ℕ) → part ≡ row → at + k ≡ at + length row → put_mid at k out part ≡ placed out at row
unfolding placed
row_placed row part out at k e n =
    ap₂ (λ (a b : List ℕ). take at out ++ (a ++ b)) e (drop-drop k at out ∙ ap (λ (m : ℕ). drop m out) n)

-- Eight numbers for each place.
numbers_eight : (e : Sender) → length (sender_numbers e) ≡ 8
unfolding sender_numbers
numbers_eight e = refl

numbers_long : (b : List Sender) (n i : ℕ) → length (numbers_from b i n) ≡ 8 * n
unfolding numbers_from
numbers_long b zero i = refl
numbers_long b (suc n) i =
    omega (arith, length-append (sender_numbers (entry_in b i)) (numbers_from b (suc i) n), numbers_eight (entry_in b i), numbers_long b n (suc i))

numbers_turn : (b : List Sender) (i : ℕ) → i < book_places → numbers_from b i (book_places - i) ≡ sender_numbers (entry_in b i) ++ numbers_from b (suc i) (book_places - suc i)
unfolding numbers_from
numbers_turn b i h =
    let e : 32 - i ≡ suc (32 - suc i) = omega arith in
    ap (numbers_from b i) e

pub record Putting (b : List Sender) (old new : List ℕ) (i : ℕ) : Type 0 where
  pub few : i ≤ book_places
  pub long : length new ≡ length old
  pub same : placed old 0 (book_numbers b) ≡ placed new (place_size * i) (numbers_from b i (book_places - i))

pub putting_start : (b : List Sender) (old : List ℕ) → Putting b old old 0
putting_start b old = record { few = omega arith; long = refl; same = refl }

-- Where there is no room, nothing is put.
pub putting_short : (b : List Sender) (old : List ℕ) → length old < 256 → old ≡ put_in old 0 (book_numbers b)
putting_short b old h = put_over old 0 (book_numbers b) (omega (arith, numbers_long b 32 0))

module _ {b : List Sender} {old new : List ℕ} {i : ℕ} (r : Putting b old new i) (room : 256 ≤ length old) where
  pub putting_turn : (part row : List ℕ) (k : ℕ) → i < book_places → row ≡ sender_numbers (entry_in b i) → part ≡ row → k ≡ 8
      → Putting b old (put_mid (place_size * i) k new part) (i + 1)
  putting_turn part row k h e f eight =
      let next : List ℕ = put_mid (place_size * i) k new part in
      let one : List ℕ = sender_numbers (entry_in b i) in
      let rest : List ℕ = numbers_from b (suc i) (book_places - suc i) in
      let l₁ : length one ≡ 8 = numbers_eight (entry_in b i) in
      let g : next ≡ placed new (place_size * i) one = row_placed one part new (place_size * i) k (f ∙ e) (omega arith) in
      let l₂ : length rest ≡ 8 * (32 - suc i) = numbers_long b (32 - suc i) (suc i) in
      let p : place_size * suc i ≡ place_size * i + length one = omega arith in
      record {
        few = omega arith;
        long = ap length g ∙ placed_length new (place_size * i) one (omega (arith, r.long)) ∙ r.long;
        same =
            r.same
            ∙ ap (placed new (place_size * i)) (numbers_turn b i h)
            ∙ sym (placed_on new (place_size * i) one rest (place_size * suc i) p (omega (arith, r.long)))
            ∙ ap (λ (l : List ℕ). placed l (place_size * suc i) rest) (sym g)
            ∙ ap (λ (k : ℕ). placed next (place_size * k) (numbers_from b k (book_places - k))) (sym (add-one i));
      }

  pub putting_end : book_places ≤ i → new ≡ put_in old 0 (book_numbers b)
  unfolding numbers_from
  putting_end h =
      let e : i ≡ 32 = omega (arith, r.few) in
      placed_nothing new (place_size * 32)
      ∙ ap (λ (k : ℕ). placed new (place_size * k) (numbers_from b k (32 - k))) (sym e)
      ∙ sym r.same
      ∙ sym (put_fits old 0 (book_numbers b) (omega (arith, numbers_long b 32 0)))
