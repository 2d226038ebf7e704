-- What the book promises of a message and of a closing: each answer is decided by four tests, whether the id is too
-- long, whether the sender is held, whether the number is greater, and whether a place is free.
use Prim.Native.Nat.{ℕ, ◌≤◌, ◌<◌}
use mathlib.Core.Path.{◌≡◌, refl, sym, ap, ◌∙◌, subst}
use mathlib.Core.Bool.{Bool, true, false, cond}
use mathlib.Core.Logic.{◌⊎◌, ⊎_elim, inl, inr}
use mathlib.Core.List.{List}
use native.Mathlib.Omega.{arith}
use lib.ListN.{length, set, length-set}
use lib.Dec.{leb, eqb}
use lib.IntN.{ℤ}
use lib.Signed.{lt_z}
use borrow.Author.Tests.{leb-true, leb-false, ltb-true, ltb-false, lt-ltb, eqb-false}
use Rattle.std.proofs.lemmas.Int.{ints}
use Rattle.sim0mq.specs.Answer.{Answer, fine, refused}
use Rattle.sim0mq.proofs.Answers.{not_fine, fine_eq}
use Rattle.senders_book.specs.declared.Id.{Id}
use Rattle.senders_book.specs.declared.Sender.{Sender}
use Rattle.senders_book.specs.Book.{
  id_bytes,
  free,
  id_of,
  holds,
  place_of,
  free_place,
  entry_in,
  is_held,
  number_held,
  has_place,
  closing,
}
use Rattle.senders_book.specs.Taking.{Stamp, Entry, entry_as, stamping, holding, taking, book_after}
use Rattle.senders_book.specs.Promises.{
  Takes,
  TakenExactly,
  Refuses,
  RefusedExactly,
  RepeatIsRefused,
  RefusedChangesNothing,
  Once,
  ClosingRemoves,
  ClosingUnknown,
}
use Rattle.senders_book.proofs.IdLaws.{same_short, holds_same, holds_own}
use Rattle.senders_book.proofs.PlaceLaws.{
  place_holds,
  free_least,
  free_not_held,
  is_not_held,
  place_set,
  set_same,
  set_entry,
}
use Rattle.senders_book.proofs.TakeCases.{settling_held, settling_new, stamp_long, stamp-stops, stamp-goes}
pub use Rattle.senders_book.proofs.StampLaws.{accepted_is_stamped, frames_are_enough, reading_comes_first}
pub use Rattle.senders_book.proofs.IdLaws.{same_exactly}
pub use Rattle.senders_book.proofs.PlaceLaws.{place_is_the_first, free_is_the_first}

-- a refusal tells its number and its place
same_refusal : {A : Type 0} (k p j q : ℕ) → ◌≡◌ {A = Answer A} (refused k p) (refused j q) → (j ≡ k) × (q ≡ p)
same_refusal k p j q e = (cc, cc)

-- ---- the five answers to a stamp
module _ (b : List Sender) (t : Stamp) where
  abbrev id : Id
  id = id_of t.code t.id

  module _ (short : length t.id ≤ id_bytes) where
    module _ (held : is_held b id ≡ true) where
      taken-on : lt_z (number_held b id) t.number ≡ true → stamping b t ≡ fine (entry_as t (place_of b id))
      taken-on g = sym (stamp-goes b t short id refl _ (settling_held b id _ _ _ held ∙ rw g refl))

      number_behind : lt_z (number_held b id) t.number ≡ false → stamping b t ≡ refused 27 t.numbered
      number_behind g = sym (stamp-stops b t short id refl _ _ (settling_held b id _ _ _ held ∙ rw g refl))

    module _ (new : is_held b id ≡ false) where
      taken_in : has_place b ≡ true → stamping b t ≡ fine (entry_as t (free_place b))
      taken_in g = sym (stamp-goes b t short id refl _ (settling_new b id _ _ _ new ∙ rw g refl))

      book-full : has_place b ≡ false → stamping b t ≡ refused 28 t.sender
      book-full g = sym (stamp-stops b t short id refl _ _ (settling_new b id _ _ _ new ∙ rw g refl))

  -- what is taken, by its tests
  taken_into : (e : Entry) → stamping b t ≡ fine e → Takes b t e
  taken_into e q = long (leb (length t.id) id_bytes) refl
    where
      -- the entry is the one that a case gives
      is : {i : ℕ} → stamping b t ≡ fine (entry_as t i) → (e.stamp ≡ t) × (e.place ≡ i)
      is g = let z = fine_eq (sym q ∙ g) in (ap (λ (x : Entry). x.stamp) z, ap (λ (x : Entry). x.place) z)

      old : (short : length t.id ≤ id_bytes) → is_held b id ≡ true → (y : Bool) → lt_z (number_held b id) t.number ≡ y
          → Takes b t e
      old short h true g = let w = is (taken-on short h g) in (w.0, short, inl (h, g, w.1))
      old short h false g = absurd (not_fine (sym (number_behind short h g) ∙ q))

      new : (short : length t.id ≤ id_bytes) → is_held b id ≡ false → (y : Bool) → has_place b ≡ y → Takes b t e
      new short h true g = let w = is (taken_in short h g) in (w.0, short, inr (h, g, w.1))
      new short h false g = absurd (not_fine (sym (book-full short h g) ∙ q))

      held : (short : length t.id ≤ id_bytes) → (y : Bool) → is_held b id ≡ y → Takes b t e
      held short true h = old short h (lt_z (number_held b id) t.number) refl
      held short false h = new short h (has_place b) refl

      long : (y : Bool) → leb (length t.id) id_bytes ≡ y → Takes b t e
      long true h = held (leb-true _ _ h) (is_held b id) refl
      long false h = absurd (not_fine (stamp_long b t (leb-false _ _ h) ∙ q))

  taken_back : (e : Entry) → Takes b t e → stamping b t ≡ fine e
  taken_back e w =
      ⊎_elim
      (λ x. taken-on w.1 x.0 x.1 ∙ (λ i. fine (record { place = sym x.2 i; stamp = sym w.0 i })))
      (λ x. taken_in w.1 x.0 x.1 ∙ (λ i. fine (record { place = sym x.2 i; stamp = sym w.0 i })))
      w.2

  refused_into : (k p : ℕ) → stamping b t ≡ refused k p → Refuses b t k p
  refused_into k p q = long (leb (length t.id) id_bytes) refl
    where
      old : (short : length t.id ≤ id_bytes) → is_held b id ≡ true → (y : Bool) → lt_z (number_held b id) t.number ≡ y
          → Refuses b t k p
      old short h true g = absurd (not_fine (sym q ∙ taken-on short h g))
      old short h false g =
          let w = same_refusal _ _ k p (sym (number_behind short h g) ∙ q) in
          inr (inl (w.0, w.1, short, h, g))

      new : (short : length t.id ≤ id_bytes) → is_held b id ≡ false → (y : Bool) → has_place b ≡ y → Refuses b t k p
      new short h true g = absurd (not_fine (sym q ∙ taken_in short h g))
      new short h false g =
          let w = same_refusal _ _ k p (sym (book-full short h g) ∙ q) in
          inr (inr (w.0, w.1, short, h, g))

      held : (short : length t.id ≤ id_bytes) → (y : Bool) → is_held b id ≡ y → Refuses b t k p
      held short true h = old short h (lt_z (number_held b id) t.number) refl
      held short false h = new short h (has_place b) refl

      long : (y : Bool) → leb (length t.id) id_bytes ≡ y → Refuses b t k p
      long true h = held (leb-true _ _ h) (is_held b id) refl
      long false h = let w = same_refusal _ _ k p (stamp_long b t (leb-false _ _ h) ∙ q) in inl (w.0, w.1, leb-false _ _ h)

  refused_back : (k p : ℕ) → Refuses b t k p → stamping b t ≡ refused k p
  refused_back k p w =
      ⊎_elim (λ x. sym (stamp_long b t x.2) ∙ (λ i. refused (sym x.0 i) (sym x.1 i)))
      (λ y.
      ⊎_elim (λ x. number_behind x.2 x.3 x.4 ∙ (λ i. refused (sym x.0 i) (sym x.1 i)))
      (λ x. book-full x.2 x.3 x.4 ∙ (λ i. refused (sym x.0 i) (sym x.1 i))) y)
      w

pub taken_exactly : TakenExactly
taken_exactly b t e = (taken_into b t e, taken_back b t e)

pub refused_exactly : RefusedExactly
refused_exactly b t k p = (refused_into b t k p, refused_back b t k p)

-- ---- the entry that is taken
pub record Settled (b : List Sender) (t : Stamp) (p : ℕ) : Type 0 where
  pub short : length t.id ≤ id_bytes
  pub within : p < length b
  pub first : p ≤ place_of b (id_of t.code t.id)

pub settled : (b : List Sender) (t : Stamp) (e : Entry) → Takes b t e → Settled b t e.place
settled b t e w =
    ⊎_elim
    (λ x.
    let h : place_of b (id_of t.code t.id) < length b = ltb-true _ _ x.0 in
    let q = x.2 in
    record { short = w.1; within = omega arith; first = omega arith })
    (λ x.
    let h : free_place b < length b = ltb-true _ _ x.1 in
    let new : length b ≤ place_of b (id_of t.code t.id) = ltb-false _ _ x.0 in
    let q = x.2 in
    record { short = w.1; within = omega arith; first = omega arith })
    w.2

-- ---- a message that comes again
pub not_less : (z : ℤ) → lt_z z z ≡ false
not_less z = grind (arith, ints)

again : (b : List Sender) (t : Stamp) (e : Entry) → Takes b t e
    → stamping (set b e.place (holding e.stamp)) t ≡ refused 27 t.numbered
again b t e w =
    let s = settled b t e w in
    let own = id_of t.code t.id in
    let after = set b e.place (holding e.stamp) in
    let there : place_of after own ≡ e.place
    = place_set b e.place (holding e.stamp) own s.within s.first
    (ap (λ (x : Stamp). holds (holding x) own) w.0 ∙ holds_own t s.short) in
    let n : length after ≡ length b = length-set b e.place (holding e.stamp) in
    let inside = s.within in
    let held : is_held after own ≡ true = lt-ltb (place_of after own) (length after) (omega arith) in
    let number : number_held after own ≡ t.number
    = ap (λ (j : ℕ). (entry_in after j).number) there
    ∙ ap (λ (x : Sender). x.number) (set_same b e.place (holding e.stamp) s.within)
    ∙ ap (λ (x : Stamp). x.number) w.0 in
    refused_back after t 27 t.numbered
    (inr (inl (refl, refl, s.short, held, ap (λ (z : ℤ). lt_z z t.number) number ∙ not_less t.number)))

pub repeat_is_refused : RepeatIsRefused
repeat_is_refused b s m e r z =
    let t = accepted_is_stamped s m r in
    let w = taken_into b t.0 e (sym (t.2 b) ∙ z) in
    ap (λ (a : Answer Entry). taking (book_after b a) s) z
    ∙ (t.2 (set b e.place (holding e.stamp)) ∙ (again b t.0 e w ∙ ap (refused 27) t.1.numbered))

pub refused_changes_nothing : RefusedChangesNothing
refused_changes_nothing b s k p e = ap (book_after b) e

-- ---- closing, by its test
pub record Closes (b : List Sender) (c : ℕ) (l : List ℕ) : Type 0 where
  pub says : (closing b c l).held ≡ true
  pub short : length l ≤ id_bytes
  pub held : is_held b (id_of c l) ≡ true
  pub frees : (closing b c l).book ≡ set b (place_of b (id_of c l)) free

pub record Leaves (b : List Sender) (c : ℕ) (l : List ℕ) : Type 0 where
  pub says : (closing b c l).held ≡ false
  pub unknown : is_held b (id_of c l) ≡ false
  pub same : (closing b c l).book ≡ b

pub closing_cases : (b : List Sender) (c : ℕ) (l : List ℕ) → Closes b c l ⊎ Leaves b c l
unfolding closing
closing_cases b c l = go (is_held b (id_of c l)) refl
  where
    go : (t : Bool) → is_held b (id_of c l) ≡ t → Closes b c l ⊎ Leaves b c l
    go true h =
        let there = place_holds b (id_of c l) (ltb-true _ _ h) in
        let short = same_short _ c l (holds_same (entry_in b (place_of b (id_of c l))) (id_of c l) there) in
        inl (record { says = rw h refl; short = short; held = h; frees = rw h refl })
    go false h = inr (record { says = rw h refl; unknown = h; same = rw h refl })

pub not_both : true ≡ false → ⊥
not_both e = cc

pub closing_unknown : ClosingUnknown
closing_unknown b c l =
    ⊎_elim (λ w. (w.says ∙ sym w.held, λ e. absurd (not_both (sym w.says ∙ e))))
    (λ w. (w.says ∙ sym w.unknown, λ e. w.same)) (closing_cases b c l)

-- a sender that is held once, and whose place is freed, is held nowhere
pub freed : (b : List Sender) (id : Id) → Once b → place_of b id < length b → (j : ℕ)
    → holds (entry_in (set b (place_of b id) free) j) id ≡ true → ⊥
freed b id once h j x =
    go (eqb j (place_of b id)) refl (ap (λ (z : Sender). holds z id) (sym (set_entry b (place_of b id) free h j)) ∙ x)
  where
    go : (t : Bool) → eqb j (place_of b id) ≡ t → holds (cond t free (entry_in b j)) id ≡ true → ⊥
    go true q x = free_not_held id x
    go false q x = eqb-false j (place_of b id) q (once id j (place_of b id) x (place_holds b id h))

pub closing_removes : ClosingRemoves
closing_removes b c l once e =
    ⊎_elim
    (λ w.
    let p = place_of b (id_of c l) in
    let bs = set b p free in
    let h : p < length b = ltb-true _ _ w.held in
    let gone : is_held bs (id_of c l) ≡ false = is_not_held bs (id_of c l) (freed b (id_of c l) once h) in
    let n : length bs ≡ length b = length-set b p free in
    let f : free_place bs ≤ p
    = free_least bs p (omega arith) (ap (λ (x : Sender). x.held) (set_same b p free h)) in
    let room : has_place bs ≡ true = lt-ltb (free_place bs) (length bs) (omega arith) in
    subst
    (λ (x : List Sender).
    (is_held x (id_of c l) ≡ false) × ((t : Stamp) → t.code ≡ c → t.id ≡ l → (e : Entry) × (stamping x t ≡ fine e)))
    (sym w.frees) (
      gone,
      λ t q r. (
        entry_as t (free_place bs),
        taken_in bs t (subst (λ (k : List ℕ). length k ≤ id_bytes) (sym r) w.short)
            (ap (is_held bs) (λ i. id_of (q i) (r i)) ∙ gone) room,
      ),
    ))
    (λ w. absurd (not_both (sym e ∙ w.says))) (closing_cases b c l)
