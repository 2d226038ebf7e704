-- How settling, stamping, taking and closing answer, case by case: each test of the definition, passed or failed.
use Prim.Native.Nat.{ℕ, ◌≤◌, ◌<◌}
use mathlib.Core.Path.{◌≡◌, refl, sym, ap, ◌∙◌, subst}
use mathlib.Core.Bool.{true, false}
use mathlib.Core.List.{List}
use lib.ListN.{length, set, take, drop}
use lib.IntN.{ℤ}
use lib.Signed.{lt_z}
use lib.Dec.{ltb}
use borrow.Author.Tests.{lt-ltb, le-ltb, le-leb, lt-leb}
use Rattle.sim0mq.specs.Answer.{fine, refused, ◌>>◌, guard}
use Rattle.sim0mq.specs.Field.{Field, outline}
use Rattle.sim0mq.specs.Header.{Frame}
use Rattle.sim0mq_numbers.specs.Numbers.{number_at}
use Rattle.sim0mq_signed.specs.Signed.{twos}
use Rattle.senders_book.specs.declared.Id.{Id}
use Rattle.senders_book.specs.declared.Sender.{Sender}
use Rattle.senders_book.specs.Book.{
  id_bytes,
  free,
  id_of,
  place_of,
  free_place,
  entry_in,
  is_held,
  number_held,
  has_place,
  settling,
  closing,
}
use Rattle.senders_book.proofs.IdLaws.{same_long, holds_same}
use Rattle.senders_book.proofs.PlaceLaws.{is_not_held}
use Rattle.senders_book.specs.Taking.{Stamp, stamped, frame_place, stamp_at, entry_as, stamping, taking_framed}

-- what settling answers, by whether the sender is held
module _ (b : List Sender) (id : Id) (n : ℤ) (sender numbered : ℕ) where
  pub settling_held : is_held b id ≡ true
      → settling b id n sender numbered ≡ (guard (lt_z (number_held b id) n) 27 numbered >> fine (place_of b id))
  unfolding settling
  settling_held h = rw h refl

  pub settling_new : is_held b id ≡ false
      → settling b id n sender numbered ≡ (guard (has_place b) 28 sender >> fine (free_place b))
  unfolding settling
  settling_new h = rw h refl

  -- a place for a number: of a sender that is held, and of a new one
  module _ (i : ℕ) (p : i ≡ place_of b id) where
    module _ (h : i < length b) where
      held_at : is_held b id ≡ true
      held_at = subst (λ (j : ℕ). ltb j (length b) ≡ true) p (lt-ltb i (length b) h)

      pub settle-greater : lt_z (entry_in b i).number n ≡ true → fine i ≡ settling b id n sender numbered
      settle-greater g =
          let less : lt_z (number_held b id) n ≡ true = subst (λ (j : ℕ). lt_z (entry_in b j).number n ≡ true) p g in
          ap fine p ∙ sym (settling_held held_at ∙ rw less refl)

      pub settle-behind : lt_z (entry_in b i).number n ≡ false → refused 27 numbered ≡ settling b id n sender numbered
      settle-behind g =
          let behind : lt_z (number_held b id) n ≡ false = subst (λ (j : ℕ). lt_z (entry_in b j).number n ≡ false) p g in
          sym (settling_held held_at ∙ rw behind refl)

    module _ (h : length b ≤ i) (j : ℕ) (q : j ≡ free_place b) where
      new-at : is_held b id ≡ false
      new-at = subst (λ (k : ℕ). ltb k (length b) ≡ false) p (le-ltb i (length b) h)

      pub settle-new : j < length b → fine j ≡ settling b id n sender numbered
      settle-new g =
          let room : has_place b ≡ true = subst (λ (k : ℕ). ltb k (length b) ≡ true) q (lt-ltb j (length b) g) in
          ap fine q ∙ sym (settling_new new-at ∙ rw room refl)

      pub settle-full : length b ≤ j → refused 28 sender ≡ settling b id n sender numbered
      settle-full g =
          let full : has_place b ≡ false = subst (λ (k : ℕ). ltb k (length b) ≡ false) q (le-ltb j (length b) g) in
          sym (settling_new new-at ∙ rw full refl)

-- an entry for a stamp
module _ (b : List Sender) (t : Stamp) where
  pub stamp_long : id_bytes < length t.id → refused 26 t.sender ≡ stamping b t
  unfolding stamping
  stamp_long h = rw (lt-leb (length t.id) id_bytes h) refl

  module _ (h : length t.id ≤ id_bytes) (id : Id) (q : id ≡ id_of t.code t.id) where
    pub stamp-stops : (k p : ℕ) → settling b id t.number t.sender t.numbered ≡ refused k p
        → refused k p ≡ stamping b t
    unfolding stamping
    stamp-stops k p z = rw (le-leb (length t.id) id_bytes h, ← q, z) refl

    pub stamp-goes : (i : ℕ) → settling b id t.number t.sender t.numbered ≡ fine i
        → fine (entry_as t i) ≡ stamping b t
    unfolding stamping
    stamp-goes i z = rw (le-leb (length t.id) id_bytes h, ← q, z) refl

-- the stamp of the bytes whose two frames stand at these places
module _ (s : List ℕ) (sender numbered : ℕ) where
  pub stamp-sender : (k p : ℕ) → outline s sender ≡ refused k p → refused k p ≡ stamp_at s sender numbered
  unfolding stamp_at
  stamp-sender k p e = rw e refl

  module _ (f : Field) (e : outline s sender ≡ fine f) where
    pub stamp-number : (k p : ℕ) → outline s numbered ≡ refused k p → refused k p ≡ stamp_at s sender numbered
    unfolding stamp_at
    stamp-number k p d = rw (e, d) refl

    pub stamp-there : (g : Field) (id : List ℕ) (n : ℕ) (z : ℤ) → outline s numbered ≡ fine g
        → id ≡ take f.size (drop f.first s) → n ≡ number_at s g.first g.size → z ≡ twos 64 n
        → fine (stamped sender numbered f.code id z) ≡ stamp_at s sender numbered
    unfolding stamp_at
    stamp-there g id n z d p q r = rw (e, d, p, r, q) refl

-- taking by two frames is taking their stamp
module _ (b : List Sender) (s : List ℕ) (frames : List Frame) where
  module _ (sender numbered : ℕ) (x : sender ≡ frame_place frames 2) (y : numbered ≡ frame_place frames 5) where
    pub at-fault : (k p : ℕ) → refused k p ≡ stamp_at s sender numbered → refused k p ≡ taking_framed b s frames
    unfolding taking_framed
    at-fault k p e = rw (← x, ← y, ← e) refl

    pub at-stamp : (t : Stamp) → fine t ≡ stamp_at s sender numbered → stamping b t ≡ taking_framed b s frames
    unfolding taking_framed
    at-stamp t e = rw (← x, ← y, ← e) refl

-- closing
module _ (b : List Sender) (c : ℕ) (l : List ℕ) where
  -- nobody's id is too long
  long_unknown : id_bytes < length l → is_held b (id_of c l) ≡ false
  long_unknown h = is_not_held b (id_of c l) (λ j x. same_long _ c l h (holds_same (entry_in b j) (id_of c l) x))

  pub close_long : id_bytes < length l → record { held = false; book = b } ≡ closing b c l
  unfolding closing
  close_long h = rw (long_unknown h) refl

  module _ (id : Id) (q : id ≡ id_of c l) (i : ℕ) (p : i ≡ place_of b id) where
    pub close-held : i < length b → record { held = true; book = set b i free } ≡ closing b c l
    unfolding closing
    close-held g = rw (← q, ← p, lt-ltb i (length b) g) refl

    pub close-none : length b ≤ i → record { held = false; book = b } ≡ closing b c l
    unfolding closing
    close-none g = rw (← q, ← p, le-ltb i (length b) g) refl
