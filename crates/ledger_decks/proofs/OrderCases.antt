-- How the ledger's judgement answers, case by case: each test of the definition, passed or failed.
use Prim.Native.Nat.{ℕ, ◌+◌, ◌≤◌, ◌<◌}
use mathlib.Core.Path.{◌≡◌, refl, sym, ap, ◌∙◌}
use mathlib.Core.Bool.{Bool, true, false, ◌&&◌}
use mathlib.Core.List.{List}
use native.Mathlib.Omega.{arith}
use lib.ListN.{length, take, drop, length-drop}
use lib.Dec.{eqb}
use lib.Seq.{length-take-le}
use borrow.Author.Tests.{lt-ltb, le-ltb, eq-eqb, ne_eqb, eqb-true, eqb-false}
use Rattle.std.specs.Str.{bytes_eq}
use Rattle.std.proofs.lemmas.Bool.{false_from_ne_true}
use Rattle.std.proofs.lemmas.Slice.Eq.{bytes_eq-Decides}
use Rattle.sim0mq.specs.Answer.{Answer, fine, refused}
use Rattle.sim0mq.specs.Field.{Field, outline, after}
use Rattle.sim0mq.proofs.Answers.{bind_fine}
use Rattle.sim0mq_numbers.specs.Numbers.{number_at}
use Rattle.senders_book.specs.Book.{alike}
use Rattle.senders_book.proofs.IdLaws.{alike_slices}
use Rattle.senders_book.proofs.StampLaws.{outline_within}
use Rattle.ledger_decks.specs.declared.Deed.TheVariants.{Joins, Moves, Leaves}
use Rattle.ledger_decks.specs.Decks.{deck_count, deck_heads, heads_on, decks_after}
use Rattle.ledger_decks.specs.Mustering.{muster_type, is_muster, fields_for, joining, moving, leaving, deed_of, deed_for, ordering_at, following}

-- the type frame: its code, and its bytes
module _ (s : List ℕ) (f : Field) (h : f.first + f.size ≤ length s) where
  -- bytes of another number are others
  bytes_alike : (n : ℕ) → f.size ≡ n → (b : Bool) → eqb n 5 ≡ b
      → bytes_eq (take f.size (drop f.first s)) muster_type ≡ (b && alike 5 (drop f.first s) muster_type)
  bytes_alike n e true q =
      let five : f.size ≡ 5 = e ∙ eqb-true n 5 q in
      let long = length-drop f.first s in
      rw five (alike_slices (drop f.first s) muster_type 5 (omega arith) (omega arith))
  bytes_alike n e false q =
      let long = length-drop f.first s in
      let many = length-take-le f.size (drop f.first s) (omega arith) in
      let other = eqb-false n 5 q in
      false_from_ne_true _
      (λ t.
      let same = ap (λ (l : List ℕ). length l) ((bytes_eq-Decides (take f.size (drop f.first s)) muster_type).0 t) in
      other (omega arith))

  pub muster_bytes : f.code ≡ 9 → bytes_eq (take f.size (drop f.first s)) muster_type ≡ is_muster s f
  unfolding is_muster
  muster_bytes c = bytes_alike f.size refl (eqb f.size 5) refl ∙ rw (eq-eqb _ _ c) refl

pub other_code : (s : List ℕ) (f : Field) → (f.code ≡ 9 → ⊥) → eqb f.code 9 ≡ is_muster s f
unfolding is_muster
other_code s f d = rw (ne_eqb _ _ d) refl

-- new and delete, of one field
module _ (ds s : List ℕ) (f : Field) where
  pub join_code : (f.code ≡ 0 → ⊥) → refused 22 f.place ≡ joining ds s f
  unfolding joining
  join_code d = rw (ne_eqb _ _ d) refl

  pub leave_code : (f.code ≡ 0 → ⊥) → refused 22 f.place ≡ leaving ds s f
  unfolding leaving
  leave_code d = rw (ne_eqb _ _ d) refl

  module _ (c : f.code ≡ 0) (d : ℕ) (n : d ≡ number_at s f.first f.size) where
    pub join-deck : deck_count ≤ d → refused 29 f.place ≡ joining ds s f
    unfolding joining
    join-deck h = rw (eq-eqb _ _ c, ← n, le-ltb d deck_count h) refl

    pub leave-deck : deck_count ≤ d → refused 29 f.place ≡ leaving ds s f
    unfolding leaving
    leave-deck h = rw (eq-eqb _ _ c, ← n, le-ltb d deck_count h) refl

    module _ (h : d < deck_count) where
      pub join-full : deck_heads ≤ heads_on ds d → refused 31 f.place ≡ joining ds s f
      unfolding joining
      join-full g = rw (eq-eqb _ _ c, ← n, lt-ltb d deck_count h, le-ltb (heads_on ds d) deck_heads g) refl

      pub join_goes : heads_on ds d < deck_heads → fine (Joins d) ≡ joining ds s f
      unfolding joining
      join_goes g = rw (eq-eqb _ _ c, ← n, lt-ltb d deck_count h, lt-ltb (heads_on ds d) deck_heads g) refl

      pub leave_none : heads_on ds d ≤ 0 → refused 30 f.place ≡ leaving ds s f
      unfolding leaving
      leave_none g = rw (eq-eqb _ _ c, ← n, lt-ltb d deck_count h, le-ltb 0 (heads_on ds d) g) refl

      pub leave-goes : 0 < heads_on ds d → fine (Leaves d) ≡ leaving ds s f
      unfolding leaving
      leave-goes g = rw (eq-eqb _ _ c, ← n, lt-ltb d deck_count h, lt-ltb 0 (heads_on ds d) g) refl

-- change, of two fields
module _ (ds s : List ℕ) (f g : Field) where
  pub move_code : (f.code ≡ 0 → ⊥) → refused 22 f.place ≡ moving ds s f g
  unfolding moving
  move_code d = rw (ne_eqb _ _ d) refl

  module _ (a : f.code ≡ 0) where
    pub move-code-2 : (g.code ≡ 0 → ⊥) → refused 22 g.place ≡ moving ds s f g
    unfolding moving
    move-code-2 d = rw (eq-eqb _ _ a, ne_eqb _ _ d) refl

    module _ (b : g.code ≡ 0) (d : ℕ) (n : d ≡ number_at s f.first f.size) where
      pub move-deck : deck_count ≤ d → refused 29 f.place ≡ moving ds s f g
      unfolding moving
      move-deck h = rw (eq-eqb _ _ a, eq-eqb _ _ b, ← n, le-ltb d deck_count h) refl

      module _ (h : d < deck_count) (left : ℕ) (m : left ≡ number_at s g.first g.size) where
        pub move-deck-2 : deck_count ≤ left → refused 29 g.place ≡ moving ds s f g
        unfolding moving
        move-deck-2 i =
            rw (eq-eqb _ _ a, eq-eqb _ _ b, ← n, ← m, lt-ltb d deck_count h, le-ltb left deck_count i) refl

        module _ (i : left < deck_count) where
          pub move-none : heads_on ds left ≤ 0 → refused 30 g.place ≡ moving ds s f g
          unfolding moving
          move-none j =
              rw (
                eq-eqb _ _ a,
                eq-eqb _ _ b,
                ← n,
                ← m,
                lt-ltb d deck_count h,
                lt-ltb left deck_count i,
                le-ltb 0 (heads_on ds left) j,
              ) refl

          module _ (j : 0 < heads_on ds left) where
            pub move-full : (d ≡ left → ⊥) → deck_heads ≤ heads_on ds d → refused 31 f.place ≡ moving ds s f g
            unfolding moving
            move-full k l =
                rw (
                  eq-eqb _ _ a,
                  eq-eqb _ _ b,
                  ← n,
                  ← m,
                  lt-ltb d deck_count h,
                  lt-ltb left deck_count i,
                  lt-ltb 0 (heads_on ds left) j,
                  ne_eqb d left k,
                  le-ltb (heads_on ds d) deck_heads l,
                ) refl

            pub move-goes : (d ≡ left → ⊥) → heads_on ds d < deck_heads → fine (Moves d left) ≡ moving ds s f g
            unfolding moving
            move-goes k l =
                rw (
                  eq-eqb _ _ a,
                  eq-eqb _ _ b,
                  ← n,
                  ← m,
                  lt-ltb d deck_count h,
                  lt-ltb left deck_count i,
                  lt-ltb 0 (heads_on ds left) j,
                  ne_eqb d left k,
                  lt-ltb (heads_on ds d) deck_heads l,
                ) refl

            pub move-stays : d ≡ left → fine (Moves d left) ≡ moving ds s f g
            unfolding moving
            move-stays k =
                rw (
                  eq-eqb _ _ a,
                  eq-eqb _ _ b,
                  ← n,
                  ← m,
                  lt-ltb d deck_count h,
                  lt-ltb left deck_count i,
                  lt-ltb 0 (heads_on ds left) j,
                  eq-eqb d left k,
                ) refl

-- by status
module _ (status : ℕ) (ds s : List ℕ) (f : Field) (second : Answer Field) where
  pub deed_new : status ≡ 1 → joining ds s f ≡ deed_of status ds s f second
  unfolding deed_of
  deed_new e = rw (eq-eqb _ _ e) refl

  module _ (d : status ≡ 1 → ⊥) where
    pub deed-delete : (status ≡ 2 → ⊥) → leaving ds s f ≡ deed_of status ds s f second
    unfolding deed_of
    deed-delete e = rw (ne_eqb status 1 d, ne_eqb status 2 e) refl

    module _ (e : status ≡ 2) where
      pub deed-change : (g : Field) → second ≡ fine g → moving ds s f g ≡ deed_of status ds s f second
      unfolding deed_of
      deed-change g q = rw (ne_eqb status 1 d, eq-eqb status 2 e, q) refl

      pub deed-stops : (k p : ℕ) → second ≡ refused k p → refused k p ≡ deed_of status ds s f second
      unfolding deed_of
      deed-stops k p q = rw (ne_eqb status 1 d, eq-eqb status 2 e, q) refl

pub fields_two : (x : ℕ) → x ≡ 2 → 2 ≡ fields_for x
unfolding fields_for
fields_two x e = rw (eq-eqb x 2 e) refl

-- the field after another
module _ (s : List ℕ) where
  pub follows_at : (f : Field) → outline s (f.first + f.size) ≡ following s (fine f)
  unfolding following after
  follows_at f = refl

  pub follows_goes : (x : Answer Field) (f : Field) → x ≡ fine f → following s (fine f) ≡ following s x
  follows_goes x f e = ap (following s) (sym e)

  pub follows_stops : (x : Answer Field) (k p : ℕ) → x ≡ refused k p → refused k p ≡ following s x
  unfolding following
  follows_stops x k p e = rw e refl

  -- it lies in the bytes
  pub follows_within : (x : Answer Field) (f : Field) → following s x ≡ fine f → f.first + f.size ≤ length s
  unfolding following
  follows_within x f q = let c = bind_fine x _ q in outline_within s _ f c.2

-- by the first field
module _ (status : ℕ) (ds s : List ℕ) (first : Answer Field) where
  pub first_stops : (k p : ℕ) → first ≡ refused k p → refused k p ≡ deed_for status ds s first (following s first)
  unfolding deed_for
  first_stops k p e = rw e refl

  pub first_goes : (f : Field) → first ≡ fine f
      → deed_of status ds s f (following s (fine f)) ≡ deed_for status ds s first (following s first)
  unfolding deed_for
  first_goes f e = rw e refl

-- the whole judgement
module _ (ds s : List ℕ) (kind status n : ℕ) (first second : Answer Field) where
  pub order_kind : (k p : ℕ) → outline s kind ≡ refused k p → refused k p ≡ ordering_at ds s kind status n first second
  unfolding ordering_at
  order_kind k p e = rw e refl

  module _ (f : Field) (e : outline s kind ≡ fine f) where
    pub order_other : is_muster s f ≡ false → refused 20 kind ≡ ordering_at ds s kind status n first second
    unfolding ordering_at
    order_other m = rw (e, m) refl

    module _ (m : is_muster s f ≡ true) where
      pub order-status : (k p : ℕ) → outline s status ≡ refused k p
          → refused k p ≡ ordering_at ds s kind status n first second
      unfolding ordering_at
      order-status k p d = rw (e, m, d) refl

      module _ (g : Field) (d : outline s status ≡ fine g) (x : ℕ) (q : x ≡ number_at s g.first g.size) where
        module _ (w : ℕ) (z : w ≡ fields_for x) where
          pub order-many : (n ≡ w → ⊥) → refused 21 kind ≡ ordering_at ds s kind status n first second
          unfolding ordering_at
          order-many h = rw (e, m, d, ← q, ← z, ne_eqb n w h) refl

          pub order-goes : n ≡ w → deed_for x ds s first second ≡ ordering_at ds s kind status n first second
          unfolding ordering_at
          order-goes h = rw (e, m, d, ← q, ← z, eq-eqb n w h) refl

-- a change from a deck to itself alters none
pub stays : (ds : List ℕ) (joined left : ℕ) → joined ≡ left → ds ≡ decks_after ds (Moves joined left)
unfolding decks_after
stays ds joined left q = rw (eq-eqb joined left q) refl
