-- The first place of a sender, and the first that is free: each is the first place where a test holds.
use Prim.Native.Nat.{ℕ, zero, suc, ◌+◌, ◌≤◌, ◌<◌}
use mathlib.Core.Path.{◌≡◌, refl, ap, ◌∙◌}
use mathlib.Core.Bool.{Bool, true, false, cond, not}
use mathlib.Core.Logic.{inl, inr}
use mathlib.Core.List.{List, [], ◌∷◌}
use native.Mathlib.Omega.{arith}
use lib.ListN.{length, set, replicate}
use lib.Seq.{get_or-set_same, get_or-set_other}
use lib.Dec.{eqb}
use borrow.Author.Tests.{ltb-true, lt-ltb, le-ltb, eqb-true, eqb-false, not-true}
use Rattle.std.specs.Option.{unwrap_or}
use Rattle.std.specs.List.{position, position_or_len}
use Rattle.std.proofs.lemmas.Bool.{cases_lt, false_from_ne_true, true_from_ne_false}
use Rattle.std.proofs.lemmas.List.{get_or_past}
use Rattle.std.proofs.lemmas.List.Recursion.{is_position_or_len}
use Rattle.std.proofs.lemmas.List.Sums.{prefix_len-le-length, fails_before_first, passes_at_first}
use Rattle.senders_book.specs.declared.Id.{Id}
use Rattle.senders_book.specs.declared.Sender.{Sender}
use Rattle.senders_book.specs.Book.{free, nowhere, holds, place_of, free_place, entry_in, is_held}
use Rattle.senders_book.specs.Promises.{PlaceIsTheFirst, FreeIsTheFirst}

-- the first place where a test holds comes no later than any where it does
first_least : (p : Sender → Bool) (b : List Sender) (j : ℕ) → p (entry_in b j) ≡ true → position_or_len p b ≤ j
first_least p b j h = elim (cases_lt j (position_or_len p b)) [
  | inl l ↦ let f = fails_before_first p b j nowhere l in absurd cc
  | inr g ↦ g
]

-- and is what looking for it finds, with the number of places where none is found
first_found : (p : Sender → Bool) (b : List Sender) → position_or_len p b ≡ unwrap_or (position p b) (length b)
first_found p b = elim (cases_lt (position_or_len p b) (length b)) [
  | inl l ↦ rw (lt-ltb _ _ l) refl
  | inr g ↦ let h = prefix_len-le-length (λ x. not (p x)) b in rw (le-ltb _ _ g) (omega arith)
]

-- the first place of a sender, and the first that is free, are the first of a test
place_first : (b : List Sender) (id : Id) → place_of b id ≡ position_or_len (λ e. holds e id) b
unfolding place_of
place_first b id =
    is_position_or_len (λ l. place_of l id) (λ e. holds e id) refl (λ e es. ap (cond (holds e id) 0) (omega arith)) b

free_first : (b : List Sender) → free_place b ≡ position_or_len (λ e. not e.held) b
unfolding free_place
free_first b = is_position_or_len free_place (λ e. not e.held) refl (λ e es. turned e.held (free_place es)) b
  where
    turned : (t : Bool) (n : ℕ) → cond t (suc n) 0 ≡ cond (not t) 0 (1 + n)
    turned true n = omega arith
    turned false n = refl

-- so what looking for them finds is their place
pub place_found : (b : List Sender) (id : Id) → place_of b id ≡ unwrap_or (position (λ e. holds e id) b) (length b)
place_found b id = place_first b id ∙ first_found (λ e. holds e id) b

pub free_found : (b : List Sender) → free_place b ≡ unwrap_or (position (λ e. not e.held) b) (length b)
free_found b = free_first b ∙ first_found (λ e. not e.held) b

-- the first place of a sender
pub place_least : (b : List Sender) (id : Id) (j : ℕ) → holds (entry_in b j) id ≡ true → place_of b id ≤ j
place_least b id j h = rw (place_first b id) (first_least (λ e. holds e id) b j h)

pub place_holds : (b : List Sender) (id : Id) → place_of b id < length b → holds (entry_in b (place_of b id)) id ≡ true
place_holds b id h = rw (place_first b id) (passes_at_first (λ e. holds e id) b nowhere (rw (place_first b id) at h))

pub place_is_the_first : PlaceIsTheFirst
place_is_the_first b id h = (
  place_holds b id (ltb-true _ _ h),
  λ i l. false_from_ne_true (holds (entry_in b i) id) (λ e. let k = place_least b id i e in omega arith),
)

-- the first free place
pub free_least : (b : List Sender) (j : ℕ) → j < length b → (entry_in b j).held ≡ false → free_place b ≤ j
free_least b j l h = rw (free_first b) (first_least (λ e. not e.held) b j (ap not h))

free_free : (b : List Sender) → free_place b < length b → (entry_in b (free_place b)).held ≡ false
free_free b h =
    rw (free_first b) (not-true _ (passes_at_first (λ e. not e.held) b nowhere (rw (free_first b) at h)))

pub free_is_the_first : FreeIsTheFirst
free_is_the_first b h =
    let l = ltb-true _ _ h in (
      free_free b l,
      λ i k. true_from_ne_false (entry_in b i).held (λ e. let n = free_least b i (omega arith) e in omega arith),
    )

-- nothing past the last place is held, and no free place
pub not_held : (id : Id) → holds nowhere id ≡ true → ⊥
unfolding holds
not_held id e = cc

pub free_not_held : (id : Id) → holds free id ≡ true → ⊥
unfolding holds
free_not_held id e = cc

pub held_within : (b : List Sender) (id : Id) (j : ℕ) → holds (entry_in b j) id ≡ true → j < length b
held_within b id j h = elim (cases_lt j (length b)) [
  | inl l ↦ l
  | inr g ↦ absurd (not_held id (rw (get_or_past b j nowhere g) at h))
]

-- a sender is held where a place holds it, and not where none does
pub is_held_lem : (b : List Sender) (id : Id) (j : ℕ) → holds (entry_in b j) id ≡ true → is_held b id ≡ true
is_held_lem b id j h =
    let k = place_least b id j h in
    let l = held_within b id j h in
    lt-ltb (place_of b id) (length b) (omega arith)

pub is_not_held : (b : List Sender) (id : Id) → ((j : ℕ) → holds (entry_in b j) id ≡ true → ⊥) → is_held b id ≡ false
is_not_held b id none =
    false_from_ne_true (is_held b id) (λ h. none (place_of b id) (place_holds b id (ltb-true _ _ h)))

-- no sender is held in a book of free places
pub none_held : (n : ℕ) (id : Id) (i : ℕ) → holds (entry_in (replicate n free) i) id ≡ true → ⊥
none_held zero id i h = not_held id h
none_held (suc n) id zero h = free_not_held id h
none_held (suc n) id (suc i) h = none_held n id i h

-- the place of a sender, once its own is set no later than the first was
pub place_set : (b : List Sender) (p : ℕ) (e : Sender) (id : Id) → p < length b → p ≤ place_of b id → holds e id ≡ true → place_of (set b p e) id ≡ p
unfolding place_of
place_set [] p e id h l k = absurd (omega arith)
place_set (x ∷ xs) zero e id h l k = rw k refl
place_set (x ∷ xs) (suc p) e id h l k = go (λ l. place_set xs p e id (omega arith) l k) (holds x id) l
  where
    go : (p ≤ place_of xs id → place_of (set xs p e) id ≡ p) → (t : Bool) → suc p ≤ cond t 0 (suc (place_of xs id))
        → cond t 0 (suc (place_of (set xs p e) id)) ≡ suc p
    go r true l = absurd (omega arith)
    go r false l = ap suc (r (omega arith))

-- a place is set: the entry there, and all others as they were
module _ (b : List Sender) (p : ℕ) (e : Sender) (h : p < length b) where
  pub set_same : entry_in (set b p e) p ≡ e
  set_same = get_or-set_same b p e nowhere h

  pub set_entry : (i : ℕ) → entry_in (set b p e) i ≡ cond (eqb i p) e (entry_in b i)
  set_entry i = go (eqb i p) refl
    where
      go : (t : Bool) → eqb i p ≡ t → entry_in (set b p e) i ≡ cond t e (entry_in b i)
      go true q = ap (entry_in (set b p e)) (eqb-true i p q) ∙ set_same
      go false q = get_or-set_other b p i e nowhere (eqb-false i p q)
