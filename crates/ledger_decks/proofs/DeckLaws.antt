-- What a deed does to each deck and to all together: a deck that is joined has one head more, a deck that is left one
-- less, and a head is moved only from a deck that has one to a deck that has room.
use Prim.Native.Nat.{ℕ, zero, suc, ◌+◌, ◌-◌, ◌≤◌, ◌<◌}
use mathlib.Core.Path.{◌≡◌, refl, sym, ap, ◌∙◌, subst}
use mathlib.Core.Bool.{Bool, true, false, cond, ◌||◌}
use mathlib.Core.List.{List, [], ◌∷◌}
use native.Mathlib.Omega.{arith}
use lib.ListN.{length, set, length-set}
use lib.Seq.{get_or-set_same, get_or-set_other}
use lib.Dec.{eqb}
use borrow.Author.Tests.{ltb-true, eqb-true, eqb-false}
use Rattle.ledger_decks.specs.declared.Deed.{Deed}
use Rattle.ledger_decks.specs.declared.Deed.TheVariants.{Joins, Moves, Leaves}
use Rattle.ledger_decks.specs.Decks.{deck_count, deck_heads, heads_on, total, one_more, one_less, decks_after}
use Rattle.ledger_decks.specs.Mustering.{has_room}
use Rattle.ledger_decks.specs.Promises.{CanBeDone}
use Rattle.ledger_decks.specs.History.{is_new, is_delete, arrives, departs}
use Rattle.ledger_decks.proofs.OrderCases.{stays}

-- one deck after one more, and after one less
module _ (ds : List ℕ) (e : ℕ) (h : e < length ds) where
  set_at : (d x : ℕ) → heads_on (set ds e x) d ≡ cond (eqb d e) x (heads_on ds d)
  set_at d x = go (eqb d e) refl
    where
      go : (t : Bool) → eqb d e ≡ t → heads_on (set ds e x) d ≡ cond t x (heads_on ds d)
      go true q = ap (heads_on (set ds e x)) (eqb-true d e q) ∙ get_or-set_same ds e x 0 h
      go false q = get_or-set_other ds e d x 0 (eqb-false d e q)

  more_at : (d : ℕ) → heads_on (one_more ds e) d ≡ heads_on ds d + cond (eqb d e) 1 0
  more_at d = set_at d (heads_on ds e + 1) ∙ go (eqb d e) refl
    where
      go : (t : Bool) → eqb d e ≡ t → cond t (heads_on ds e + 1) (heads_on ds d) ≡ heads_on ds d + cond t 1 0
      go true q = ap (λ (j : ℕ). heads_on ds j + 1) (sym (eqb-true d e q))
      go false q = omega arith

  less_at : 1 ≤ heads_on ds e → (d : ℕ) → heads_on (one_less ds e) d + cond (eqb d e) 1 0 ≡ heads_on ds d
  less_at one d = ap (λ (j : ℕ). j + cond (eqb d e) 1 0) (set_at d (heads_on ds e - 1)) ∙ go (eqb d e) refl
    where
      go : (t : Bool) → eqb d e ≡ t → cond t (heads_on ds e - 1) (heads_on ds d) + cond t 1 0 ≡ heads_on ds d
      go true q = let z : heads_on ds d ≡ heads_on ds e = ap (heads_on ds) (eqb-true d e q) in omega arith
      go false q = omega arith

-- all decks together
total_set : (ds : List ℕ) (e x : ℕ) → e < length ds → total (set ds e x) + heads_on ds e ≡ total ds + x
unfolding total
total_set [] e x h = absurd (omega arith)
total_set (y ∷ ys) zero x h = omega arith
total_set (y ∷ ys) (suc e) x h = let r = total_set ys e x (omega arith) in omega arith

-- the room of a deck that is joined from another
room_of : (ds : List ℕ) (joined left : ℕ) → eqb joined left ≡ false → (eqb joined left || has_room ds joined) ≡ true
    → heads_on ds joined < deck_heads
room_of ds joined left q h = ltb-true _ _ (rw q at h)

module _ (ds : List ℕ) (long : length ds ≡ deck_count) where
  pub deed_long : (x : Deed) → length (decks_after ds x) ≡ deck_count
  unfolding decks_after
  deed_long (Joins joined) = length-set ds joined (heads_on ds joined + 1) ∙ long
  deed_long (Leaves left) = length-set ds left (heads_on ds left - 1) ∙ long
  deed_long (Moves joined left) = go (eqb joined left)
    where
      go : (t : Bool) → length (cond t ds (one_more (one_less ds left) joined)) ≡ deck_count
      go true = long
      go false = length-set (one_less ds left) joined _ ∙ (length-set ds left _ ∙ long)

  pub deed_deck : (x : Deed) → CanBeDone ds x → (d : ℕ)
      → heads_on (decks_after ds x) d + departs d x ≡ heads_on ds d + arrives d x
  unfolding decks_after
  deed_deck (Joins joined) h d = let m = more_at ds joined (omega arith) d in omega arith
  deed_deck (Leaves left) h d = let m = less_at ds left (omega arith) h.1 d in omega arith
  deed_deck (Moves joined left) h d = go (eqb joined left) refl
    where
      go : (t : Bool) → eqb joined left ≡ t
          → heads_on (cond t ds (one_more (one_less ds left) joined)) d + cond (eqb d left) 1 0
          ≡ heads_on ds d + cond (eqb d joined) 1 0
      go true q = ap (λ (j : ℕ). heads_on ds d + cond (eqb d j) 1 0) (sym (eqb-true joined left q))
      go false q =
          let l = less_at ds left (omega arith) h.2 d in
          let w : joined < length (one_less ds left) = omega (arith, length-set ds left (heads_on ds left - 1)) in
          let m = more_at (one_less ds left) joined w d in
          omega arith

  pub deed_total : (x : Deed) → CanBeDone ds x → total (decks_after ds x) + is_delete x ≡ total ds + is_new x
  unfolding decks_after
  deed_total (Joins joined) h = let t = total_set ds joined (heads_on ds joined + 1) (omega arith) in omega arith
  deed_total (Leaves left) h =
      let t = total_set ds left (heads_on ds left - 1) (omega arith) in
      let one = h.1 in
      omega arith
  deed_total (Moves joined left) h = go (eqb joined left) refl
    where
      go : (t : Bool) → eqb joined left ≡ t
          → total (cond t ds (one_more (one_less ds left) joined)) + 0 ≡ total ds + 0
      go true q = refl
      go false q =
          let t = total_set ds left (heads_on ds left - 1) (omega arith) in
          let one = h.2 in
          let w : joined < length (one_less ds left) = omega (arith, length-set ds left (heads_on ds left - 1)) in
          let u = total_set (one_less ds left) joined (heads_on (one_less ds left) joined + 1) w in
          omega arith

  -- no deck has more heads than it holds
  pub deed_most : (x : Deed) → CanBeDone ds x → ((d : ℕ) → heads_on ds d ≤ deck_heads) → (d : ℕ)
      → heads_on (decks_after ds x) d ≤ deck_heads
  deed_most x h most d = go x h (deed_deck x h d)
    where
      joins : (e : ℕ) (t : Bool) → eqb d e ≡ t → heads_on ds e < deck_heads → heads_on ds d + cond t 1 0 ≤ deck_heads
      joins e true q l = let z : heads_on ds d ≡ heads_on ds e = ap (heads_on ds) (eqb-true d e q) in omega arith
      joins e false q l = let m = most d in omega arith

      go : (x : Deed) → CanBeDone ds x → heads_on (decks_after ds x) d + departs d x ≡ heads_on ds d + arrives d x
          → heads_on (decks_after ds x) d ≤ deck_heads
      go (Joins joined) h e = let j = joins joined (eqb d joined) refl h.1 in omega arith
      go (Leaves left) h e = let m = most d in omega arith
      go (Moves joined left) h e = both (eqb joined left) refl
        where
          both : (t : Bool) → eqb joined left ≡ t → heads_on (decks_after ds (Moves joined left)) d ≤ deck_heads
          both true q =
              subst (λ (l : List ℕ). heads_on l d ≤ deck_heads) (stays ds joined left (eqb-true joined left q)) (most d)
          both false q = let j = joins joined (eqb d joined) refl (room_of ds joined left q h.3) in omega arith
