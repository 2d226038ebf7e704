-- A judgement is refused by the first of its tests that fails: so each refusal tells that this test failed and that all
-- tests before it passed.
use Prim.Native.Nat.{ℕ}
use mathlib.Core.Path.{◌≡◌, refl, sym, ◌∙◌}
use mathlib.Core.Bool.{Bool, true, false, ◌||◌, false≢true}
use mathlib.Core.Logic.{◌⊎◌, ⊎_elim, inl, inr}
use mathlib.Core.List.{List}
use lib.Dec.{eqb, ltb}
use borrow.Author.Tests.{ltb-true, ltb-false, eqb-true, eqb-false}
use Rattle.sim0mq.specs.Answer.{Answer, refused, ◌>>◌, guard}
use Rattle.sim0mq.specs.Field.{Field}
use Rattle.sim0mq.proofs.Answers.{not_fine}
use Rattle.ledger_decks.specs.Decks.{deck_count, heads_on}
use Rattle.ledger_decks.specs.Mustering.{value_in, has_room, joining, moving, leaving}
use Rattle.ledger_decks.specs.Promises.{
  NewRefused,
  DeleteRefused,
  ChangeRefused,
  NewRefusedExactly,
  DeleteRefusedExactly,
  ChangeRefusedExactly,
}
use Rattle.ledger_decks.proofs.OrderCases.{
  join_code,
  join-deck,
  join-full,
  leave_code,
  leave-deck,
  leave_none,
  move_code,
  move-code-2,
  move-deck,
  move-deck-2,
  move-none,
  move-full,
}

-- a test that failed, or passed
fault : {A : Type 0} (t : Bool) (n q k p : ℕ) (rest : Answer A) → (guard t n q >> rest) ≡ refused k p
    → ((t ≡ false) × (k ≡ n) × (p ≡ q)) ⊎ ((t ≡ true) × (rest ≡ refused k p))
fault true n q k p rest e = inr (refl, e)
fault false n q k p rest e = let x : k ≡ n = cc in let y : p ≡ q = cc in inl (refl, x, y)

-- the refusal of this number at this place
at_place : {A : Type 0} {n q : ℕ} {a : Answer A} (k p : ℕ) → k ≡ n → p ≡ q → refused n q ≡ a → a ≡ refused k p
at_place k p x y e = sym e ∙ (λ i. refused (sym x i) (sym y i))

-- neither of two
neither : (a b : Bool) → (a || b) ≡ false → (a ≡ false) × (b ≡ false)
neither true b e = absurd (false≢true (sym e))
neither false b e = (refl, e)

module _ (ds s : List ℕ) (f : Field) (k p : ℕ) where
  new_into : joining ds s f ≡ refused k p → NewRefused ds s f k p
  unfolding joining
  new_into e =
      ⊎_elim (λ x. inl ((x.1, x.2), eqb-false _ _ x.0))
      (λ a.
      let code = eqb-true _ _ a.0 in
      ⊎_elim (λ x. inr (inl ((x.1, x.2), code, ltb-false _ _ x.0)))
      (λ b.
      let deck = ltb-true _ _ b.0 in
      ⊎_elim (λ x. inr (inr ((x.1, x.2), (code, deck), ltb-false _ _ x.0))) (λ c. absurd (not_fine (sym c.1)))
      (fault (has_room ds (value_in s f)) 31 _ k p _ b.1))
      (fault (ltb (value_in s f) deck_count) 29 _ k p _ a.1))
      (fault (eqb f.code 0) 22 _ k p _ e)

  new_back : NewRefused ds s f k p → joining ds s f ≡ refused k p
  new_back =
      ⊎_elim (λ x. at_place k p x.0.0 x.0.1 (join_code ds s f x.1))
      (⊎_elim (λ x. at_place k p x.0.0 x.0.1 (join-deck ds s f x.1 _ refl x.2))
      (λ x. at_place k p x.0.0 x.0.1 (join-full ds s f x.1.0 _ refl x.1.1 x.2)))

  delete_into : leaving ds s f ≡ refused k p → DeleteRefused ds s f k p
  unfolding leaving
  delete_into e =
      ⊎_elim (λ x. inl ((x.1, x.2), eqb-false _ _ x.0))
      (λ a.
      let code = eqb-true _ _ a.0 in
      ⊎_elim (λ x. inr (inl ((x.1, x.2), code, ltb-false _ _ x.0)))
      (λ b.
      let deck = ltb-true _ _ b.0 in
      ⊎_elim (λ x. inr (inr ((x.1, x.2), (code, deck), ltb-false _ _ x.0))) (λ c. absurd (not_fine (sym c.1)))
      (fault (ltb 0 (heads_on ds (value_in s f))) 30 _ k p _ b.1))
      (fault (ltb (value_in s f) deck_count) 29 _ k p _ a.1))
      (fault (eqb f.code 0) 22 _ k p _ e)

  delete_back : DeleteRefused ds s f k p → leaving ds s f ≡ refused k p
  delete_back =
      ⊎_elim (λ x. at_place k p x.0.0 x.0.1 (leave_code ds s f x.1))
      (⊎_elim (λ x. at_place k p x.0.0 x.0.1 (leave-deck ds s f x.1 _ refl x.2))
      (λ x. at_place k p x.0.0 x.0.1 (leave_none ds s f x.1.0 _ refl x.1.1 x.2)))

module _ (ds s : List ℕ) (f g : Field) (k p : ℕ) where
  change_into : moving ds s f g ≡ refused k p → ChangeRefused ds s f g k p
  unfolding moving
  change_into e =
      ⊎_elim (λ x. inl ((x.1, x.2), eqb-false _ _ x.0))
      (λ a.
      let one = eqb-true _ _ a.0 in
      ⊎_elim (λ x. inr (inl ((x.1, x.2), one, eqb-false _ _ x.0)))
      (λ b.
      let two = eqb-true _ _ b.0 in
      ⊎_elim (λ x. inr (inr (inl ((x.1, x.2), one, two, ltb-false _ _ x.0))))
      (λ c.
      let joined = ltb-true _ _ c.0 in
      ⊎_elim (λ x. inr (inr (inr (inl ((x.1, x.2), (one, joined), two, ltb-false _ _ x.0)))))
      (λ d.
      let left = ltb-true _ _ d.0 in
      ⊎_elim (λ x. inr (inr (inr (inr (inl ((x.1, x.2), (one, joined), (two, left), ltb-false _ _ x.0))))))
      (λ h.
      let some = ltb-true _ _ h.0 in
      ⊎_elim
      (λ x.
      let room = neither _ _ x.0 in
      inr
      (inr
      (inr
      (inr
      (inr
      ((x.1, x.2), (one, joined), (two, left), some, eqb-false _ _ room.0, ltb-false _ _ room.1))))))
      (λ r. absurd (not_fine (sym r.1)))
      (fault (eqb (value_in s f) (value_in s g) || has_room ds (value_in s f)) 31 _ k p _ h.1))
      (fault (ltb 0 (heads_on ds (value_in s g))) 30 _ k p _ d.1))
      (fault (ltb (value_in s g) deck_count) 29 _ k p _ c.1))
      (fault (ltb (value_in s f) deck_count) 29 _ k p _ b.1))
      (fault (eqb g.code 0) 22 _ k p _ a.1))
      (fault (eqb f.code 0) 22 _ k p _ e)

  change_back : ChangeRefused ds s f g k p → moving ds s f g ≡ refused k p
  change_back =
      ⊎_elim (λ x. at_place k p x.0.0 x.0.1 (move_code ds s f g x.1))
      (⊎_elim (λ x. at_place k p x.0.0 x.0.1 (move-code-2 ds s f g x.1 x.2))
      (⊎_elim (λ x. at_place k p x.0.0 x.0.1 (move-deck ds s f g x.1 x.2 _ refl x.3))
      (⊎_elim
      (λ x.
      at_place k p x.0.0 x.0.1 (move-deck-2 ds s f g x.1.0 x.2 _ refl x.1.1 _ refl x.3))
      (⊎_elim
      (λ x.
      at_place k p x.0.0 x.0.1
      (move-none ds s f g x.1.0 x.2.0 _ refl x.1.1 _ refl x.2.1 x.3))
      (λ x.
      at_place k p x.0.0 x.0.1
      (move-full ds s f g x.1.0 x.2.0 _ refl x.1.1 _ refl x.2.1 x.3 x.4 x.5))))))

pub new_refused_exactly : NewRefusedExactly
new_refused_exactly ds s f k p = (new_into ds s f k p, new_back ds s f k p)

pub delete_refused_exactly : DeleteRefusedExactly
delete_refused_exactly ds s f k p = (delete_into ds s f k p, delete_back ds s f k p)

pub change_refused_exactly : ChangeRefusedExactly
change_refused_exactly ds s f g k p = (change_into ds s f g k p, change_back ds s f g k p)
