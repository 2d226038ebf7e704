-- Where the refusals stand.
use Prim.Native.Nat.{ℕ, suc, ◌+◌, ◌-◌, ◌*◌, ◌≤◌, ◌<◌}
use mathlib.Core.Path.{◌≡◌, refl, ◌∙◌, subst}
use mathlib.Core.Bool.{Bool, true, false, ◌&&◌}
use mathlib.Core.Logic.{◌⊎◌, inl, inr}
use mathlib.Core.List.{List, [], ◌∷◌}
use native.Mathlib.Omega.{arith}
use lib.ListN.{length, get_or}
use lib.Dec.{leb, ltb, eqb}
use borrow.Author.Tests.{eqb-false, leb-true, ltb-true}
use Rattle.sim0mq.specs.Answer.{Answer, fine, refused, ◌>>=◌, ◌>>◌, guard, byte, big, not_negative}
use Rattle.sim0mq.specs.Field.{Field}
use Rattle.sim0mq.specs.Message.{no_table, Reading, reading}
use Rattle.commands_page.specs.Page.{Row, page, row_at}
use Rattle.commands_page.specs.Judging.{code_right, passes, want_in, each, no_field, turns_right, number_right, looks, number_at, fields_right, row_right, command_of, commanded}
use Rattle.commands_page.specs.Promises.{Placed, at_type, at_field, RefusalsArePlaced}
use Rattle.commands_page.proofs.PageLaws.{page_long, turned, six_own}

-- a refusal, if there is one, is so
abbrev Safe : {A : Type 0} → (ℕ → ℕ → Type 0) → Answer A → Type 0
Safe P (fine a) = Unit {0}
Safe P (refused n p) = P n p

module _ (P : ℕ → ℕ → Type 0) where
  safe_guard : (b : Bool) (k p : ℕ) → P k p → Safe P (guard b k p)
  safe_guard true k p h = tt
  safe_guard false k p h = h

  safe_then : {B : Type 0} (b : Bool) (k p : ℕ) (r : Answer B) → P k p → (b ≡ true → Safe P r) → Safe P (guard b k p >> r)
  safe_then true k p r h g = g refl
  safe_then false k p r h g = h

  safe_bind : {A B : Type 0} (a : Answer A) (f : A → Answer B) → Safe P a → ((x : A) → Safe P (f x)) → Safe P (a >>= f)
  safe_bind (fine x) f h g = g x
  safe_bind (refused n p) f h g = h

  safe_each : (s : List ℕ) (row : Row) (k j : ℕ) (fs : List Field) → ((i : ℕ) → i < length fs → P k (get_or fs i no_field).place) → Safe P (each s row k j fs)
  unfolding each
  safe_each s row k j [] h = tt
  safe_each s row k j (f ∷ fs) h =
      safe_bind (guard (passes k s (want_in row j) f) k f.place) _
      (safe_guard (passes k s (want_in row j) f) k f.place (h 0 (omega arith))) (λ u. safe_each s row k (j + 1) fs (λ i l. h (suc i) (omega arith)))

-- a row with fields by turns has six before them
pub six : (k : ℕ) → k < 18 → eqb (length (row_at k).turns) 0 ≡ false → length (row_at k).fields ≡ 6
six k h e = six_own k (turned k h (eqb-false (length (row_at k).turns) 0 e))

module _ (s : List ℕ) (m : Reading) where
  abbrev P : ℕ → ℕ → Type 0
  P = Placed m

  abbrev kind_of : ℕ
  kind_of = (looks m.frames).kind

  safe_turns : (row : Row) (last : Field) (n : ℕ) → (length row.fields ≤ n → P 22 last.place) → Safe P (turns_right s kind_of row last n)
  unfolding turns_right
  safe_turns row last n g =
      safe_then P (leb (length row.fields) n) 21 kind_of _ (at_type 21 (inr refl))
      (λ e.
      safe_then P (code_right s (want_in row (length row.fields - 1)) last) 22 last.place _ (g (leb-true _ _ e))
      (λ w. safe_guard P (not_negative (byte s last.first) && eqb n (length row.fields + 2 * big s last.first 4)) 21 kind_of (at_type 21 (inr refl))))

  safe_number : (k : ℕ) → k < 18 → Safe P (number_right s kind_of (row_at k) m.fields)
  unfolding number_right
  safe_number k h = go (eqb (length (row_at k).turns) 0) refl
    where
      go : (b : Bool) → eqb (length (row_at k).turns) 0 ≡ b → Safe P (number_right s kind_of (row_at k) m.fields)
      go true q = simp q (safe_guard P (eqb (length m.fields) (length (row_at k).fields)) 21 kind_of (at_type 21 (inr refl)))
      go false q =
          let n = six k h q in
          simp q
          (safe_turns (row_at k) (get_or m.fields (length (row_at k).fields - 1) no_field) (length m.fields)
          (λ l. at_field 22 (length (row_at k).fields - 1) (inl refl) (omega arith)))

  safe_command : Safe P (command_of s (looks m.frames) m.fields)
  unfolding command_of row_right fields_right
  safe_command =
      let k = number_at s (looks m.frames) in
      safe_then P (eqb (looks m.frames).code 9) 20 kind_of _ (at_type 20 (inl refl))
      (λ a. safe_then P (ltb k (length page)) 20 kind_of _ (at_type 20 (inl refl))
      (λ b. safe_then P (eqb (byte s (looks m.frames).status) (row_at k).status) 21 kind_of _ (at_type 21 (inr refl))
      (λ c.
      safe_bind P (number_right s kind_of (row_at k) m.fields) _ (safe_number k (below k b)) (λ u.
      safe_bind P (each s (row_at k) 22 0 m.fields) _ (safe_each P s (row_at k) 22 0 m.fields (λ i l. at_field 22 i (inl refl) l)) (λ u.
      safe_bind P (each s (row_at k) 23 0 m.fields) _ (safe_each P s (row_at k) 23 0 m.fields (λ i l. at_field 23 i (inr refl) l)) (λ u. tt))))))
    where
      below : (k : ℕ) → ltb k (length page) ≡ true → k < 18
      below k e = let l = ltb-true k (length page) e in let n = page_long in omega arith

refused_safe : {A : Type 0} (Q : ℕ → ℕ → Type 0) (a : Answer A) (n p : ℕ) → a ≡ refused n p → Safe Q a → Q n p
refused_safe {A} Q a n p e h = subst (λ (x : Answer A). Safe Q x) e h

refused_as : {A B : Type 0} {k w n p : ℕ} → ◌≡◌ {A = Answer A} (refused k w) (refused n p) → ◌≡◌ {A = Answer B} (refused k w) (refused n p)
refused_as e = cc

pub refusals_are_placed : RefusalsArePlaced
unfolding commanded
refusals_are_placed s n p e = go (reading no_table s) refl
  where
    go : (a : Answer Reading) → reading no_table s ≡ a → (reading no_table s ≡ refused n p) ⊎ ((m : Reading) × (reading no_table s ≡ fine m) × Placed m n p)
    go (fine m) q = inr (m, q, refused_safe (Placed m) (command_of s (looks m.frames) m.fields) n p (simp q at e) (safe_command s m))
    go (refused k w) q = inl (q ∙ refused_as (simp q at e))
