-- The number of a command's fields, and the judge over them, case by case.
use Prim.Native.Nat.{ℕ, ◌+◌, ◌-◌, ◌*◌, ◌≤◌, ◌<◌}
use mathlib.Core.Path.{◌≡◌, refl, ap, sym, ◌∙◌}
use mathlib.Core.Bool.{true, false, ◌&&◌}
use mathlib.Core.List.{List}
use native.Mathlib.Omega.{arith}
use lib.ListN.{length, get_or}
use lib.Dec.{leb, eqb}
use borrow.Author.Tests.{eq-eqb, ne_eqb, lt-ltb, le-ltb, le-leb, lt-leb}
use Rattle.sim0mq.specs.Answer.{fine, refused, ◌>>◌, guard, byte, big, not_negative}
use Rattle.sim0mq.specs.Field.{Field}
use Rattle.sim0mq.specs.Table.{row_size}
use Rattle.commands_page.specs.Page.{Want, page, row_at}
use Rattle.commands_page.specs.Judging.{code_taken, want_in, each, no_field, turns_right, number_right, number_from, looks_at, number_at, fields_right, row_right, command_of}
use Rattle.commands_page.proofs.PageLaws.{page_long, row_turns, or_no}
use Rattle.commands.specs.Tables.{Held}

-- a command other than FM.2
module _ (s t : List ℕ) (kind n k m : ℕ) (b : k < 18) (d : eqb k 4 ≡ false) (e : length (row_at k).fields ≡ m) (fs : List Field) (h : Held t n fs) where
  fixed_is : number_right s kind (row_at k) fs ≡ guard (eqb n m) 21 kind
  unfolding number_right
  fixed_is =
      let z : length (row_at k).turns ≡ 0 = ap (λ (x : List Want). length x) (row_turns k b) ∙ simp d in
      simp (z, h.many, e)

  pub fixed_other : (n ≡ m → ⊥) → refused 21 kind ≡ number_right s kind (row_at k) fs
  fixed_other q = sym (fixed_is ∙ simp (ne_eqb n m q))

  pub fixed_fine : n ≡ m → fine tt ≡ number_right s kind (row_at k) fs
  fixed_fine q = sym (fixed_is ∙ simp (eq-eqb n m q))

-- FM.2
module _ (s t : List ℕ) (kind n k : ℕ) (q : k ≡ 4) (fs : List Field) (h : Held t n fs) where
  abbrev last_of : Field
  last_of = get_or fs 5 no_field

  turns_are : number_right s kind (row_at k) fs
      ≡ (guard (leb 6 n) 21 kind >> (guard (eqb last_of.code 2) 22 last_of.place >> guard (not_negative (byte s last_of.first) && eqb n (6 + 2 * big s last_of.first 4)) 21 kind))
  unfolding number_right turns_right row_at page want_in code_taken
  turns_are = rw (q, h.many, or_no)

  pub turns_few : n < 6 → refused 21 kind ≡ number_right s kind (row_at k) fs
  turns_few l = sym (turns_are ∙ simp (lt-leb 6 n l))

  module _ (l : 6 ≤ n) (c : ℕ) (e : c ≡ get_or t (row_size * 5) 0) where
    is_code : c ≡ last_of.code
    is_code = e ∙ (h.cells 5 l).code

    pub turns-code : (p : ℕ) → p ≡ get_or t (row_size * 5 + 1) 0 → (c ≡ 2 → ⊥) → refused 22 p ≡ number_right s kind (row_at k) fs
    turns-code p f d =
        let a : p ≡ last_of.place = f ∙ (h.cells 5 l).place in
        let g : eqb last_of.code 2 ≡ false = ap (λ (x : ℕ). eqb x 2) (sym is_code) ∙ ne_eqb c 2 d in
        sym (turns_are ∙ simp (le-leb 6 n l, g) (ap (λ (x : ℕ). refused 22 x) (sym a)))

    module _ (d : c ≡ 2) (first : ℕ) (f : first ≡ get_or t (row_size * 5 + 2) 0) where
      is-first : last_of.first ≡ first
      is-first = sym (f ∙ (h.cells 5 l).first)

      left_is : number_right s kind (row_at k) fs ≡ guard (not_negative (byte s first) && eqb n (6 + 2 * big s first 4)) 21 kind
      left_is =
          let g : eqb last_of.code 2 ≡ true = ap (λ (x : ℕ). eqb x 2) (sym is_code) ∙ eq-eqb c 2 d in
          turns_are ∙ simp (le-leb 6 n l, g) (ap (λ (x : ℕ). guard (not_negative (byte s x) && eqb n (6 + 2 * big s x 4)) 21 kind) is-first)

      pub turns-sign : (b : ℕ) → b ≡ byte s first → 128 ≤ b → refused 21 kind ≡ number_right s kind (row_at k) fs
      unfolding not_negative
      turns-sign b a g = sym (left_is ∙ simp (le-ltb (byte s first) 128 (omega arith)))

      module _ (b x : ℕ) (a : b ≡ byte s first) (g : b < 128) (y : x ≡ big s first 4) where
        pub turns-many : (n ≡ 6 + 2 * x → ⊥) → refused 21 kind ≡ number_right s kind (row_at k) fs
        unfolding not_negative
        turns-many z = sym (left_is ∙ simp (lt-ltb (byte s first) 128 (omega arith), ← y, ne_eqb n (6 + 2 * x) z))

        pub turns-fine : n ≡ 6 + 2 * x → fine tt ≡ number_right s kind (row_at k) fs
        unfolding not_negative
        turns-fine z = sym (left_is ∙ simp (lt-ltb (byte s first) 128 (omega arith), ← y, eq-eqb n (6 + 2 * x) z))

-- the three judges, one after the other
module _ (s : List ℕ) (kind k : ℕ) (fs : List Field) where
  pub fields_number : (j p : ℕ) → refused j p ≡ number_right s kind (row_at k) fs → refused j p ≡ fields_right s kind k fs
  unfolding fields_right
  fields_number j p e = rw (← e) refl

  module _ (a : fine tt ≡ number_right s kind (row_at k) fs) where
    pub fields-codes : (j p : ℕ) → refused j p ≡ each s (row_at k) 22 0 fs → refused j p ≡ fields_right s kind k fs
    unfolding fields_right
    fields-codes j p e = rw (← a, ← e) refl

    module _ (b : fine tt ≡ each s (row_at k) 22 0 fs) where
      pub fields-strings : (j p : ℕ) → refused j p ≡ each s (row_at k) 23 0 fs → refused j p ≡ fields_right s kind k fs
      unfolding fields_right
      fields-strings j p e = rw (← a, ← b, ← e) refl

      pub fields-fine : fine tt ≡ each s (row_at k) 23 0 fs → fine k ≡ fields_right s kind k fs
      unfolding fields_right
      fields-fine e = rw (← a, ← b, ← e) refl

-- the type frame and the status
module _ (s : List ℕ) (kind c next at : ℕ) (fs : List Field) where
  pub type_other : (c ≡ 9 → ⊥) → refused 20 kind ≡ command_of s (looks_at kind c next at) fs
  unfolding command_of
  type_other d = sym (simp (ne_eqb c 9 d))

  module _ (d : c ≡ 9) (k size : ℕ) (z : size ≡ next - (kind + 5)) (e : k ≡ number_from s (kind + 5) size page 0) where
    number_is : number_at s (looks_at kind c next at) ≡ k
    number_is = sym (e ∙ ap (λ (x : ℕ). number_from s (kind + 5) x page 0) z)

    pub type-unknown : 18 ≤ k → refused 20 kind ≡ command_of s (looks_at kind c next at) fs
    unfolding command_of
    type-unknown h = sym (simp (eq-eqb c 9 d, number_is, page_long, le-ltb k 18 h))

    module _ (h : k < 18) where
      known : command_of s (looks_at kind c next at) fs ≡ row_right s (looks_at kind c next at) k fs
      unfolding command_of
      known = simp (eq-eqb c 9 d, number_is, page_long, lt-ltb k 18 h)

      module _ (x y : ℕ) (p : x ≡ byte s at) (q : y ≡ (row_at k).status) where
        pub status-other : (x ≡ y → ⊥) → refused 21 kind ≡ command_of s (looks_at kind c next at) fs
        unfolding row_right
        status-other d = sym (known ∙ simp (← p, ← q, ne_eqb x y d))

        pub status-right : x ≡ y → fields_right s kind k fs ≡ command_of s (looks_at kind c next at) fs
        unfolding row_right
        status-right d = sym (known ∙ simp (← p, ← q, eq-eqb x y d))
