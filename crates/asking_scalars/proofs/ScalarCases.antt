-- Each return of the code is one case of the definition, told by the field's code or the mark's unit type; the bytes
-- that it reads are there.
use Prim.Native.Nat.{ℕ, ◌+◌, ◌≤◌, ◌<◌}
use mathlib.Core.Path.{◌≡◌, ap, sym, ◌∙◌}
use mathlib.Core.List.{List}
use native.Mathlib.Omega.{arith}
use lib.ListN.{length}
use borrow.Author.Tests.{ne_eqb}
use Rattle.sim0mq.specs.Answer.{refused, byte, big}
use Rattle.sim0mq.specs.Codes.{counts_of, marking_of, width_of}
use Rattle.sim0mq.specs.Field.{Field}
use Rattle.sim0mq_numbers.specs.Numbers.{number_at}
use Rattle.sim0mq_numbers.proofs.NumberCases.{number_there}
use Rattle.sim0mq_marks.proofs.MarkCases.{kind_money, kind_per}
use Rattle.sim0mq_kinds.specs.declared.Mark.{Mark}
use Rattle.asking_scalars.specs.Scalars.{mark_of, mark_at, Standing, scalar_of}

module _ (s : List ℕ) (f : Field) (st : Standing s f) where
  -- the number read is the one that the value bytes write
  pub number_is : (c n x : ℕ) → f.code ≡ c → counts_of c ≡ 0 → width_of c ≡ n → n ≤ 8 → x ≡ number_at s f.first n → x ≡ big s f.first n
  number_is c n x e k w h q =
      let size : f.size ≡ n = st.sized (ap counts_of e ∙ k) ∙ ap width_of e ∙ w in
      let within = st.within in
      q ∙ number_there s f.first n (omega arith) h

  -- four bytes are there from the mark's unit type on
  pub mark_there : (c : ℕ) → f.code ≡ c → counts_of c ≡ 0 → marking_of c ≡ 1 → 4 ≤ width_of c → f.place + 1 + 4 ≤ length s
  mark_there c e k m w =
      let size : f.size ≡ width_of c = st.sized (ap counts_of e ∙ k) ∙ ap width_of e in
      let within = st.within in
      let marked = st.marked (ap counts_of e ∙ k) (ap marking_of e ∙ m) in
      omega arith

-- the definition, at the code that the field has
pub by_code : (s : List ℕ) (f : Field) (c : ℕ) → f.code ≡ c
    → scalar_of s (record { code = c; place = f.place; first = f.first; size = f.size; marked = f.marked; values = f.values }) ≡ scalar_of s f
by_code s f c e =
    ap
    (λ (k : ℕ).
    scalar_of s (record { code = k; place = f.place; first = f.first; size = f.size; marked = f.marked; values = f.values }))
    (sym e)

pub no_scalar : (s : List ℕ) (f : Field) → 5 < f.code → (f.code ≡ 6 → ⊥) → (f.code ≡ 7 → ⊥) → (f.code ≡ 8 → ⊥)
    → (f.code ≡ 25 → ⊥) → (f.code ≡ 26 → ⊥) → refused 17 0 ≡ scalar_of s f
unfolding scalar_of
no_scalar s f h a b c d e =
    sym
    (simp (
      ne_eqb f.code 0 (λ q. omega arith),
      ne_eqb f.code 1 (λ q. omega arith),
      ne_eqb f.code 2 (λ q. omega arith),
      ne_eqb f.code 3 (λ q. omega arith),
      ne_eqb f.code 4 (λ q. omega arith),
      ne_eqb f.code 5 (λ q. omega arith),
      ne_eqb f.code 6 a,
      ne_eqb f.code 7 b,
      ne_eqb f.code 8 c,
      ne_eqb f.code 25 d,
      ne_eqb f.code 26 e,
    ))

-- marks with a currency
module _ (s : List ℕ) (at x : ℕ) (there : at + 4 ≤ length s) (is : x ≡ number_at s (at + 1) 2) where
  currency_is : x ≡ big s (at + 1) 2
  currency_is = is ∙ number_there s (at + 1) 2 (omega arith) (omega arith)

  pub mark_money : byte s at ≡ 100 → ◌≡◌ {A = Mark} (record { unit = byte s at; currency = x; display = 0 }) (mark_at s at)
  unfolding mark_of
  mark_money e = rw currency_is (sym (ap (mark_of s at) (kind_money _ e)))

  pub mark_per : 100 < byte s at → byte s at ≤ 106
      → ◌≡◌ {A = Mark} (record { unit = byte s at; currency = x; display = byte s (at + 3) }) (mark_at s at)
  unfolding mark_of
  mark_per h k = rw currency_is (sym (ap (mark_of s at) (kind_per _ h k)))
