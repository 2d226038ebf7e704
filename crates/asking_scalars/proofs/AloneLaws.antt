-- The value of a field that stands in a message is that of its bytes by themselves, since it turns on the code, the
-- mark and the value bytes alone.
use Prim.Native.Nat.{ℕ, zero, suc, ◌+◌, ◌≤◌}
use mathlib.Core.Path.{◌≡◌, refl, ap, ap₂, sym, ◌∙◌}
use mathlib.Core.Bool.{Bool, true, false, cond}
use mathlib.Core.List.{List}
use native.Mathlib.Omega.{arith}
use lib.ListN.{length, get_or}
use lib.Dec.{eqb, ltb}
use borrow.Author.Tests.{eqb-true}
use Rattle.sim0mq.specs.Answer.{Answer, fine, byte, big}
use Rattle.sim0mq.specs.Codes.{counts_of, marking_of, width_of}
use Rattle.sim0mq.specs.Field.{Field}
use Rattle.sim0mq.specs.Mark.{Kind, plain, money, money_per, unknown, kind_of}
use Rattle.sim0mq.proofs.Stands.{Stands}
use Rattle.sim0mq_signed.specs.Signed.{twos}
use Rattle.sim0mq_kinds.specs.Kinds.{float_of, double_of, with_float, with_double}
use Rattle.asking_scalars.specs.Scalars.{mark_of, mark_at, Standing, scalar_of}
use Rattle.sim0mq_kinds.specs.declared.Scalar.{Scalar}
use Rattle.sim0mq_kinds.specs.declared.Scalar.TheVariants.{Byte, Short, Int, Long, Boolean, Char8, Char16}

module _ {s l : List ℕ} {at : ℕ} (there : Stands s at l) where
  -- a byte, a number and a mark are the same in the bytes as where they stand
  byte_same : (p x : ℕ) → p ≡ at + x → suc x ≤ length l → byte s p ≡ byte l x
  byte_same p x e h = ap (λ (k : ℕ). get_or s k 0) e ∙ there.same x h

  big_same : (p x n : ℕ) → p ≡ at + x → x + n ≤ length l → big s p n ≡ big l x n
  unfolding big
  big_same p x zero e h = refl
  big_same p x (suc n) e h = rw (big_same p x n e (omega arith), byte_same (p + n) (x + n) (omega arith) (omega arith))

  kind_same : 5 ≤ length l → (k : Kind) → mark_of s (at + 1) k ≡ mark_of l 1 k
  unfolding mark_of
  kind_same h (plain t) =
      rw (byte_same (at + 1) 1 refl (omega arith), byte_same (at + 1 + 1) 2 (omega arith) (omega arith))
  kind_same h money =
      rw (byte_same (at + 1) 1 refl (omega arith), big_same (at + 1 + 1) 2 2 (omega arith) (omega arith))
  kind_same h (money_per t) =
      rw (
        byte_same (at + 1) 1 refl (omega arith),
        big_same (at + 1 + 1) 2 2 (omega arith) (omega arith),
        byte_same (at + 1 + 3) 4 (omega arith) (omega arith),
      )
  kind_same h unknown = rw (byte_same (at + 1) 1 refl (omega arith))

  mark_same : 5 ≤ length l → mark_at s (at + 1) ≡ mark_at l 1
  mark_same h = kind_same h (kind_of (byte s (at + 1))) ∙ ap (λ (u : ℕ). mark_of l 1 (kind_of u)) (byte_same (at + 1) 1 refl (omega arith))

-- a test of the code, with the same value where it passes
either : (c k : ℕ) {x y : Scalar} {u v : Answer Scalar} → (c ≡ k → x ≡ y) → u ≡ v → cond (eqb c k) (fine x) u ≡ cond (eqb c k) (fine y) v
either c k {x} {y} {u} {v} here later = go (eqb c k) refl
  where
    go : (b : Bool) → eqb c k ≡ b → cond b (fine x) u ≡ cond b (fine y) v
    go true e = ap fine (here (eqb-true c k e))
    go false e = later

module _ (s l : List ℕ) (f g : Field) (st : Standing s f) (there : Stands s f.place l) (code : g.code ≡ f.code) (place : g.place ≡ 0)
    (first : f.first ≡ f.place + g.first) (end : f.first + f.size ≡ f.place + length l) where
  number_same : (c n : ℕ) → counts_of c ≡ 0 → width_of c ≡ n → f.code ≡ c → big s f.first n ≡ big l g.first n
  number_same c n z w e =
      let size : f.size ≡ n = st.sized (ap counts_of e ∙ z) ∙ ap width_of e ∙ w in
      big_same there f.first g.first n first (omega arith)

  unit_same : (c : ℕ) → counts_of c ≡ 0 → marking_of c ≡ 1 → 4 ≤ width_of c → f.code ≡ c → mark_at s (f.place + 1) ≡ mark_at l (g.place + 1)
  unit_same c z m w e =
      let size : f.size ≡ width_of c = st.sized (ap counts_of e ∙ z) ∙ ap width_of e in
      let after : f.place + 3 ≤ f.first = st.marked (ap counts_of e ∙ z) (ap marking_of e ∙ m) in
      mark_same there (omega arith) ∙ ap (λ (b : ℕ). mark_at l (b + 1)) (sym place)

  pub value_alone_lem : scalar_of s f ≡ scalar_of l g
  unfolding scalar_of counts_of width_of marking_of
  value_alone_lem =
      let c = f.code in
      rw code
      (either c 0 (λ e. ap (λ (n : ℕ). Byte (twos 8 n)) (number_same 0 1 refl refl e))
      (either c 1 (λ e. ap (λ (n : ℕ). Short (twos 16 n)) (number_same 1 2 refl refl e))
      (either c 2 (λ e. ap (λ (n : ℕ). Int (twos 32 n)) (number_same 2 4 refl refl e))
      (either c 3 (λ e. ap (λ (n : ℕ). Long (twos 64 n)) (number_same 3 8 refl refl e))
      (either c 4 (λ e. ap float_of (number_same 4 4 refl refl e))
      (either c 5 (λ e. ap double_of (number_same 5 8 refl refl e))
      (either c 6 (λ e. ap (λ (n : ℕ). Boolean (ltb 0 n)) (number_same 6 1 refl refl e))
      (either c 7 (λ e. ap Char8 (number_same 7 1 refl refl e))
      (either c 8 (λ e. ap Char16 (number_same 8 2 refl refl e))
      (either c 25 (λ e. ap₂ with_float (number_same 25 4 refl refl e) (unit_same 25 refl refl (omega arith) e))
      (either c 26 (λ e. ap₂ with_double (number_same 26 8 refl refl e) (unit_same 26 refl refl (omega arith) e))
      refl)))))))))))
