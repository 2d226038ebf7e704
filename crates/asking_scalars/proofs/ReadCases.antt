-- The value of a field is decided by its code: a value that was found is that of one of the eleven scalar codes.
use Prim.Native.Nat.{ℕ, zero, suc, ◌+◌, ◌≤◌}
use mathlib.Core.Path.{◌≡◌, refl}
use mathlib.Core.Bool.{Bool, true, false, cond}
use mathlib.Core.List.{List}
use native.Mathlib.Omega.{arith}
use lib.Dec.{eqb}
use borrow.Author.Tests.{eqb-true}
use Rattle.sim0mq.specs.Answer.{Answer, fine, big}
use Rattle.sim0mq.specs.Field.{Field}
use Rattle.sim0mq.proofs.Answers.{fine_eq, not_fine}
use Rattle.sim0mq_signed.specs.Signed.{twos}
use Rattle.sim0mq_kinds.specs.Kinds.{float_of, double_of, with_float, with_double}
use Rattle.asking_scalars.specs.Scalars.{mark_at, scalar_of}
use Rattle.sim0mq_kinds.specs.declared.Scalar.{Scalar}
use Rattle.sim0mq_kinds.specs.declared.Scalar.TheVariants.{Byte, Short, Int, Long, Boolean, Char8, Char16}

-- the code, and the value that it has; of a Boolean, that it is the bit read
pub data ReadAs (s : List ℕ) (f : Field) (v : Scalar) : Type 0 where
  as_byte : f.code ≡ 0 → Byte (twos 8 (big s f.first 1)) ≡ v → ReadAs s f v
  as_short : f.code ≡ 1 → Short (twos 16 (big s f.first 2)) ≡ v → ReadAs s f v
  as_int : f.code ≡ 2 → Int (twos 32 (big s f.first 4)) ≡ v → ReadAs s f v
  as_long : f.code ≡ 3 → Long (twos 64 (big s f.first 8)) ≡ v → ReadAs s f v
  as_float : f.code ≡ 4 → float_of (big s f.first 4) ≡ v → ReadAs s f v
  as_double : f.code ≡ 5 → double_of (big s f.first 8) ≡ v → ReadAs s f v
  as_boolean : f.code ≡ 6 → (b : Bool) → Boolean b ≡ v → (big s f.first 1 ≤ 1 → cond b 1 0 ≡ big s f.first 1) → ReadAs s f v
  as_char8 : f.code ≡ 7 → Char8 (big s f.first 1) ≡ v → ReadAs s f v
  as_char16 : f.code ≡ 8 → Char16 (big s f.first 2) ≡ v → ReadAs s f v
  as_float_unit : f.code ≡ 25 → with_float (big s f.first 4) (mark_at s (f.place + 1)) ≡ v → ReadAs s f v
  as_double_unit : f.code ≡ 26 → with_double (big s f.first 8) (mark_at s (f.place + 1)) ≡ v → ReadAs s f v

-- a test of the code passes, and this is the answer; or another test follows
test : {P : Type 0} (c k : ℕ) {x v : Scalar} {y : Answer Scalar} → cond (eqb c k) (fine x) y ≡ fine v → (c ≡ k → x ≡ v → P)
    → (y ≡ fine v → P) → P
test {P} c k {x} {v} {y} q here later = go (eqb c k) refl q
  where
    go : (b : Bool) → eqb c k ≡ b → cond b (fine x) y ≡ fine v → P
    go true e r = here (eqb-true c k e) (fine_eq r)
    go false e r = later r

-- a number of one bit is 0 or 1
bit : {P : Type 0} (n : ℕ) → n ≤ 1 → (n ≡ 0 → P) → (n ≡ 1 → P) → P
bit zero h none one = none refl
bit (suc zero) h none one = one refl
bit (suc (suc n)) h none one = absurd (omega arith)

-- one test after the other
pub read_as : (s : List ℕ) (f : Field) (v : Scalar) → scalar_of s f ≡ fine v → ReadAs s f v
unfolding scalar_of
read_as s f v q =
    test f.code 0 q as_byte (λ q1.
    test f.code 1 q1 as_short (λ q2.
    test f.code 2 q2 as_int (λ q3.
    test f.code 3 q3 as_long (λ q4.
    test f.code 4 q4 as_float (λ q5.
    test f.code 5 q5 as_double (λ q6.
    test f.code 6 q6 (λ c e. as_boolean c _ e (λ h. bit _ h (λ z. simp z) (λ z. simp z))) (λ q7.
    test f.code 7 q7 as_char8 (λ q8.
    test f.code 8 q8 as_char16 (λ q9.
    test f.code 25 q9 as_float_unit (λ q10.
    test f.code 26 q10 as_double_unit (λ q11.
    absurd (not_fine q11))))))))))))
