-- The values of scalar fields (01, "What reading returns" and refusal 17; 000, 2.1 and 2.2.1, 2.2.2, 2.2.9): codes 0 to
-- 8, 25 and 26.
use Rattle.std.specs.Prelude.{ℕ, ◌+◌, ◌≤◌, ◌≡◌, cond, List, length, ltb, eqb, Result}
use Rattle.sim0mq.specs.Answer.{Answer, fine, refused, ◌>>=◌, byte, big}
use Rattle.sim0mq.specs.declared.Refusal.{Refusal}
use Rattle.sim0mq.specs.Views.{said_as}
use Rattle.sim0mq.specs.Codes.{counts_of, marking_of, width_of}
use Rattle.sim0mq.specs.Field.{Field}
use Rattle.sim0mq.specs.Mark.{Kind, plain, money, money_per, unknown, kind_of}
use Rattle.sim0mq_signed.specs.Signed.{twos}
use Rattle.sim0mq_kinds.specs.Kinds.{float_of, double_of, with_float, with_double}
use Rattle.asking.specs.Asking.{asked}
use Rattle.sim0mq_kinds.specs.declared.Mark.{Mark}
use Rattle.sim0mq_kinds.specs.declared.Scalar.{Scalar}
use Rattle.sim0mq_kinds.specs.declared.Scalar.TheVariants.{Byte, Short, Int, Long, Boolean, Char8, Char16}

-- The mark at `at`, whose unit type is of this kind: unit type, currency and display, 0 where it has none.
unfoldable pub mark_of : List ℕ → ℕ → Kind → Mark
mark_of s at (plain t) = record { unit = byte s at; currency = 0; display = byte s (at + 1) }
mark_of s at money = record { unit = byte s at; currency = big s (at + 1) 2; display = 0 }
mark_of s at (money_per t) = record { unit = byte s at; currency = big s (at + 1) 2; display = byte s (at + 3) }
mark_of s at unknown = record { unit = byte s at; currency = 0; display = 0 }

abbrev pub mark_at : List ℕ → ℕ → Mark
mark_at s at = mark_of s at (kind_of (byte s at))

-- What is known of a field of an accepted message s: its value bytes are in s; where it has no count they are one
-- value's, and its mark, where it has one, is two bytes or more.
pub record Standing (s : List ℕ) (f : Field) : Type 0 where
  pub within : f.first + f.size ≤ length s
  pub sized : counts_of f.code ≡ 0 → f.size ≡ width_of f.code
  pub marked : counts_of f.code ≡ 0 → marking_of f.code ≡ 1 → f.place + 3 ≤ f.first

-- The value of a field, by its code; 17 at 0 where it is no scalar.
unfoldable pub scalar_of : List ℕ → Field → Answer Scalar
scalar_of s f =
    let at = f.first in
    cond (eqb f.code 0) (fine (Byte (twos 8 (big s at 1))))
    (cond (eqb f.code 1) (fine (Short (twos 16 (big s at 2))))
    (cond (eqb f.code 2) (fine (Int (twos 32 (big s at 4))))
    (cond (eqb f.code 3) (fine (Long (twos 64 (big s at 8))))
    (cond (eqb f.code 4) (fine (float_of (big s at 4)))
    (cond (eqb f.code 5) (fine (double_of (big s at 8)))
    (cond (eqb f.code 6) (fine (Boolean (ltb 0 (big s at 1))))
    (cond (eqb f.code 7) (fine (Char8 (big s at 1)))
    (cond (eqb f.code 8) (fine (Char16 (big s at 2)))
    (cond (eqb f.code 25) (fine (with_float (big s at 4) (mark_at s (f.place + 1))))
    (cond (eqb f.code 26) (fine (with_double (big s at 8) (mark_at s (f.place + 1))))
    (refused 17 0)))))))))))

-- The value of field k of a message: asking's refusals, then 17.
unfoldable pub value : List ℕ → ℕ → Answer Scalar
value s k = do
  f ← asked s k
  scalar_of s f

-- Each case of an answer, as an answer of the definitions.
abbrev pub valued : Result Scalar Refusal → Answer Scalar
valued r = said_as (λ v. v) r
