-- What is read so far is the number of the bytes so far, and has no more bytes than they.
use Prim.Native.Nat.{◌*◌, ℕ, ◌+◌, ◌^◌, ◌<◌, ◌≤◌}
use mathlib.Core.Path.{ap₂, subst, ◌≡◌, refl, sym, ◌∙◌, ap}
use native.Mathlib.Nat.{pow-suc, pow-le-pow_right, one-le-pow, lt_of_lt_of_le}
use native.Mathlib.Omega.{arith}
use native.Mathlib.Numerals.{add-one}
use lib.Dec.{lit<}
use Rattle.sim0mq.specs.Answer.{big}
use Rattle.sim0mq_numbers.proofs.NumberCases.{number_there, number_short, number_long, number_more}
use Rattle.sim0mq_numbers.proofs.number.Goals as goal

-- a number of i bytes, i at most 7, leaves room for one byte more
small : (i x : ℕ) → i ≤ 7 → x < 256 ^ i → x < 256 ^ 7
small i x h b = lt_of_lt_of_le b (pow-le-pow_right {n = 256} (lit< tt) h)

more : (x i b : ℕ) → x < 256 ^ i → b < 256 → x * 256 + b < 256 ^ (i + 1)
more x i b h k = rw (add-one i, pow-suc 256 i) (omega arith)

none : (n : ℕ) → 0 < 256 ^ n
none n = one-le-pow n 256 (lit< tt)

pub returns-then-s-at : goal.returns-then-s-at
returns-then-s-at c = (number_short _ _ _ (omega arith), none _)

pub returns-then-s-at-2 : goal.returns-then-s-at-2
returns-then-s-at-2 c = (number_short _ _ _ (omega arith), none _)

pub returns-then-n-gt8 : goal.returns-then-n-gt8
returns-then-n-gt8 c = (number_long _ _ _ (omega arith) (omega arith), none _)

pub loop-i-init : goal.loop-i-init
unfolding big
loop-i-init c = (refl, omega arith)

pub overflow_mul-x : goal.overflow_mul-x
overflow_mul-x c =
    let h : c.loop-i.x < 256 ^ 7 = small c.loop-i.i _ (omega arith) c.loop-i.invariant.1 in omega arith

pub overflow_add-x : goal.overflow_add-x
overflow_add-x c =
    let h : c.loop-i.x < 256 ^ 7
    = small c.loop-i.i _ (omega arith) c.loop-i.invariant.1 in
    omega arith

pub loop-i-preserved : goal.loop-i-preserved
loop-i-preserved c =
    let i = c.loop-i.i in
    let inv = c.loop-i.invariant in
    let next = more c.loop-i.x i c.wide.result inv.1 c.wide.ensures.1 in
    (ap₂ (λ (x b : ℕ). x * 256 + b) inv.0 c.wide.ensures.0 ∙ number_more _ _ i, next)

pub returns : goal.returns
returns c =
    let all : c.loop-i.i ≡ c.args.n = omega arith in
    let inv = c.loop-i.invariant in (
      inv.0 ∙ ap (λ (k : ℕ). big c.args.s.now c.args.at k) all ∙ sym (number_there _ _ _ (omega arith) (omega arith)),
      subst (λ (k : ℕ). c.loop-i.x < 256 ^ k) all inv.1,
    )
