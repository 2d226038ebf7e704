-- The fields counted so far, and those from here on, are all of them; each turn passes one.
use native.Mathlib.Omega.{arith}
use Prim.Native.Nat.{ℕ, ◌+◌, ◌-◌, ◌*◌}
use mathlib.Core.Path.{◌≡◌, refl, sym, ap, ◌∙◌}
use Rattle.reading_runs.proofs.RunCases.{alike_none, alike_stop, alike_more, grown, told_run}
use Rattle.reading_runs.proofs.each.Goals as goal

pub returns-then-not-stands : goal.returns-then-not-stands
returns-then-not-stands c =
    let inv = c.loop-fields.invariant in
    let stopped = alike_stop _ _ _ _ _ (sym c.stands.ensures.is ∙ c.if-not-stands.true) in
    c.told.ensures ∙ told_run _ _ _ _ _ _ _ inv.0 stopped inv.1

pub returns : goal.returns
returns c =
    let inv = c.loop-fields.invariant in
    let all : c.loop-fields.fields ≡ c.args.n = omega arith in
    let left : c.args.n - c.loop-fields.fields ≡ 0 = omega arith in
    let far = inv.1 ∙ ap (λ (j : ℕ). c.args.at + j * (c.args.size + 1)) all in
    c.told-2.ensures ∙ told_run _ _ _ _ _ 0 _ (inv.0 ∙ done _ _ _ all (alike_none _ _ _ _ _ left)) refl far
  where
    done : (m n l : ℕ) → m ≡ n → l ≡ 0 → m + l ≡ n + 0
    done m n l d e = omega arith

pub loop-fields-preserved : goal.loop-fields-preserved
loop-fields-preserved c =
    let inv = c.loop-fields.invariant in
    let stood = sym c.stands.ensures.is ∙ c.if-not-stands.false in
    let left = c.args.n - c.loop-fields.fields in
    let less = c.args.n - (c.loop-fields.fields + 1) in
    let more = alike_more _ _ _ _ left less (omega arith) stood in
    (inv.0 ∙ counted _ _ _ more, grown _ _ _ _ inv.1, omega arith)
  where
    counted : (m k l : ℕ) → k ≡ 1 + l → m + k ≡ m + 1 + l
    counted m k l e = omega arith
