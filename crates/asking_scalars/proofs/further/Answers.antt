-- The code says which number the value bytes write, and where the mark stands; both are there.
use borrow.Author.Rules.{rules}
use mathlib.Core.Path.{refl, ap, ap₂, ◌∙◌}
use native.Mathlib.Omega.{arith}
use Prim.Native.Nat.{ℕ}
use lib.Dec.{ltb}
use Rattle.reading_fields.specs.Items.{seen}
use Rattle.sim0mq.specs.Answer.{fine}
use Rattle.sim0mq.specs.Codes.{counts_of, marking_of, width_of}
use Rattle.sim0mq_kinds.specs.declared.Scalar.{Scalar}
use Rattle.sim0mq_kinds.specs.declared.Scalar.TheVariants.{Boolean, Char8, Char16}
use Rattle.sim0mq_kinds.specs.Kinds.{with_float, with_double}
use Rattle.asking_scalars.specs.Scalars.{scalar_of, valued}
use Rattle.asking_scalars.proofs.ScalarCases.{number_is, by_code, mark_there, no_scalar}
use Rattle.asking_scalars.proofs.further.Goals as goal

pub returns-then-f-eq6 : goal.returns-then-f-eq6
unfolding scalar_of counts_of width_of
returns-then-f-eq6 c = ap (λ (n : ℕ). fine (Boolean (ltb 0 n))) (number_is _ _ c.requires.0 6 1 _ c.if-f-eq6.true refl refl (omega arith) c.number.ensures.0) ∙ by_code _ (seen c.args.f) 6 c.if-f-eq6.true

pub returns-then-f-eq7 : goal.returns-then-f-eq7
unfolding scalar_of counts_of width_of
returns-then-f-eq7 c = ap (λ (n : ℕ). fine (Char8 n)) (number_is _ _ c.requires.0 7 1 _ c.if-f-eq7.true refl refl (omega arith) c.number-then-f-eq7.ensures.0) ∙ by_code _ (seen c.args.f) 7 c.if-f-eq7.true

pub returns-then-f-eq8 : goal.returns-then-f-eq8
unfolding scalar_of counts_of width_of
returns-then-f-eq8 c = ap (λ (n : ℕ). fine (Char16 n)) (number_is _ _ c.requires.0 8 2 _ c.if-f-eq8.true refl refl (omega arith) c.number-then-f-eq8.ensures.0) ∙ by_code _ (seen c.args.f) 8 c.if-f-eq8.true

pub overflow_add-f : goal.overflow_add-f
unfolding counts_of width_of marking_of
overflow_add-f c = let there = mark_there _ _ c.requires.0 25 c.if-f-eq25.true refl refl (omega arith) in search rules

pub mark_at-requires : goal.mark_at-requires
unfolding counts_of width_of marking_of
mark_at-requires c = mark_there _ _ c.requires.0 25 c.if-f-eq25.true refl refl (omega arith)

pub returns-then-f-eq25 : goal.returns-then-f-eq25
unfolding scalar_of counts_of width_of
returns-then-f-eq25 c = ap (λ (v : Scalar). fine v) (c.float_with.ensures ∙ ap₂ with_float (number_is _ _ c.requires.0 25 4 _ c.if-f-eq25.true refl refl (omega arith) c.number-then-f-eq25.ensures.0) c.mark_at.ensures) ∙ by_code _ (seen c.args.f) 25 c.if-f-eq25.true

pub overflow_add-f-then-f-eq26 : goal.overflow_add-f-then-f-eq26
unfolding counts_of width_of marking_of
overflow_add-f-then-f-eq26 c = let there = mark_there _ _ c.requires.0 26 c.if-f-eq26.true refl refl (omega arith) in search rules

pub mark_at-requires-then-f-eq26 : goal.mark_at-requires-then-f-eq26
unfolding counts_of width_of marking_of
mark_at-requires-then-f-eq26 c = mark_there _ _ c.requires.0 26 c.if-f-eq26.true refl refl (omega arith)

pub returns-then-f-eq26 : goal.returns-then-f-eq26
unfolding scalar_of counts_of width_of
returns-then-f-eq26 c = ap (λ (v : Scalar). fine v) (c.double_with.ensures ∙ ap₂ with_double (number_is _ _ c.requires.0 26 8 _ c.if-f-eq26.true refl refl (omega arith) c.number-then-f-eq26.ensures.0) c.mark_at-then-f-eq26.ensures) ∙ by_code _ (seen c.args.f) 26 c.if-f-eq26.true

pub returns : goal.returns
returns c = ap valued c.refuse.ensures ∙ no_scalar _ _ c.requires.1 c.if-f-eq6.false c.if-f-eq7.false c.if-f-eq8.false c.if-f-eq25.false c.if-f-eq26.false
