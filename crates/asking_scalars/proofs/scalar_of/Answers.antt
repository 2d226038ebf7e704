-- The code says which number the value bytes write, and they are there.
use borrow.Author.Rules.{rules}
use mathlib.Core.Path.{◌≡◌, refl, ap, ◌∙◌}
use native.Mathlib.Omega.{arith}
use mir.Syntax.{w8, w16, w32, w64}
use mir.Val.{to_z, of_z}
use lib.IntN.{ℤ}
use Rattle.reading_fields.specs.Items.{seen}
use Rattle.sim0mq.specs.Answer.{fine}
use Rattle.sim0mq.specs.Codes.{counts_of, width_of}
use Rattle.sim0mq_kinds.specs.declared.Scalar.{Scalar}
use Rattle.sim0mq_kinds.specs.declared.Scalar.TheVariants.{Byte, Short, Int, Long}
use Rattle.sim0mq_signed.specs.Signed.{twos}
use Rattle.sim0mq_kinds.specs.Kinds.{float_of, double_of}
use Rattle.asking_scalars.specs.Scalars.{scalar_of}
use Rattle.asking_scalars.proofs.ScalarCases.{number_is, by_code}
use Rattle.asking_scalars.proofs.scalar_of.Goals as goal

pub returns-then-f-eq0 : goal.returns-then-f-eq0
unfolding scalar_of counts_of width_of
returns-then-f-eq0 c = let e : to_z w8 (of_z w8 c.i8_of.result) ≡ c.i8_of.result = search rules in ap (λ (z : ℤ). fine (Byte z)) (e ∙ c.i8_of.ensures ∙ ap (twos 8) (number_is _ _ c.requires 0 1 _ c.if-f-eq0.true refl refl (omega arith) c.number.ensures.0)) ∙ by_code _ (seen c.args.f) 0 c.if-f-eq0.true

pub returns-then-f-eq1 : goal.returns-then-f-eq1
unfolding scalar_of counts_of width_of
returns-then-f-eq1 c = let e : to_z w16 (of_z w16 c.i16_of.result) ≡ c.i16_of.result = search rules in ap (λ (z : ℤ). fine (Short z)) (e ∙ c.i16_of.ensures ∙ ap (twos 16) (number_is _ _ c.requires 1 2 _ c.if-f-eq1.true refl refl (omega arith) c.number-then-f-eq1.ensures.0)) ∙ by_code _ (seen c.args.f) 1 c.if-f-eq1.true

pub returns-then-f-eq2 : goal.returns-then-f-eq2
unfolding scalar_of counts_of width_of
returns-then-f-eq2 c = let e : to_z w32 (of_z w32 c.i32_of.result) ≡ c.i32_of.result = search rules in ap (λ (z : ℤ). fine (Int z)) (e ∙ c.i32_of.ensures ∙ ap (twos 32) (number_is _ _ c.requires 2 4 _ c.if-f-eq2.true refl refl (omega arith) c.number-then-f-eq2.ensures.0)) ∙ by_code _ (seen c.args.f) 2 c.if-f-eq2.true

pub returns-then-f-eq3 : goal.returns-then-f-eq3
unfolding scalar_of counts_of width_of
returns-then-f-eq3 c = let e : to_z w64 (of_z w64 c.i64_of.result) ≡ c.i64_of.result = search rules in ap (λ (z : ℤ). fine (Long z)) (e ∙ c.i64_of.ensures ∙ ap (twos 64) (number_is _ _ c.requires 3 8 _ c.if-f-eq3.true refl refl (omega arith) c.number-then-f-eq3.ensures.0)) ∙ by_code _ (seen c.args.f) 3 c.if-f-eq3.true

pub returns-then-f-eq4 : goal.returns-then-f-eq4
unfolding scalar_of counts_of width_of
returns-then-f-eq4 c = ap (λ (v : Scalar). fine v) (c.float_of.ensures ∙ ap (float_of) (number_is _ _ c.requires 4 4 _ c.if-f-eq4.true refl refl (omega arith) c.number-then-f-eq4.ensures.0)) ∙ by_code _ (seen c.args.f) 4 c.if-f-eq4.true

pub returns-then-f-eq5 : goal.returns-then-f-eq5
unfolding scalar_of counts_of width_of
returns-then-f-eq5 c = ap (λ (v : Scalar). fine v) (c.double_of.ensures ∙ ap (double_of) (number_is _ _ c.requires 5 8 _ c.if-f-eq5.true refl refl (omega arith) c.number-then-f-eq5.ensures.0)) ∙ by_code _ (seen c.args.f) 5 c.if-f-eq5.true

pub further-requires : goal.further-requires
further-requires c = (c.requires, omega arith)

pub returns : goal.returns
returns c = c.further.ensures
