-- The size that fits is the values', and all or none of their bytes are Booleans.
use native.Mathlib.Omega.{arith}
use mathlib.Core.Path.{sym, ◌∙◌}
use Rattle.sim0mq.proofs.Passing.{handed_on}
use Rattle.reading_values.proofs.ValueCases.{size_goes, values_stop, values_boolean, values_other}
use Rattle.reading_values.proofs.values.Goals as goal

pub booleans-requires : goal.booleans-requires
booleans-requires c = (size_goes _ _ _ _ _ (sym c.in_ok-bytes.ensures)).1

pub returns-then-boolean : goal.returns-then-boolean
returns-then-boolean c = c.booleans.ensures ∙ values_boolean _ _ _ _ _ (sym c.in_ok-bytes.ensures) (sym c.boolean.ensures ∙ c.if-boolean.true)

pub overflow_add-result : goal.overflow_add-result
overflow_add-result c = let z = size_goes _ _ _ _ _ (sym c.in_ok-bytes.ensures) in omega (arith, z.1)

pub returns-in_err-bytes : goal.returns-in_err-bytes
returns-in_err-bytes c = handed_on _ _ _ c.from_residual.ensures.1 ∙ sym (values_stop _ _ _ _ _ _ (sym c.in_err-bytes.ensures))

pub returns : goal.returns
returns c = values_other _ _ _ _ _ (sym c.in_ok-bytes.ensures) (sym c.boolean.ensures ∙ c.if-boolean.false)
