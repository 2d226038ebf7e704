-- The number is tested, and told with its unit type.
use mathlib.Core.Path.{sym, ap, ◌∙◌}
use Rattle.asking_scalars.specs.Scalars.{valued}
use Rattle.sums.proofs.SumLaws.{not_finite, is_finite_lem}
use Rattle.sums.proofs.told.Goals as goal

pub returns-then-not-finite : goal.returns-then-not-finite
returns-then-not-finite c = ap valued c.refuse.ensures ∙ sym (not_finite _ _ (sym c.finite.ensures ∙ c.if-not-finite.true))

pub returns : goal.returns
returns c = sym (is_finite_lem _ _ (sym c.finite.ensures ∙ c.if-not-finite.false))
