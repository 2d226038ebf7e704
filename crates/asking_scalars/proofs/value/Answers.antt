-- The field is asked for, and its value is told by its code.
use mathlib.Core.Path.{sym, ap, ◌∙◌}
use Rattle.sim0mq.specs.Answer.{◌>>=◌}
use Rattle.sim0mq.proofs.Passing.{handed_on}
use Rattle.asking_scalars.specs.Scalars.{scalar_of, value}
use Rattle.asking_scalars.proofs.StandingLaws.{asked_standing}
use Rattle.asking_scalars.proofs.value.Goals as goal

pub scalar_of-requires : goal.scalar_of-requires
scalar_of-requires c = asked_standing _ _ _ (sym c.in_ok-field.ensures)

pub returns-in_err-field : goal.returns-in_err-field
unfolding value
returns-in_err-field c = handed_on _ _ _ c.from_residual.ensures.1 ∙ ap (λ a. a >>= scalar_of c.args.message.now) c.in_err-field.ensures

pub returns : goal.returns
unfolding value
returns c = c.scalar_of.ensures ∙ ap (λ a. a >>= scalar_of c.args.message.now) c.in_ok-field.ensures
