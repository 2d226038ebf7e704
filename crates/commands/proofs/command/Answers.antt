-- With a table for twelve rows, or, where 14 says that they are more, with one for all: the judge answers as with none.
use mathlib.Core.Path.{◌∙◌}
use Rattle.sim0mq.specs.declared.Reason.TheVariants.{TooShort}
use Rattle.sim0mq.specs.Table.{row_size}
use Rattle.commands.proofs.ReasonLaws.{same_reason}
use Rattle.commands.proofs.ReadLaws.{by_found, by_refused, by_all}
use Rattle.commands.proofs.command.Goals as goal

pub returns-in-Ok : goal.returns-in-Ok
returns-in-Ok c = by_found _ _ _ c.in-Ok.ensures

pub returns-in-TooShort : goal.returns-in-TooShort
unfolding row_size
returns-in-TooShort c = c.command_by-in-TooShort.ensures ∙ by_all _

pub returns-in_default : goal.returns-in_default
returns-in_default c =
    by_refused _ _ _ _ c.in-Err.ensures (λ e. c.in_default.not-TooShort (same_reason _ TooShort e))
