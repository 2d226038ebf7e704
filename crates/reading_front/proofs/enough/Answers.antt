-- The two cases are the definition's; a division spares the product.
use mathlib.Core.Path.{sym, ap, ◌∙◌}
use Rattle.reading_front.specs.Front.{lent_of}
use Rattle.std.specs.Prelude.{ℕ, Option}
use Rattle.sim0mq.specs.Table.{row_size}
use Rattle.sim0mq.specs.Message.{enough}
use Rattle.reading_front.proofs.FrontCases.{enough_none, enough_table}
use Rattle.reading_front.proofs.enough.Goals as goal

pub returns-in-None : goal.returns-in-None
returns-in-None c = enough_none _ ∙ ap (λ (l : Option ℕ). enough (lent_of l) c.args.n) (sym c.in-None.is)

pub returns-in-Some : goal.returns-in-Some
unfolding row_size
returns-in-Some c = enough_table _ _ ∙ ap (λ (l : Option ℕ). enough (lent_of l) c.args.n) (sym c.in-Some.is)
