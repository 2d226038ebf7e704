-- The row is the definition's, and past its end there is none.
use borrow.Author.Rules.{rules}
use Rattle.sim0mq.specs.Mark.{per_row}
use Rattle.sim0mq_tables.proofs.TableCases.{past}
use Rattle.sim0mq_tables.proofs.per.Goals as goal

pub returns : goal.returns
returns c = past per_row c.args.k (search rules)
