-- The bit is what the shifted number leaves when it is halved.
use borrow.Author.Rules.{rules}
use Rattle.sim0mq_tables.specs.Bits.{bit}
use Rattle.sim0mq_tables.proofs.among.Goals as goal

pub returns : goal.returns
unfolding bit
returns c = search rules
