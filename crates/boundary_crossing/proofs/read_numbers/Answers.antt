-- Each case of the answer has its numbers; the eight frames give theirs one by one.
use borrow.Author.Rules.{rules}
use Rattle.boundary_crossing.proofs.NumberLaws.{read_accepted}
use Rattle.boundary_crossing.proofs.read_numbers.Goals as goal

pub returns-in-Ok-clause-numbers : goal.returns-in-Ok-clause-numbers
returns-in-Ok-clause-numbers c = read_accepted _ _ _ _ (search rules) c.in-Ok.is
