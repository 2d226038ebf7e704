-- Each case of the answer has its numbers.
use borrow.Author.Rules.{rules}
use Rattle.boundary_ledger.proofs.DeckLaws.{reckoned_accepted}
use Rattle.boundary_ledger.proofs.reckoned_numbers.Goals as goal

pub returns-in-Ok-clause-numbers : goal.returns-in-Ok-clause-numbers
returns-in-Ok-clause-numbers c = reckoned_accepted _ _ _ _ (search rules) c.in-Ok.is
