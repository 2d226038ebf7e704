-- An infinity or a NaN less itself is a NaN, which differs from itself.
use Rattle.sums.proofs.FloatLaws.{finite_tested}
use Rattle.sums.proofs.finite.Goals as goal

pub returns : goal.returns
returns c = finite_tested c.args.x
