-- A double that differs from itself is the NaN, which has one pattern; any other has its bits.
use lib.Ieee.{binary64, to_bits}
use Rattle.sim0mq_kinds.proofs.Nan.{no_nan}
use Rattle.boundary_casting.proofs.ScalarLaws.{nan_bits}
use Rattle.boundary_casting.proofs.double_bits.Goals as goal

pub returns-then-x : goal.returns-then-x
unfolding to_bits
returns-then-x c = nan_bits binary64 c.args.x c.if-x.true

pub float_to_bits-result : goal.float_to_bits-result
float_to_bits-result c = rw (no_nan _ c.if-x.false) tt
