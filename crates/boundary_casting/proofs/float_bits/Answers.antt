-- A float that differs from itself is the NaN, which has one pattern; any other has its bits.
use borrow.Author.Rules.{rules}
use lib.Ieee.{binary32, to_bits}
use Rattle.sim0mq_kinds.proofs.Nan.{no_nan}
use Rattle.writing_encoding.proofs.EncodeCases.{bits_fit}
use Rattle.boundary_casting.proofs.ScalarLaws.{nan_bits}
use Rattle.boundary_casting.proofs.float_bits.Goals as goal

pub returns-then-x : goal.returns-then-x
unfolding to_bits
returns-then-x c = nan_bits binary32 c.args.x c.if-x.true

pub float_to_bits-result : goal.float_to_bits-result
float_to_bits-result c = rw (no_nan _ c.if-x.false) tt

pub overflow_cast-result : goal.overflow_cast-result
overflow_cast-result c = bits_fit c.args.x (search rules)
