-- The code and the number are put at the front of 13 zero bytes, and they are 1 + n.
use native.Mathlib.Omega.{arith}
use mathlib.Core.Path.{◌∙◌}
use lib.ListN.{replicate}
use Rattle.writing_puts.specs.Placing.{number_text}
use Rattle.sim0mq_buffers.proofs.PlaceLaws.{put_fits}
use Rattle.writing_puts.proofs.PlaceLaws.{big_length}
use Rattle.writing_encoding.proofs.EncodeCases.{plain_encoded}
use Rattle.writing_encoding.proofs.plain.Goals as goal

pub returns : goal.returns
returns c =
    let a = c.args in
    let long = big_length a.n a.x in
    plain_encoded _ _ _ _ (c.put_number.ensures ∙ put_fits (replicate 13 0) 0 (number_text a.code a.n a.x) (omega arith))
