-- senders::id_of: the bytes fit into the array, and stand at the front of its zeros.
use Rattle.senders.proofs.CallCases.{id_made}
use Rattle.sim0mq_buffers.proofs.PlaceLaws.{put_fits}
use lib.ListN.{replicate}
use Rattle.senders_book.specs.Book.{id_bytes}
use native.Mathlib.Omega.{arith}
use mathlib.Core.Path.{◌∙◌}
use Rattle.senders.proofs.id_of.Goals as goal

pub returns : goal.returns
returns c =
    id_made _ _ _ (c.put.ensures ∙ put_fits (replicate id_bytes 0) 0 c.args.id.now (omega arith))
