-- The place and the number of entries in four bytes each, and the edition in two, each where the one before ends.
use Rattle.recordings_tails.proofs.TailLaws.{trailer_put}
use Rattle.recordings_tails.proofs.put_trailer.Goals as goal

pub returns : goal.returns
returns c =
    let room = c.requires in
    let place = c.put_big.ensures in
    let count = c.put_big-2.ensures in
    trailer_put _ _ _ _ _ _ _ room place count c.put_big-3.ensures
