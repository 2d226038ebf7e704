-- A start in four bytes, and the length where they end.
use Rattle.recordings_tails.proofs.TailLaws.{two_put}
use Rattle.recordings_tails.proofs.put_entry.Goals as goal

pub returns : goal.returns
returns c =
    let room = c.requires in
    let start = c.put_big.ensures in
    two_put _ _ _ _ _ _ _ _ room start c.put_big-2.ensures
