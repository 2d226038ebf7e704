-- At each turn the numbers of the messages so far stand at the front of the table.
use Rattle.recordings.proofs.StatedLaws.{entry-stated, entry-narrow}
use Rattle.recordings.proofs.StoreCases.{storing_start, storing_room, storing_turn, storing_end}
use Rattle.recordings.proofs.store.Goals as goal

pub loop-k-init : goal.loop-k-init
loop-k-init c = storing_start _ _ _

pub put_place-requires : goal.put_place-requires
put_place-requires c =
    storing_room c.requires c.loop-k.invariant c.loop-k-test.true (entry-narrow c.requires.0 c.entry.ensures.narrow)

pub loop-k-preserved : goal.loop-k-preserved
loop-k-preserved c =
    let more = c.loop-k-test.true in
    storing_turn c.requires c.loop-k.invariant more (entry-stated c.requires.0 more c.entry.ensures.answer)
    c.put_place.ensures

pub returns : goal.returns
returns c = storing_end c.requires c.loop-k.invariant c.loop-k-test.false
