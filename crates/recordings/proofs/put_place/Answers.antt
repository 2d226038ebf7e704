-- The two numbers are stored one after the other.
use Rattle.recordings.proofs.StoreCases.{numbers_placed}
use Rattle.recordings.proofs.put_place.Goals as goal

pub returns : goal.returns
returns c = numbers_placed _ _ _ c.requires.room
