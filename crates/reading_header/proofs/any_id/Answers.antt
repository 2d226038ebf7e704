-- The frame is of one of the id types, none of which is a Boolean's.
use Rattle.sim0mq.proofs.Rows.{id_not_boolean}
use Rattle.reading_header.proofs.any_id.Goals as goal

pub typed-requires : goal.typed-requires
typed-requires c = id_not_boolean

pub returns : goal.returns
returns c = c.typed.ensures
