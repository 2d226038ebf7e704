-- What putting a tail promises holds, since lengths that are too many, too long or do not end there are refused.
use Rattle.recordings_tails.specs.Promises.{GrantedTailIsRight}
use Rattle.recordings_tails.proofs.TailLaws.{tailing_right}

pub granted_tail_is_right : GrantedTailIsRight
granted_tail_is_right = tailing_right
