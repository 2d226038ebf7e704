-- programs_listing::accepted meets its contract: each call puts the next piece of the line from where the one before
-- ended. Assumes nothing.
use Rattle.programs_listing.specs.Text.{accepted_text}
use Rattle.programs_listing.proofs.PutCases.{put_none, put_then}
use Rattle.programs_listing.proofs.accepted.Goals as goal

pub returns : goal.returns
unfolding accepted_text
returns c = search (put_none, put_then) depth 40
