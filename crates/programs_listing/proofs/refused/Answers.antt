-- programs_listing::refused meets its contract: each call puts the next piece of the line from where the one before
-- ended. Assumes nothing.
use mathlib.Core.Path.{◌≡◌, sym, ◌∙◌}
use Rattle.sim0mq.specs.Views.{number_of}
use Rattle.programs_listing.specs.Text.{refused_text}
use Rattle.programs_listing.proofs.PutCases.{put_none, put_then}
use Rattle.programs_listing.proofs.refused.Goals as goal

pub returns : goal.returns
unfolding refused_text
returns c =
    let e : c.from.result ≡ number_of c.args.refusal.reason = c.from.ensures ∙ c.number.ensures in
    rw (sym e) (search (put_none, put_then) depth 40)
