-- programs_listing::first_line meets its contract: the line is put at the front, and `whole` counts the bytes before
-- its end. Assumes nothing.
use mathlib.Core.Path.{ap}
use Rattle.programs_listing.specs.Text.{line_text}
use Rattle.programs_listing.proofs.PutCases.{put_told}
use Rattle.programs_listing.proofs.first_line.Goals as goal

pub returns-in-Ok : goal.returns-in-Ok
returns-in-Ok c =
    let e = ap line_text c.in-Ok.is in
    let told = put_told _ _ _ _ _ _ e c.accepted.ensures c.whole.ensures.value in
    record { counts = c.whole.ensures.prefix_len; answer = told.0; text = told.1 }

pub returns-in-Err : goal.returns-in-Err
returns-in-Err c =
    let e = ap line_text c.in-Err.is in
    let told = put_told _ _ _ _ _ _ e c.refused.ensures c.whole-in-Err.ensures.value in
    record { counts = c.whole-in-Err.ensures.prefix_len; answer = told.0; text = told.1 }
