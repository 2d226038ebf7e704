-- Frame 0 and the frames after it are the header.
use mathlib.Core.Path.{sym, ap, ◌∙◌}
use Rattle.sim0mq.specs.Views.{judged}
use Rattle.reading_header.specs.Frames.{told}
use Rattle.reading_header.proofs.FrameCases.{header_stop, header_rest_lem}
use Rattle.reading_header.proofs.header.Goals as goal

pub returns-in-Err : goal.returns-in-Err
returns-in-Err c =
    let stopped = sym c.magic.ensures ∙ ap judged c.in-Err.is in
    c.refused.ensures ∙ sym (ap (told c.args.frames) (header_stop _ _ _ stopped))

pub returns-in-Ok : goal.returns-in-Ok
returns-in-Ok c = c.rest.ensures ∙ ap (told c.args.frames) (header_rest_lem _ _ (sym c.magic.ensures ∙ ap judged c.in-Ok.is))
