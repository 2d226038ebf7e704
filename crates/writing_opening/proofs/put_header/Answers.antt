-- The header is put piece by piece, each where the one before ends.
use mathlib.Core.Path.{ap, ◌∙◌}
use mir.Syntax.{w64}
use Rattle.sim0mq.specs.Codes.{width_of}
use Rattle.writing_puts.proofs.SignedLaws.{bits_are}
use Rattle.writing_opening.proofs.HeaderCases.{header_placed}
use Rattle.writing_opening.proofs.put_header.Goals as goal

pub returns : goal.returns
returns c =
    let number = c.bits.ensures ∙ bits_are w64 c.args.number c.ranges.number 64 in
    let width = c.width.ensures ∙ ap width_of c.wide.ensures.0 in
    header_placed _ _ _ _ _ _ _ _ _ _ _ _ _ number width c.requires.1 c.put.ensures c.put-2.ensures
    c.put_number.ensures c.put_number-2.ensures c.put_number-3.ensures
