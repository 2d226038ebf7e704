-- Each return is a case of the definition.
use native.Mathlib.Omega.{arith}
use mathlib.Core.Path.{sym, ap, ◌∙◌}
use Rattle.reading_fields.specs.Items.{fielded}
use Rattle.reading_header.proofs.FrameCases.{among_any, frame_short, frame_wrong, frame_outline}
use Rattle.reading_header.proofs.typed.Goals as goal

pub returns-then-s-at : goal.returns-then-s-at
returns-then-s-at c = ap fielded c.refuse.ensures ∙ sym (frame_short _ _ _ (omega arith))

pub returns-then-contains : goal.returns-then-contains
returns-then-contains c =
    let listed = sym (among_any _ _) ∙ sym c.contains.ensures.value ∙ c.if-contains.true in
    c.outline.ensures ∙ frame_outline _ _ _ (omega arith) listed c.requires

pub returns : goal.returns
returns c =
    let unlisted = sym (among_any _ _) ∙ sym c.contains.ensures.value ∙ c.if-contains.false in
    ap fielded c.refuse-2.ensures ∙ sym (frame_wrong _ _ _ (omega arith) unlisted)
