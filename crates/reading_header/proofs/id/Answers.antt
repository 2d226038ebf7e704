-- A string of bytes that is all there is an id, and its number is its length; any other id is judged as the frames are.
use native.Mathlib.Omega.{arith}
use mathlib.Core.Path.{sym, ◌∙◌}
use Rattle.reading_header.proofs.TextLaws.{text_told, text_taken_lem}
use Rattle.reading_header.proofs.id.Goals as goal

pub overflow_add-at : goal.overflow_add-at
overflow_add-at c = let text = text_told _ _ (sym c.is_text.ensures ∙ c.if-is_text.true) in omega arith

pub overflow_add-result : goal.overflow_add-result
overflow_add-result c = let text = text_told _ _ (sym c.is_text.ensures ∙ c.if-is_text.true) in omega arith

pub returns-then-is_text : goal.returns-then-is_text
returns-then-is_text c =
    let text = text_told _ _ (sym c.is_text.ensures ∙ c.if-is_text.true) in
    text_taken_lem _ _ _ text c.number-n.ensures.0

pub returns : goal.returns
returns c = c.any_id.ensures
