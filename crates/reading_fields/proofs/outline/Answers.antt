-- The three calls are the definition's three steps.
use mathlib.Core.Path.{sym, ◌∙◌}
use Rattle.sim0mq.proofs.Passing.{handed_on}
use Rattle.reading_fields.proofs.FieldCases.{outline_head_stop, outline-marks-stop, outline-size-stop, outline-fine}
use Rattle.reading_fields.proofs.outline.Goals as goal

pub returns-in_err-h : goal.returns-in_err-h
returns-in_err-h c = handed_on _ _ _ c.from_residual.ensures.1 ∙ sym (outline_head_stop _ _ _ _ (sym c.in_err-h.ensures))

pub returns-in_err-first : goal.returns-in_err-first
returns-in_err-first c =
    handed_on _ _ _ c.from_residual-in_err-first.ensures.1
    ∙ sym (outline-marks-stop _ _ _ (sym c.in_ok-h.ensures) _ _ (sym c.in_err-first.ensures))

pub returns-in_err-size : goal.returns-in_err-size
returns-in_err-size c =
    handed_on _ _ _ c.from_residual-in_err-size.ensures.1
    ∙ sym (outline-size-stop _ _ _ (sym c.in_ok-h.ensures) _ (sym c.in_ok-first.ensures) _ _ (sym c.in_err-size.ensures))

pub returns : goal.returns
returns c = sym (outline-fine _ _ _ (sym c.in_ok-h.ensures) _ (sym c.in_ok-first.ensures) _ (sym c.in_ok-size.ensures))
