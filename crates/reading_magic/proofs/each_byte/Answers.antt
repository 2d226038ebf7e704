-- The calls are the definition's steps, in its order.
use mathlib.Core.Path.{sym, ◌∙◌}
use Rattle.sim0mq.proofs.Passing.{handed_on}
use Rattle.reading_magic.proofs.MagicCases.{magic_stop, magic-first, magic-second, magic-edition}
use Rattle.reading_magic.proofs.each_byte.Goals as goal

pub returns-in_err-_end : goal.returns-in_err-_end
returns-in_err-_end c = handed_on _ _ _ c.from_residual.ensures.1 ∙ sym (magic_stop _ _ _ (sym c.in_err-_end.ensures))

pub returns-in_err-a : goal.returns-in_err-a
returns-in_err-a c =
    handed_on _ _ _ c.from_residual-in_err-a.ensures.1
    ∙ sym (magic-first _ _ (sym c.in_ok-_end.ensures) _ _ (sym c.in_err-a.ensures))

pub returns-in_err-b : goal.returns-in_err-b
returns-in_err-b c =
    handed_on _ _ _ c.from_residual-in_err-b.ensures.1
    ∙ sym (magic-second _ _ (sym c.in_ok-_end.ensures) _ _ _ (sym c.in_ok-a.ensures) (sym c.in_err-b.ensures))

pub returns : goal.returns
returns c = c.edition.ensures ∙ magic-edition _ _ (sym c.in_ok-_end.ensures) _ _ (sym c.in_ok-a.ensures) (sym c.in_ok-b.ensures)
