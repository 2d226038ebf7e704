-- The frame is taken as one of a status' type, which has a value byte; the tests of that byte are the definition's.
use native.Mathlib.Omega.{arith}
use mathlib.Core.Path.{sym, ap, ◌∙◌}
use Rattle.sim0mq.specs.Header.{status_codes}
use Rattle.sim0mq.proofs.Passing.{handed_on}
use Rattle.sim0mq.proofs.Rows.{status_scalar, status_not_boolean}
use Rattle.sim0mq.proofs.HeaderLaws.{frame_scalar}
use Rattle.reading_fields.specs.Items.{fielded}
use Rattle.reading_header.proofs.FrameCases.{status_stop, status-low, status-high, status-fine}
use Rattle.reading_header.proofs.status.Goals as goal

pub typed-requires : goal.typed-requires
typed-requires c = status_not_boolean

pub bounds-s-f : goal.bounds-s-f
bounds-s-f c = (frame_scalar _ status_codes _ _ status_scalar (sym c.in_ok-f.ensures)).0

pub returns-in_err-f : goal.returns-in_err-f
returns-in_err-f c = handed_on _ _ _ c.from_residual.ensures.1 ∙ sym (status_stop _ _ _ _ (sym c.in_err-f.ensures))

pub returns-then-x-lt-NEW : goal.returns-then-x-lt-NEW
returns-then-x-lt-NEW c = ap fielded c.refuse.ensures ∙ sym (status-low _ _ _ (sym c.in_ok-f.ensures) c.if-x-lt-NEW.true)

pub returns-then-x-gt-DELETE : goal.returns-then-x-gt-DELETE
returns-then-x-gt-DELETE c =
    ap fielded c.refuse-then-x-gt-DELETE.ensures ∙ sym (status-high _ _ _ (sym c.in_ok-f.ensures) (omega arith) c.if-x-gt-DELETE.true)

pub returns : goal.returns
returns c = sym (status-fine _ _ _ (sym c.in_ok-f.ensures) (omega arith) (omega arith))
