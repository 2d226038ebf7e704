-- The frame is taken as one of a count's type, whose value bytes are there; the tests of their number are the
-- definition's.
use native.Mathlib.Omega.{arith}
use mathlib.Core.Path.{sym, ap, ◌∙◌}
use Rattle.sim0mq.specs.Header.{count_codes}
use Rattle.sim0mq.proofs.Passing.{handed_on}
use Rattle.sim0mq.proofs.Rows.{count_scalar, count_not_boolean}
use Rattle.sim0mq.proofs.HeaderLaws.{frame_scalar}
use Rattle.sim0mq_numbers.proofs.NumberCases.{number_there}
use Rattle.reading_header.specs.Frames.{counted}
use Rattle.reading_header.proofs.FrameCases.{declared_stop, declared-negative, declared-over, declared-fine}
use Rattle.reading_header.proofs.declared.Goals as goal

pub typed-requires : goal.typed-requires
typed-requires c = count_not_boolean

pub bounds-s-first : goal.bounds-s-first
bounds-s-first c = (frame_scalar _ count_codes _ _ count_scalar (sym c.in_ok-field.ensures)).0

pub returns-in_err-field : goal.returns-in_err-field
returns-in_err-field c = handed_on _ _ _ c.from_residual.ensures.1 ∙ sym (declared_stop _ _ _ _ (sym c.in_err-field.ensures))

pub returns-then-s-first-ge128 : goal.returns-then-s-first-ge128
returns-then-s-first-ge128 c =
    ap counted c.refuse.ensures ∙ sym (declared-negative _ _ _ (sym c.in_ok-field.ensures) c.if-s-first-ge128.true)

pub returns-then-number-gt-FIELDS : goal.returns-then-number-gt-FIELDS
returns-then-number-gt-FIELDS c =
    let taken = sym c.in_ok-field.ensures in
    let there = frame_scalar _ count_codes _ _ count_scalar taken in
    ap counted c.refuse-then-number-gt-FIELDS.ensures
    ∙ sym (declared-over _ _ _ taken _ (omega arith) (c.number-number.ensures.0 ∙ number_there _ _ _ there.1 there.2) c.if-number-gt-FIELDS.true)

pub returns : goal.returns
returns c =
    let taken = sym c.in_ok-field.ensures in
    let there = frame_scalar _ count_codes _ _ count_scalar taken in
    sym (declared-fine _ _ _ taken _ (omega arith) (c.number-number.ensures.0 ∙ number_there _ _ _ there.1 there.2) (omega arith))
