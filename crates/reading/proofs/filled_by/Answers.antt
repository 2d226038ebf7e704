-- Refused, the table is as it was; accepted, the rows that were kept are copied to it, and they are those of the
-- message.
use native.Mathlib.Omega.{arith}
use mathlib.Core.Path.{refl, sym, ◌∙◌}
use Rattle.sim0mq.specs.Table.{row_size}
use Rattle.sim0mq.proofs.Passing.{handed_on}
use Rattle.sim0mq_numbers.proofs.NumberCases.{below_refused}
use Rattle.reading.proofs.AnswerCases.{fill_refused, fill_accepted}
use Rattle.reading.proofs.filled_by.Goals as goal

pub overflow_mul-n : goal.overflow_mul-n
unfolding row_size
overflow_mul-n c =
    let room = c.requires.room in
    omega arith

pub copied-requires : goal.copied-requires
unfolding row_size
copied-requires c =
    let keeps = c.requires.keeps in
    let room = c.requires.room in
    (omega arith, omega arith)

pub returns-in_err-steps : goal.returns-in_err-steps
returns-in_err-steps c =
    let said = sym c.in_err-steps.ensures.answer.0 in
    let passed = c.from_residual.ensures.1 in
    record { answer = (handed_on _ _ _ passed ∙ sym said, below_refused _ _ _ passed); stored = fill_refused _ _ _ _ _ c.requires _ _ _ said }

pub returns : goal.returns
unfolding row_size
returns c =
    let said = sym c.in_ok-steps.ensures.answer.0 in
    record {
      answer = (sym said, c.in_ok-steps.ensures.answer.1);
      stored = fill_accepted _ _ _ _ _ c.requires _ _ _ _ _ said refl c.payload.ensures.kept c.copied.ensures;
    }
