-- The test on what the table has of the field.
use mathlib.Core.Path.{ap, ◌∙◌}
use Rattle.sim0mq.specs.Table.{row_size}
use Rattle.sim0mq.specs.Views.{number_of}
use Rattle.sim0mq.specs.declared.Reason.TheVariants.{FieldCode}
use Rattle.commands_page.specs.Page.{Want}
use Rattle.commands_page.specs.Judging.{code_taken, text_taken}
use Rattle.commands.proofs.ReasonLaws.{same_reason}
use Rattle.commands.proofs.EachLaws.{right_code, right_text}
use Rattle.commands.proofs.Rows.right.Goals as goal

pub returns-in-FieldCode : goal.returns-in-FieldCode
unfolding row_size
returns-in-FieldCode c =
    λ f h.
    right_code _ _ _ _ _ f h _ _ _ _ (ap number_of c.in-FieldCode.is) c.wide32.ensures.0 c.wide32-place.ensures.0
    c.byte_at.ensures
    (c.takes.ensures ∙ ap (λ (w : Want). code_taken w.codes c.wide32.result c.byte_at.result) c.want-want.ensures)

pub returns-in_default : goal.returns-in_default
unfolding row_size
returns-in_default c =
    λ f h.
    right_text _ _ _ _ _ f h _ _ _ (λ e. c.in_default.not-FieldCode (same_reason _ FieldCode e)) c.wide32-in_default.ensures.0
    c.wide32-in_default-2.ensures.0
    (c.reads.ensures
    ∙ ap (λ (w : Want). text_taken w.rule c.args.self.now.s.now c.wide32-in_default.result c.wide32-in_default-2.result) c.want-want.ensures)
