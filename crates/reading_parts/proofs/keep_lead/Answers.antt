-- Where its numbers agree, a run is kept as the fields that it has; else nothing is.
use native.Mathlib.Omega.{arith}
use mathlib.Core.Path.{sym, ◌∙◌}
use Rattle.sim0mq.specs.Table.{row_size}
use Rattle.reading_parts.proofs.LeadCases.{agrees_keepable, lead_agrees, lead_differs}
use Rattle.reading_parts.proofs.keep_lead.Goals as goal

pub keep_run-requires : goal.keep_run-requires
unfolding row_size
keep_run-requires c =
    (omega arith, agrees_keepable _ _ _ (sym c.agrees.ensures ∙ c.if-agrees.true))

pub returns-then-agrees : goal.returns-then-agrees
unfolding row_size
returns-then-agrees c =
    c.keep_run.ensures ∙ lead_agrees _ _ _ (sym c.agrees.ensures ∙ c.if-agrees.true)

pub returns-else-agrees : goal.returns-else-agrees
returns-else-agrees c = lead_differs _ _ _ (sym c.agrees.ensures ∙ c.if-agrees.false)
