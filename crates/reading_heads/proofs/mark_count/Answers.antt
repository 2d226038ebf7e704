-- Each marking has its number, by which the definition counts.
use mathlib.Core.Path.{sym, ap}
use Rattle.sim0mq.specs.Field.{mark_count}
use Rattle.sim0mq_tables.specs.declared.Marked.{Marked}
use Rattle.sim0mq_tables.specs.Markings.{marking_number}
use Rattle.reading_heads.proofs.mark_count.Goals as goal

pub returns-in-None : goal.returns-in-None
unfolding mark_count
returns-in-None c = sym (ap (λ (m : Marked). mark_count (marking_number m) c.args.columns) c.in-None.is)

pub returns-in-One : goal.returns-in-One
unfolding mark_count
returns-in-One c = sym (ap (λ (m : Marked). mark_count (marking_number m) c.args.columns) c.in-One.is)

pub returns-in-PerColumn : goal.returns-in-PerColumn
unfolding mark_count
returns-in-PerColumn c = sym (ap (λ (m : Marked). mark_count (marking_number m) c.args.columns) c.in-PerColumn.is)
