use mathlib.Core.Path.{◌≡◌}
use mathlib.Core.List.{List}
use lib.ListN.{drop}
use Rattle.sim0mq.specs.Field.{Field}
use Rattle.sim0mq.specs.Views.{number_of as number_said}
use Rattle.commands_page.specs.Page.{row_at}
use Rattle.commands_page.specs.Judging.{each}
use Rattle.commands.specs.Names.{number_of}
use Rattle.commands.specs.Tables.{Held}
use Rattle.commands.proofs.Rows.each.Given as goal

abbrev pub invariant-loop-i : goal.invariant-loop-i
invariant-loop-i l =
    (fs : List Field) → Held l.self.table.now l.self.n fs
    → each l.self.s.now (row_at (number_of l.name)) (number_said l.reason) 0 fs
    ≡ each l.self.s.now (row_at (number_of l.name)) (number_said l.reason) l.i (drop l.i fs)
