use mathlib.Core.Path.{◌≡◌}
use lib.ListN.{length, drop}
use Rattle.sim0mq.specs.Blank.{blanked}
use Rattle.sim0mq.specs.Table.{placed}
use Rattle.blanking.specs.Blanking.{fields_of}
use Rattle.blanking.proofs.BlankCases.{Left}
use Rattle.blanking.proofs.blank_fields.Given as goal

abbrev pub invariant-loop-k : goal.invariant-loop-k
invariant-loop-k l = Left l.message l.kept (blanked (placed l.initial.out l.next (drop l.next l.message)) (fields_of l.message l.next l.n)) l.out l.n l.at l.k × (length l.out ≡ length l.initial.out)
