use mathlib.Core.Path.{◌≡◌}
use Rattle.programs_listing.specs.Put.{buffer, put_all}
use Rattle.programs_listing.specs.Text.{rows_text}
use Rattle.programs_listing.proofs.rows.Given as goal

abbrev pub invariant-loop-i : goal.invariant-loop-i
invariant-loop-i l = buffer l.out l.at ≡ put_all (buffer l.initial.out l.initial.at) (rows_text l.table l.i)
