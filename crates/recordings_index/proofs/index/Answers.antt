-- The whole file is its own last bytes, and of it nothing is wanted.
use mathlib.Core.Path.{ap, sym, ◌∙◌}
use Rattle.recordings_index.specs.Index.{reached_as}
use Rattle.recordings_index.proofs.TailLaws.{whole_comes}
use Rattle.recordings_index.proofs.index.Goals as goal

pub returns-in-Found : goal.returns-in-Found
returns-in-Found c =
    whole_comes _ _ (ap reached_as (sym c.in-Found.is) ∙ c.index_tail.ensures)

pub returns-in-Wrong : goal.returns-in-Wrong
returns-in-Wrong c =
    whole_comes _ _ (ap reached_as (sym c.in-Wrong.is) ∙ c.index_tail.ensures)
