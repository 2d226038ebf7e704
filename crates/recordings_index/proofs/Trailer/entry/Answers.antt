-- The entry is read at its place, or, where that is past every byte, at the largest number.
use native.Mathlib.Omega.{arith}
use Rattle.recordings_index.proofs.EntryCases.{entry_capped}
use Rattle.recordings_index.proofs.Trailer.entry.Goals as goal

pub returns-clause-answer : goal.returns-clause-answer
returns-clause-answer c =
    let from = c.saturating_sub-from.ensures in
    entry_capped _ _ _ _ 18446744073709551615 _ _ _ _ _ _ (omega arith) c.saturating_add.ensures c.saturating_mul.ensures
    (rw (c.saturating_sub-from.ensures, c.saturating_sub.ensures) at c.saturating_add-p.ensures)
    c.saturating_add-2.ensures c.number.ensures.0 c.number-2.ensures.0
