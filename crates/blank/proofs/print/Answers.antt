-- blank::print is safe: a copy that was made lies within its array, since blanking answers no length past the room it
-- was lent. Assumes nothing.
use Rattle.std.proofs.Common.{arith, sym}
use Rattle.blanking.proofs.BlankCases.{copy_fits}
use Rattle.blank.proofs.print.Goals as goal

pub slice_bounds-write-end : goal.slice_bounds-write-end
slice_bounds-write-end g c =
    let fits = copy_fits _ _ _ (sym c.in-Ok.ensures.answer) in
    omega arith
