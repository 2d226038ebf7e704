-- Where the three numbers are frame 0's it is taken, as it is byte by byte.
use native.Mathlib.Omega.{arith}
use mathlib.Core.Path.{sym, ◌∙◌}
use Rattle.reading_magic.proofs.ThreeNumbers.{frame_0_taken}
use Rattle.reading_magic.proofs.magic.Goals as goal

pub returns-then-is_frame_0 : goal.returns-then-is_frame_0
returns-then-is_frame_0 c =
    let told = sym c.is_frame_0.ensures ∙ c.if-is_frame_0.true in
    frame_0_taken _ (λ i. omega (arith, (c.type_inv.s i).fits)) told

pub returns : goal.returns
returns c = c.each_byte.ensures
