-- Where there is room, the code is stored, and the number after it.
use Prim.Native.Nat.{◌+◌, ◌≤◌}
use native.Mathlib.Omega.{arith}
use mathlib.Core.Path.{sym, ◌∙◌}
use lib.ListN.{length, set, length-set}
use Rattle.writing_puts.specs.Placing.{number_text}
use Rattle.sim0mq_buffers.proofs.PlaceLaws.{put_fits}
use Rattle.writing_puts.proofs.PlaceLaws.{placed_coded, big_length, big_fits}
use Rattle.writing_puts.proofs.put_number.Goals as goal

pub returns : goal.returns
returns c =
    let a = c.args in
    let same = length-set a.out.now a.at a.code in
    let long = big_length a.n a.x in
    let room : a.at + 1 + a.n ≤ length a.out.now = omega arith in
    c.put_big.ensures
    ∙ big_fits (set a.out.now a.at a.code) (a.at + 1) a.n a.x (omega arith)
    ∙ placed_coded _ _ _ _ _ room
    ∙ sym (put_fits a.out.now a.at (number_text a.code a.n a.x) (omega arith))
