-- A text of one byte is placed by one store.
use Rattle.std.proofs.Common.{◌≡◌, length, arith, sym, ◌∙◌}
use Rattle.sim0mq_buffers.proofs.PlaceLaws.{placed_single, put_fits}
use Rattle.sim0mq_buffers.proofs.put.Goals as goal

pub returns-in-len1 : goal.returns-in-len1
returns-in-len1 c =
    let a = c.args in
    let one : length a.text.now ≡ 1 = omega arith in
    placed_single a.out.now a.at a.text.now one (omega arith) ∙ sym (put_fits a.out.now a.at a.text.now (omega arith))
