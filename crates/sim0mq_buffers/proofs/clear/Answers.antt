-- One byte is cleared by one store.
use Rattle.std.proofs.Common.{arith, sym, ◌∙◌}
use Rattle.sim0mq_buffers.proofs.PlaceLaws.{zeroed_byte, clear_fits}
use Rattle.sim0mq_buffers.proofs.clear.Goals as goal

pub returns-in-1 : goal.returns-in-1
returns-in-1 c =
    let a = c.args in
    zeroed_byte a.out.now a.at a.n c.in-1.is (omega arith) ∙ sym (clear_fits a.out.now a.at a.n (omega arith))
