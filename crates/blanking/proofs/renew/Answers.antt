-- A text of one byte is stored, and zeros come after it; else a text is put, and zeros after it.
use native.Mathlib.Omega.{arith}
use lib.ListN.{get_or, length-set}
use Rattle.blanking.proofs.RenewLaws.{renewed_byte, renewed_one, renewed}
use Rattle.blanking.proofs.renew.Goals as goal

pub bounds-out-at-then-n-eq1 : goal.bounds-out-at-then-n-eq1
bounds-out-at-then-n-eq1 c = simp length-set (omega arith)

pub returns-then-n-eq1 : goal.returns-then-n-eq1
returns-then-n-eq1 c = renewed_byte _ _ _ _ c.if-text-eq1.true c.if-n-eq1.true (omega arith)

pub shape_of-out-then-text-eq1 : goal.shape_of-out-then-text-eq1
shape_of-out-then-text-eq1 c =
    let a = c.args in
    omega (arith, length-set a.out.now a.at (get_or a.text.now 0 0))

pub returns-then-text-eq1 : goal.returns-then-text-eq1
returns-then-text-eq1 c = renewed_one _ _ _ _ _ c.if-text-eq1.true (omega arith) c.clear.ensures

pub returns : goal.returns
returns c = renewed _ _ _ _ _ _ c.put.ensures c.clear-2.ensures
