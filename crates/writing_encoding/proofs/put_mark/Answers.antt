-- A taken mark's kind says which numbers follow its unit type, and each is put after the one before.
use native.Mathlib.Omega.{arith}
use mathlib.Core.Path.{◌∙◌}
use lib.ListN.{length-set}
use Rattle.writing_encoding.proofs.EncodeCases.{taken_money, plain-written, money-length, money-written, per-written}
use Rattle.writing_encoding.proofs.put_mark.Goals as goal

pub bounds-out-2 : goal.bounds-out-2
bounds-out-2 c = simp length-set (omega (arith, c.requires.1))

pub returns-then-mark-le28 : goal.returns-then-mark-le28
returns-then-mark-le28 c =
    let put = plain-written _ _ c.requires.1 c.if-mark-le28.true in
    record { after = put.0; written = put.1 }

pub shape_of-out-then-mark-eq100 : goal.shape_of-out-then-mark-eq100
shape_of-out-then-mark-eq100 c = money-length c.args.mark c.args.out.now c.requires.1 _ (rw c.from.ensures at c.put_big.ensures)

pub returns-then-mark-eq100 : goal.returns-then-mark-eq100
returns-then-mark-eq100 c =
    let put = money-written _ _ c.requires.1 _ (rw c.from.ensures at c.put_big.ensures) c.if-mark-eq100.true in
    record { after = put.0; written = put.1 }

pub shape_of-out : goal.shape_of-out
shape_of-out c =
    length-set c.put_big.new.out 4 c.args.mark.display
    ∙ money-length c.args.mark c.args.out.now c.requires.1 _ (rw c.from.ensures at c.put_big.ensures)

pub returns : goal.returns
returns c =
    let is = taken_money c.args.mark c.requires.0 c.if-mark-le28.false in
    let put = per-written _ _ c.requires.1 _ (rw c.from.ensures at c.put_big.ensures) (omega (arith, is.0)) is.1 in
    record { after = put.0; written = put.1 }
