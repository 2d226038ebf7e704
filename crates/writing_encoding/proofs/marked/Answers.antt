-- The code, a mark that is taken, and the number are put one after the other at the front of 13 zero bytes.
use mathlib.Core.Path.{sym, ◌∙◌}
use native.Mathlib.Omega.{arith}
use Rattle.writing_encoding.proofs.EncodeCases.{untaken_encoded, marked-short, marked-encoded}
use Rattle.writing_encoding.proofs.marked.Goals as goal

pub returns-then-not-mark_taken : goal.returns-then-not-mark_taken
returns-then-not-mark_taken c =
    let args = c.args in
    untaken_encoded args.code args.n args.x args.mark (sym c.mark_taken.ensures ∙ c.if-not-mark_taken.true)

pub put_mark-end-requires : goal.put_mark-end-requires
put_mark-end-requires c = (sym c.mark_taken.ensures ∙ c.if-not-mark_taken.false, omega arith)

pub overflow_add-result : goal.overflow_add-result
overflow_add-result c =
    let put = c.put_mark-end.ensures in
    let short = marked-short c.args.code c.args.n c.args.x c.args.mark _ _ put.after put.written c.requires in
    record { fits = omega (arith, short) }

pub returns : goal.returns
returns c =
    let put = c.put_mark-end.ensures in
    marked-encoded c.args.code c.args.n c.args.x c.args.mark _ _ put.after put.written _ c.requires
    (sym c.mark_taken.ensures
    ∙ c.if-not-mark_taken.false)
    c.put_big.ensures
