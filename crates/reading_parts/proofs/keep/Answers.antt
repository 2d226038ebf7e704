-- Each way is a case of the definition: the field is before field k, or has a row, or there is no row for it.
use borrow.Author.Rules.{rules}
use native.Mathlib.Omega.{arith}
use mathlib.Core.Path.{◌∙◌}
use Rattle.sim0mq.specs.Table.{row_size}
use Rattle.reading_parts.proofs.KeptCases.{kept_before, kept_here, kept_full}
use Rattle.reading_parts.proofs.keep.Goals as goal

pub returns-then-i-k : goal.returns-then-i-k
returns-then-i-k c = kept_before _ _ _ _ _ c.if-i-k.true

pub overflow_mul-j : goal.overflow_mul-j
unfolding row_size
overflow_mul-j c = search rules

pub store-requires : goal.store-requires
unfolding row_size
store-requires c =
    let room = c.requires.0 in
    (omega arith, c.requires.1 (omega arith))

pub returns-then-j-many : goal.returns-then-j-many
unfolding row_size
returns-then-j-many c =
    let from = c.args.k in
    let at = c.args.i in
    c.store.ensures ∙ kept_here _ from at _ _ (omega arith) (omega arith)

pub returns-else-j-many : goal.returns-else-j-many
returns-else-j-many c =
    let many = c.args.many in
    let from = c.args.k in
    let at = c.args.i in
    kept_full many from at _ _ (omega arith) (omega arith)
