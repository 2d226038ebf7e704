-- Each return is a case of the definition: the part ends within the limit, or its place or its end is past it.
use native.Mathlib.Omega.{arith}
use Prim.Native.Nat.{◌+◌}
use Rattle.sim0mq.specs.Table.{row_size}
use Rattle.sim0mq.specs.Message.{limit}
use Rattle.reading_parts.proofs.KeptCases.{rows_within, rows_none}
use Rattle.reading_parts.proofs.rows.Goals as goal

pub returns-then-bytes-base : goal.returns-then-bytes-base
unfolding limit row_size
returns-then-bytes-base c = rows_within _ _ (omega arith)

pub returns-else-bytes-base : goal.returns-else-bytes-base
unfolding limit
returns-else-bytes-base c =
    let args = c.args in
    rows_none (args.base + args.bytes) args.numbers (omega arith)

pub returns-else-base-le-LIMIT : goal.returns-else-base-le-LIMIT
unfolding limit
returns-else-base-le-LIMIT c =
    let args = c.args in
    rows_none (args.base + args.bytes) args.numbers (omega arith)
