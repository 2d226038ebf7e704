-- The codes of each width are those whose bit is set, since a test computed over all codes passes; what is left has two
-- bytes.
use mathlib.Core.Path.{refl, sym, ◌∙◌}
use native.Mathlib.Omega.{arith}
use Rattle.sim0mq.specs.Codes.{width_row, width_of}
use Rattle.sim0mq_tables.specs.Bits.{bit}
use Rattle.sim0mq.proofs.Rows.{all_below}
use Rattle.sim0mq_tables.proofs.TableCases.{agreeing, width_told, width_left, past}
use Rattle.sim0mq_tables.proofs.width.Goals as goal

pub returns-then-code-gt32 : goal.returns-then-code-gt32
unfolding width_of
returns-then-code-gt32 c = past width_row c.args.code c.if-code-gt32.true

pub returns-then-among : goal.returns-then-among
unfolding all_below agreeing bit width_of
returns-then-among c = width_told _ 1 refl c.args.code (omega arith) (sym c.among.ensures ∙ c.if-among.true)

pub returns-then-among-2 : goal.returns-then-among-2
unfolding all_below agreeing bit width_of
returns-then-among-2 c = width_told _ 8 refl c.args.code (omega arith) (sym c.among-2.ensures ∙ c.if-among-2.true)

pub returns-then-among-3 : goal.returns-then-among-3
unfolding all_below agreeing bit width_of
returns-then-among-3 c = width_told _ 4 refl c.args.code (omega arith) (sym c.among-3.ensures ∙ c.if-among-3.true)

pub returns : goal.returns
unfolding all_below agreeing bit width_of
returns c =
    width_left _ _ _ 2 refl c.args.code (omega arith) (sym c.among.ensures ∙ c.if-among.false) (sym c.among-2.ensures ∙ c.if-among-2.false) (sym c.among-3.ensures ∙ c.if-among-3.false)
