-- The codes of each span have the same marking, and past the last code there is none.
use Prim.Native.Nat.{ℕ}
use mathlib.Core.Path.{refl}
use native.Mathlib.Omega.{arith}
use Rattle.sim0mq.specs.Codes.{mark_row, marking_of}
use Rattle.sim0mq.proofs.Rows.{all_below}
use Rattle.sim0mq_tables.proofs.TableCases.{agreeing, agrees, past}
use Rattle.sim0mq_tables.proofs.marking.Goals as goal

pub returns-then-code-gt32 : goal.returns-then-code-gt32
unfolding marking_of
returns-then-code-gt32 c = past mark_row c.args.code (omega arith)

pub returns-then-code-gt30 : goal.returns-then-code-gt30
unfolding all_below agreeing marking_of
returns-then-code-gt30 c = agrees (λ (k : ℕ). 2) marking_of 31 33 refl c.args.code (omega arith) (omega arith)

pub returns-then-code-gt24 : goal.returns-then-code-gt24
unfolding all_below agreeing marking_of
returns-then-code-gt24 c = agrees (λ (k : ℕ). 1) marking_of 25 31 refl c.args.code (omega arith) (omega arith)

pub returns : goal.returns
unfolding all_below agreeing marking_of
returns c = agrees (λ (k : ℕ). 0) marking_of 0 25 refl c.args.code (omega arith) (omega arith)
