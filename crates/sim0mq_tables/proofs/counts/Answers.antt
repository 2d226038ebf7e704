-- The codes of each span have the same number of counts, and past the last code there is none.
use Prim.Native.Nat.{ℕ}
use mathlib.Core.Path.{refl}
use native.Mathlib.Omega.{arith}
use Rattle.sim0mq.specs.Codes.{count_row, counts_of}
use Rattle.sim0mq.proofs.Rows.{all_below}
use Rattle.sim0mq_tables.proofs.TableCases.{agreeing, agrees, past}
use Rattle.sim0mq_tables.proofs.counts.Goals as goal

pub returns-then-code-le8 : goal.returns-then-code-le8
unfolding all_below agreeing counts_of
returns-then-code-le8 c = agrees (λ (k : ℕ). 0) counts_of 0 9 refl c.args.code (omega arith) (omega arith)

pub returns-then-code-le17 : goal.returns-then-code-le17
unfolding all_below agreeing counts_of
returns-then-code-le17 c = agrees (λ (k : ℕ). 1) counts_of 9 18 refl c.args.code (omega arith) (omega arith)

pub returns-then-code-le24 : goal.returns-then-code-le24
unfolding all_below agreeing counts_of
returns-then-code-le24 c = agrees (λ (k : ℕ). 2) counts_of 18 25 refl c.args.code (omega arith) (omega arith)

pub returns-then-code-le26 : goal.returns-then-code-le26
unfolding all_below agreeing counts_of
returns-then-code-le26 c = agrees (λ (k : ℕ). 0) counts_of 25 27 refl c.args.code (omega arith) (omega arith)

pub returns-then-code-le28 : goal.returns-then-code-le28
unfolding all_below agreeing counts_of
returns-then-code-le28 c = agrees (λ (k : ℕ). 1) counts_of 27 29 refl c.args.code (omega arith) (omega arith)

pub returns-then-code-le32 : goal.returns-then-code-le32
unfolding all_below agreeing counts_of
returns-then-code-le32 c = agrees (λ (k : ℕ). 2) counts_of 29 33 refl c.args.code (omega arith) (omega arith)

pub returns : goal.returns
unfolding counts_of
returns c = past count_row c.args.code (omega arith)
