-- programs_listing::rows meets its contract. The invariant: the buffer is what the rows of the first i fields leave.
-- Assumes nothing.
use Prim.Native.Nat.{ℕ, ◌+◌, ◌*◌, ◌-◌}
use native.Mathlib.Omega.{arith}
use native.Mathlib.Numerals.{add-one}
use mathlib.Core.Path.{◌≡◌, sym, ◌∙◌, ap}
use mathlib.Core.List.{List}
use lib.ListN.{take, drop}
use borrow.Author.Rules.{rules}
use Rattle.sim0mq.specs.Table.{row_size}
use Rattle.programs_listing.specs.Put.{Buffer, put_all}
use Rattle.programs_listing.specs.Text.{row_text, rows_text}
use Rattle.programs_listing.proofs.PutCases.{put_append}
use Rattle.programs_listing.proofs.rows.Goals as goal

-- a turn puts the row of one field more
turn : (start before after : Buffer) (table numbers : List ℕ) (i : ℕ) → before ≡ put_all start (rows_text table i) → after ≡ put_all before (row_text i numbers)
    → numbers ≡ take row_size (drop (row_size * i) table) → after ≡ put_all start (rows_text table (i + 1))
unfolding rows_text
turn start before after table numbers i e f g =
    rw (add-one i)
    (f ∙ (rw (e, g) (sym (put_append start (rows_text table i) (row_text i (take row_size (drop (row_size * i) table)))))))

-- the numbers of field i
numbers_of : (table : List ℕ) (i : ℕ) → take (row_size * i + row_size - row_size * i) (drop (row_size * i) table) ≡ take row_size (drop (row_size * i) table)
unfolding row_size
numbers_of table i =
    let e : row_size * i + row_size - row_size * i ≡ row_size = omega arith in
    rw e

pub loop-i-init : goal.loop-i-init
unfolding put_all rows_text row_size
loop-i-init c = search rules

pub loop-i-preserved : goal.loop-i-preserved
unfolding row_size
loop-i-preserved c = turn _ _ _ c.args.table.now _ c.loop-i.i c.loop-i.invariant c.row-at.ensures (numbers_of _ c.loop-i.i)

pub returns : goal.returns
returns c =
    let e : c.loop-i.i ≡ c.args.fields = omega arith in
    c.loop-i.invariant ∙ ap (put_all _) (ap (rows_text _) e)
