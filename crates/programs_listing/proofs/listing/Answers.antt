-- programs_listing::listing meets its contract: the rows are put after the first line, and nothing is put where the
-- table is too short for them. Assumes nothing.
use Prim.Native.Nat.{ℕ, ◌*◌, ◌/◌, ◌<◌, ◌≤◌}
use native.Mathlib.Omega.{arith}
use mathlib.Core.Path.{◌≡◌, refl, sym, ◌∙◌, ap}
use mathlib.Core.List.{List, [], ◌++◌, flat_map}
use lib.Dec.{leb-zero}
use lib.ListN.{length}
use borrow.Author.Rules.{rules}
use borrow.Author.Tests.{le-leb, lt-leb}
use Rattle.sim0mq.specs.Table.{row_size}
use Rattle.sim0mq.specs.Message.{enough}
use Rattle.sim0mq.specs.declared.Refusal.{Refusal}
use Rattle.reading.specs.declared.Found.{Found}
use Rattle.std.specs.Prelude.{Result, Ok, Err}
use Rattle.programs_listing.specs.Put.{Buffer, put_all, out_after, bytes_before, bytes_written}
use Rattle.programs_listing.specs.Text.{accepted_text, rows_text, line_text, whole_text}
use Rattle.programs_listing.proofs.PutCases.{put_append, put_told}
use Rattle.programs_listing.proofs.listing.Goals as goal

-- a table too short for the rows, and one that is long enough
short : (said : Result Found Refusal) (f : Found) (table : List ℕ) → said ≡ Ok f → length table / row_size < f.fields → whole_text said table ≡ []
unfolding enough row_size
short said f table e h = rw (e, lt-leb (row_size * f.fields) (length table) (omega arith))

long : (said : Result Found Refusal) (f : Found) (table : List ℕ) → said ≡ Ok f → f.fields ≤ length table / row_size
    → whole_text said table ≡ accepted_text f ++ rows_text table f.fields
unfolding enough row_size
long said f table e h = rw (e, le-leb (row_size * f.fields) (length table) (omega arith))

-- no text leaves the buffer as it was, and has no bytes
nothing : (out : List ℕ) (text : List (List ℕ)) → text ≡ [] → (0 ≡ bytes_written out text) × (out ≡ out_after out text)
unfolding bytes_before bytes_written out_after put_all flat_map
nothing out text e = rw e (rw (leb-zero (length out)) refl, refl)

-- the text of a refusal is its first line
one_line : (said : Result Found Refusal) (r : Refusal) (table : List ℕ) → said ≡ Err r → line_text said ≡ whole_text said table
one_line said r table e = rw e refl

-- the first line, and after it the rows
both : (start mid end : Buffer) (f : Found) (table : List ℕ) → mid ≡ put_all start (accepted_text f) → end ≡ put_all mid (rows_text table f.fields)
    → end ≡ put_all start (accepted_text f ++ rows_text table f.fields)
both start mid end f table e g = g ∙ (rw e (sym (put_append start (accepted_text f) (rows_text table f.fields))))

pub returns-then-table-found : goal.returns-then-table-found
unfolding row_size
returns-then-table-found c =
    let none = nothing _ _ (short _ c.in-Ok.found c.args.table.now c.in-Ok.is c.if-table-found.true) in
    record { counts = search rules; answer = none.0; text = none.1 }

pub returns-else-table-found : goal.returns-else-table-found
unfolding row_size
returns-else-table-found c =
    let f = c.in-Ok.found in
    let e = long _ f c.args.table.now c.in-Ok.is c.if-table-found.false in
    let g = both _ _ _ f c.args.table.now c.accepted-at.ensures c.rows-end.ensures in
    let told = put_told _ _ _ _ _ _ e g c.whole.ensures.value in
    record { counts = c.whole.ensures.prefix_len; answer = told.0; text = told.1 }

pub returns-in-Err : goal.returns-in-Err
returns-in-Err c =
    let e = one_line _ _ c.args.table.now c.in-Err.is in
    let told = c.first_line.ensures in
    record {
      counts = told.counts;
      answer = told.answer ∙ ap (bytes_written c.args.out.now) e;
      text = told.text ∙ ap (out_after c.args.out.now) e;
    }
