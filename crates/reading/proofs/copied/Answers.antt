-- The numbers that are copied are those of the front, and what stands past them stays.
use native.Mathlib.Omega.{arith}
use Prim.Native.Nat.{ℕ}
use mathlib.Core.Path.{◌≡◌, sym, ap, ◌∙◌}
use mathlib.Core.List.{List, ◌++◌}
use lib.ListN.{length, take, drop}
use lib.Seq.{length-take-le}
use Rattle.sim0mq.specs.Table.{stored}
use Rattle.reading.proofs.copied.Goals as goal

pub returns : goal.returns
unfolding stored
returns c =
    let n = c.args.n in
    let kept : List ℕ = c.args.kept.now in
    let table : List ℕ = c.args.table.now in
    let front : c.copy_from_slice.new.self ≡ take n kept = c.copy_from_slice.ensures.after in
    let long : length (take n kept) ≡ n = length-take-le n kept (omega arith) in
    ap (λ (l : List ℕ). l ++ drop n table) front ∙ ap (λ (k : ℕ). take n kept ++ drop k table) (sym long)
