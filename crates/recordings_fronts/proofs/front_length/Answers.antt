-- Bytes within the limit are read whole, and longer ones are cut there.
use Prim.Native.Nat.{ℕ, ◌≤◌}
use mathlib.Core.Path.{◌≡◌, refl, ap, sym, ◌∙◌}
use mathlib.Core.List.{List}
use native.Mathlib.Omega.{arith}
use lib.ListN.{length, take}
use lib.Seq.{take_all, length-take-le}
use Rattle.sim0mq.specs.Message.{limit, no_table, message, reading}
use Rattle.dividing.specs.Front.{front_of, front_length}
use Rattle.recordings_fronts.proofs.front_length.Goals as goal

whole : (s : List ℕ) → length s ≤ limit → front_of (reading no_table s) ≡ front_length limit s
unfolding front_length reading
whole s h = ap (λ (l : List ℕ). front_of (message limit no_table l)) (sym (take_all limit s h))

cut : (s : List ℕ) → front_of (reading no_table (take limit s)) ≡ front_length limit s
unfolding front_length reading
cut s = refl

pub slice_bounds-front-end : goal.slice_bounds-front-end
slice_bounds-front-end c = sym (length-take-le _ c.args.rest.now (omega arith))

pub returns-then-rest-gt-LIMIT : goal.returns-then-rest-gt-LIMIT
unfolding limit
returns-then-rest-gt-LIMIT c = c.front.ensures ∙ cut c.args.rest.now

pub returns : goal.returns
unfolding limit
returns c = c.front-2.ensures ∙ whole c.args.rest.now (omega arith)
