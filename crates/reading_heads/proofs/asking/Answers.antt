-- The marks are counted by the code's row, as the definition counts them.
use mathlib.Core.Path.{ap, ◌∙◌}
use Prim.Native.Nat.{ℕ}
use Rattle.sim0mq.specs.Answer.{fine}
use Rattle.sim0mq.specs.Field.{Head, mark_count}
use Rattle.reading_heads.proofs.asking.Goals as goal

abbrev heads : ℕ → ℕ → ℕ → ℕ → Head
heads c v m p = record { code = c; values = v; marked = m; next = p }

pub returns : goal.returns
returns c =
    let marks = c.mark_count.ensures ∙ ap (λ (m : ℕ). mark_count m c.args.columns) c.marking.ensures in
    ap (λ (m : ℕ). fine (heads c.args.code c.args.values m c.args.next)) marks
