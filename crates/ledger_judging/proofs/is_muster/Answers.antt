-- ledger_judging::is_muster: the code, and the bytes as a slice.
use Prim.Native.Nat.{ℕ}
use mathlib.Core.Path.{ap, ◌∙◌}
use native.Mathlib.Omega.{arith}
use lib.ListN.{take, drop}
use Rattle.std.specs.Str.{bytes_eq}
use Rattle.ledger_decks.specs.Mustering.{muster_type}
use Rattle.ledger_decks.proofs.OrderCases.{muster_bytes, other_code}
use Rattle.ledger_judging.proofs.is_muster.Goals as goal

pub returns-then-f-eq9 : goal.returns-then-f-eq9
returns-then-f-eq9 c =
    let a = c.args in
    c.eq.ensures
    ∙ ap (λ (n : ℕ). bytes_eq (take n (drop a.f.first a.s.now)) muster_type) (omega arith)
    ∙ muster_bytes _ _ c.requires c.if-f-eq9.true

pub returns-else-f-eq9 : goal.returns-else-f-eq9
returns-else-f-eq9 c = other_code _ _ c.if-f-eq9.false
