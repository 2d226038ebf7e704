-- The type frame, the status, and the fields.
use mathlib.Core.Path.{◌∙◌}
use native.Mathlib.Omega.{arith}
use Rattle.commands.proofs.NameLaws.{in_page}
use Rattle.commands.proofs.TableLaws.{number_named, number_none}
use Rattle.commands.proofs.NumberLaws.{type_other, type-unknown, status-other, status-right}
use Rattle.commands.proofs.Rows.judge.Goals as goal

pub returns-then-l-ne9 : goal.returns-then-l-ne9
returns-then-l-ne9 c = λ fs h. rw c.refuse.ensures (type_other _ _ _ _ _ fs c.if-l-ne9.true)

pub returns-in_default : goal.returns-in_default
returns-in_default c =
    λ fs h.
    rw c.refuse-in_default.ensures
    (type-unknown _ _ _ _ _ fs c.if-l-ne9.false _ _ c.saturating_sub.ensures
    (number_none _ _ _ _ c.named.ensures c.in_default.is) (omega arith))

pub returns-then-byte_at-status : goal.returns-then-byte_at-status
returns-then-byte_at-status c =
    λ fs h.
    rw c.refuse-then-byte_at-status.ensures
    (status-other _ _ _ _ _ fs c.if-l-ne9.false _ _ c.saturating_sub.ensures
    (number_named _ _ _ _ c.named.ensures _ c.in-Some.is) (in_page _) _ _ c.byte_at.ensures c.status.ensures
    c.if-byte_at-status.true)

pub returns : goal.returns
returns c =
    λ fs h.
    c.fields.ensures fs h
    ∙ status-right _ _ _ _ _ fs c.if-l-ne9.false _ _ c.saturating_sub.ensures
    (number_named _ _ _ _ c.named.ensures _ c.in-Some.is) (in_page _) _ _ c.byte_at.ensures c.status.ensures
    c.if-byte_at-status.false
