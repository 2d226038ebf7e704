-- Each return is a case of the definition.
use native.Mathlib.Omega.{arith}
use mathlib.Core.Path.{◌∙◌}
use Rattle.sim0mq.proofs.Rows.{number_not_boolean}
use Rattle.reading_header.proofs.FrameCases.{nth_id, nth_number, nth_status}
use Rattle.reading_header.proofs.nth.Goals as goal

pub returns-then-k-le4 : goal.returns-then-k-le4
returns-then-k-le4 c = c.id.ensures ∙ nth_id _ _ _ c.if-k-le4.true

pub typed-requires : goal.typed-requires
typed-requires c = number_not_boolean

pub returns-then-k-eq5 : goal.returns-then-k-eq5
returns-then-k-eq5 c = c.typed.ensures ∙ nth_number _ _ _ (λ h. omega arith) c.if-k-eq5.true

pub returns : goal.returns
returns c = c.status.ensures ∙ nth_status _ _ _ (omega arith) c.if-k-eq5.false
