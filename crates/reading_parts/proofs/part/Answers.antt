-- A part is what stands from its front on.
use native.Mathlib.Omega.{arith}
use Prim.Native.Nat.{ℕ, ◌+◌, ◌-◌}
use mathlib.Core.Path.{◌≡◌, ◌∙◌, subst}
use lib.ListN.{length}
use Rattle.sim0mq_numbers.specs.Numbers.{Below}
use Rattle.reading_parts.specs.Parts.{part_steps}
use Rattle.reading_parts.specs.Kept.{kept_rest, kept_part}
use Rattle.reading_parts.proofs.PartCases.{rest_start}
use Rattle.reading_parts.proofs.part.Goals as goal

pub returns : goal.returns
unfolding part_steps kept_rest kept_part
returns c =
    let said = c.part_from.ensures in
    let asked = c.args in
    let all : length asked.s.now - 0 + 1 ≡ length asked.s.now + 1 = omega arith in
    record { answer = (said.answer.0 ∙ rest_start _ 0 _ (omega arith), subst (λ (n : ℕ). Below n c.part_from.result) all said.answer.1); kept = said.kept }
