-- What two scalars come to is the same of equal scalars, so each may be told by its numbers.
use mathlib.Core.Path.{◌≡◌, ap, ◌∙◌}
use Rattle.sim0mq.specs.Answer.{Answer}
use Rattle.sim0mq_kinds.specs.declared.Scalar.{Scalar}

pub same_answer : (f : Scalar → Scalar → Answer Scalar) (a a₁ b b₁ : Scalar) → a ≡ a₁ → b ≡ b₁ → f a b ≡ f a₁ b₁
same_answer f a a₁ b b₁ e h = ap (λ (x : Scalar). f x b) e ∙ ap (f a₁) h
