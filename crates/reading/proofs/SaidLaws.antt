-- What an answer of reading says is what the definitions say: an accepted message was found, and a refusal is theirs.
use Prim.Native.Nat.{ℕ}
use mathlib.Core.Path.{◌≡◌, refl, sym, ap, ◌∙◌}
use Rattle.std.specs.Prelude.{Ok, Err}
use Rattle.sim0mq.specs.Answer as S
use Rattle.sim0mq.specs.Answer.{fine, refused}
use Rattle.sim0mq.specs.Message as M
use Rattle.sim0mq.specs.declared.Refusal.{Refusal}
use Rattle.sim0mq.specs.Views.{number_of, said_as}
use Rattle.sim0mq.proofs.Answers.{not_fine, fine_eq}
use Rattle.reading.specs.Answers.{found_in, Answered, answer_as, answered}
use Rattle.reading.specs.declared.Answer.{Answer}
use Rattle.reading.specs.declared.Found.{Found}

pub said_fine : (x : S.Answer M.Reading) (f : Found) → (answered x).said ≡ fine f
    → (m : M.Reading) × (x ≡ fine m) × (found_in m ≡ f)
said_fine (fine m) f e = (m, refl, fine_eq e)
said_fine (refused k p) f e = absurd (not_fine e)

pub said_refused : (x : S.Answer M.Reading) (k p : ℕ) → (answered x).said ≡ refused k p → x ≡ refused k p
said_refused (fine m) k p e = absurd (not_fine (sym e))
said_refused (refused j q) k p e = cc

-- a is what reading answers
module _ (x : S.Answer M.Reading) (a : Answer) (told : answer_as a ≡ answered x) where
  said : (answered x).said ≡ said_as (λ (f : Found). f) a.said
  said = sym (ap (λ (y : Answered). y.said) told)

  pub found_at : (f : Found) → a.said ≡ Ok f → (m : M.Reading) × (x ≡ fine m) × (found_in m ≡ f)
  found_at f e = said_fine x f (said ∙ ap (said_as (λ (g : Found). g)) e)

  pub fault_at : (r : Refusal) → a.said ≡ Err r → x ≡ refused (number_of r.reason) r.place
  fault_at r e = said_refused x _ _ (said ∙ ap (said_as (λ (g : Found). g)) e)
