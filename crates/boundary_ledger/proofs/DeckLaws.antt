-- The 16 heads, one by one, are the numbers of them all.
use Prim.Native.Nat.{ℕ, zero, suc, ◌+◌, ◌≤◌}
use native.Mathlib.Omega.{arith}
use mathlib.Core.Path.{◌≡◌, refl, sym, ap, ◌∙◌}
use mathlib.Core.List.{List, [], ◌∷◌}
use lib.ListN.{length, get_or, take, drop}
use lib.Seq.{drop-cons, take_all}
use Rattle.std.specs.Prelude.{Result, Ok}
use Rattle.sim0mq.specs.Views.{judged}
use Rattle.sim0mq.specs.declared.Refusal.{Refusal}
use Rattle.ledger_decks.specs.Decks.{deck_count}
use Rattle.boundary_ledger.specs.Calls.{said_numbers}

-- The n numbers from number i on.
abbrev each_from : List ℕ → ℕ → ℕ → List ℕ
each_from d zero i = []
each_from d (suc n) i = get_or d i 0 ∷ each_from d n (suc i)

each_taken : (d : List ℕ) (n i : ℕ) → i + n ≤ length d → each_from d n i ≡ take n (drop i d)
each_taken d zero i h = refl
each_taken d (suc n) i h =
    ap (λ (l : List ℕ). get_or d i 0 ∷ l) (each_taken d n (suc i) (omega arith))
    ∙ sym (ap (take (suc n)) (drop-cons d i 0 (omega arith)))

pub reckoned_accepted : (said : Result ℕ Refusal) (n : ℕ) (heads : List ℕ) (k : ℕ) → length heads ≡ deck_count → said ≡ Ok k
    → 0 ∷ 0 ∷ k ∷ n ∷ each_from heads 16 0 ≡ said_numbers (judged said) n heads
reckoned_accepted said n heads k h e =
    ap (λ (l : List ℕ). 0 ∷ 0 ∷ k ∷ n ∷ l) (each_taken heads 16 0 (omega arith) ∙ take_all 16 heads (omega arith))
    ∙ sym (ap (λ (s : Result ℕ Refusal). said_numbers (judged s) n heads) e)
