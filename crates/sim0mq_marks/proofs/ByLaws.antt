-- By the format's row of last display codes, a mark is the format's mark.
use Prim.Native.Nat.{ℕ}
use mathlib.Core.Path.{◌≡◌, refl, ap, ◌∙◌}
use mathlib.Core.List.{List}
use Rattle.sim0mq.specs.Answer.{Answer, ◌>>◌, need, byte}
use Rattle.sim0mq.specs.Mark.{last_row, Kind, plain, money, money_per, unknown, kind_of, display_taken, display, mark_rest, mark}
use Rattle.sim0mq_marks.specs.By.{display_by, mark_rest_by, mark_by}

rest_by_last : (s : List ℕ) (at : ℕ) (k : Kind) → mark_rest_by last_row s at k ≡ mark_rest s at k
unfolding mark_rest_by mark_rest display_by display display_taken
rest_by_last s at (plain t) = refl
rest_by_last s at money = refl
rest_by_last s at (money_per t) = refl
rest_by_last s at unknown = refl

pub mark_by_last : (row s : List ℕ) (at : ℕ) → row ≡ last_row → mark_by row s at ≡ mark s at
unfolding mark_by mark
mark_by_last row s at e =
    ap (λ (r : List ℕ). mark_by r s at) e ∙ ap (λ (a : Answer ℕ). need s at 1 >> a) (rest_by_last s at (kind_of (byte s at)))
