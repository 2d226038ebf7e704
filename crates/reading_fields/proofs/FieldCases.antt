-- How the judge of a field's outline answers, case by case, in the words of the code's tests.
use Prim.Native.Nat.{ℕ, ◌+◌, ◌*◌}
use mathlib.Core.Path.{◌≡◌, sym}
use mathlib.Core.List.{List}
use lib.ListN.{length}
use borrow.Author.Tests.{le-leb}
use Rattle.sim0mq.specs.Answer.{Answer, fine, refused, ◌>>=◌, need}
use Rattle.sim0mq.specs.Codes.{width_of}
use Rattle.sim0mq.specs.Mark.{marks}
use Rattle.sim0mq.specs.Field.{Head, head, outline}
use Rattle.sim0mq.proofs.Answers.{not_fine}
use Rattle.reading_values.specs.Values.{size_of, size_at}
use Rattle.reading_values.proofs.ValueCases.{size_goes}

after_need : {A B : Type 0} (a : Answer (Unit {0})) (x : A) (y : B) {k p : ℕ} → (a >>= (λ there. fine x)) ≡ refused k p
    → (a >>= (λ there. fine y)) ≡ refused k p
after_need (fine u) x y e = absurd (not_fine (sym e))
after_need (refused k p) x y e = cc

module _ (s : List ℕ) (at : ℕ) where
  pub outline_head_stop : (k p : ℕ) → head s at ≡ refused k p → outline s at ≡ refused k p
  unfolding outline
  outline_head_stop k p a = simp a

  module _ (h : Head) (a : head s at ≡ fine h) where
    pub outline-marks-stop : (k p : ℕ) → marks s h.marked h.next ≡ refused k p → outline s at ≡ refused k p
    unfolding outline
    outline-marks-stop k p b = simp (a, b)

    module _ (first : ℕ) (b : marks s h.marked h.next ≡ fine first) where
      pub outline-size-stop : (k p : ℕ) → size_at s h.code h.values first ≡ refused k p → outline s at ≡ refused k p
      unfolding outline size_of
      outline-size-stop k p d = simp (a, b) (after_need (need s first (h.values * width_of h.code)) _ _ d)

      pub outline-fine : (z : ℕ) → size_at s h.code h.values first ≡ fine z
          → outline s at ≡ fine (record { code = h.code; place = at; first = first; size = z; marked = h.marked; values = h.values })
      unfolding outline
      outline-fine z d =
          let g = size_goes s h.code h.values first z d in
          let l = g.1 in
          simp (a, b, ← g.0, le-leb (first + z) (length s) l)
