-- A text placed after another is the two placed as one, since what the first wrote stands before the second, and the
-- rest of the buffer after it.
use Prim.Native.Nat.{ℕ, ◌+◌, ◌≤◌}
use mathlib.Core.Path.{◌≡◌, ap, sym, ◌∙◌}
use mathlib.Core.List.{List, [], ◌++◌, append_assoc}
use native.Mathlib.Omega.{arith}
use lib.ListN.{length, take, drop, length-append, length-drop, take-append-drop}
use lib.Seq.{length-take-le, take_at, drop_at, drop-drop}
use Rattle.sim0mq.specs.Table.{placed}

module _ (out : List ℕ) (at : ℕ) where
  -- no text changes nothing
  pub placed_nothing : out ≡ placed out at []
  unfolding placed
  placed_nothing =
      let e : at + 0 ≡ at = omega arith in
      sym (ap (λ (k : ℕ). take at out ++ drop k out) e ∙ take-append-drop at out)

  -- the buffer's length stays
  pub placed_length : (a : List ℕ) → at + length a ≤ length out → length (placed out at a) ≡ length out
  unfolding placed
  placed_length a h =
      length-append (take at out) (a ++ drop (at + length a) out)
      ∙ ap (λ (k : ℕ). length (take at out) + k) (length-append a (drop (at + length a) out))
      ∙ omega (arith, length-take-le at out (omega arith), length-drop (at + length a) out)

  -- the part before and with the text, and the part after it
  placed_front : (a : List ℕ) → at + length a ≤ length out → take (at + length a) (placed out at a) ≡ take at out ++ a
  unfolding placed
  placed_front a h =
      ap (take (at + length a)) (sym (append_assoc (take at out) a (drop (at + length a) out)))
      ∙ take_at (take at out ++ a) (drop (at + length a) out) (at + length a)
      (length-append (take at out) a ∙ omega (arith, length-take-le at out (omega arith)))

  placed_back : (a : List ℕ) → at + length a ≤ length out → drop (at + length a) (placed out at a) ≡ drop (at + length a) out
  unfolding placed
  placed_back a h =
      ap (drop (at + length a)) (sym (append_assoc (take at out) a (drop (at + length a) out)))
      ∙ drop_at (take at out ++ a) (drop (at + length a) out) (at + length a)
      (length-append (take at out) a ∙ omega (arith, length-take-le at out (omega arith)))

  -- one text after the other
  pub placed_on : (a b : List ℕ) (p : ℕ) → p ≡ at + length a → p + length b ≤ length out → placed (placed out at a) p b ≡ placed out at (a ++ b)
  unfolding placed
  placed_on a b p e h =
      let whole = take at out ++ (a ++ drop (at + length a) out) in
      let front : take p whole ≡ take at out ++ a = ap (λ (k : ℕ). take k whole) e ∙ placed_front a (omega arith) in
      let end : at + length a + length b ≡ at + length (a ++ b) = omega (arith, length-append a b) in
      let back : drop (p + length b) whole ≡ drop (at + length (a ++ b)) out
      = sym (drop-drop (length b) p whole)
      ∙ ap (λ (k : ℕ). drop (length b) (drop k whole)) e
      ∙ ap (drop (length b)) (placed_back a (omega arith))
      ∙ drop-drop (length b) (at + length a) out
      ∙ ap (λ (k : ℕ). drop k out) end in
      rw (front, back)
      (append_assoc (take at out) a (b ++ drop (at + length (a ++ b)) out)
      ∙ ap (λ (l : List ℕ). take at out ++ l) (sym (append_assoc a b (drop (at + length (a ++ b)) out))))
