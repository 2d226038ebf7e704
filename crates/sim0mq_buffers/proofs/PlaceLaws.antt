-- A text that has room is placed, and zeros are; where a text has no room nothing changes.
use Prim.Native.Nat.{ℕ, suc, ◌+◌, ◌<◌, ◌≤◌}
use mathlib.Core.Path.{◌≡◌, refl, ap, sym, ◌∙◌}
use mathlib.Core.List.{List, [], ◌∷◌, ◌++◌}
use native.Mathlib.Omega.{arith}
use lib.ListN.{length, get_or, take, drop, set, replicate}
use lib.Seq.{take_at, set_split}
use borrow.Author.Tests.{le-leb, lt-leb}
use Rattle.sim0mq.specs.Table.{placed}
use Rattle.sim0mq.specs.Blank.{zeroed}
use Rattle.sim0mq_buffers.specs.Placing.{put_in, cleared_in}

module _ (out : List ℕ) (at : ℕ) where
  -- one byte
  pub placed_byte : (x : ℕ) → at < length out → set out at x ≡ placed out at (x ∷ [])
  unfolding placed
  placed_byte x h =
      let e : suc at ≡ at + 1 = omega arith in
      set_split out at x h ∙ ap (λ (k : ℕ). take at out ++ (x ∷ drop k out)) e

  -- a text that is one byte
  pub placed_single : (text : List ℕ) → length text ≡ 1 → at < length out → set out at (get_or text 0 0) ≡ placed out at text
  placed_single [] e h = absurd (omega arith)
  placed_single (x ∷ []) e h = placed_byte x h
  placed_single (x ∷ (y ∷ l)) e h = absurd (omega arith)

  -- a text that has room is placed, and one that has not changes nothing
  pub put_fits : (text : List ℕ) → at + length text ≤ length out → put_in out at text ≡ placed out at text
  unfolding put_in
  put_fits text h = simp (le-leb (at + length text) (length out) h)

  pub put_over : (text : List ℕ) → length out < at + length text → out ≡ put_in out at text
  unfolding put_in
  put_over text h = simp (lt-leb (at + length text) (length out) h)

  -- one zero
  pub zeroed_byte : (n : ℕ) → n ≡ 1 → at < length out → set out at 0 ≡ zeroed out at n
  unfolding zeroed
  zeroed_byte n one h =
      let e : suc at ≡ at + 1 = omega arith in
      set_split out at 0 h ∙ ap (λ (k : ℕ). take at out ++ (0 ∷ drop k out)) e ∙ ap (λ (k : ℕ). take at out ++ (replicate k 0 ++ drop (at + k) out)) (sym one)

  -- n bytes that are there are cleared
  pub clear_fits : (n : ℕ) → at + n ≤ length out → cleared_in out at n ≡ zeroed out at n
  unfolding cleared_in
  clear_fits n h = simp (le-leb (at + n) (length out) h)

-- what is placed at the front stands there
pub front_stands : (out text : List ℕ) → take (length text) (placed out 0 text) ≡ text
unfolding placed
front_stands out text = take_at text (drop (0 + length text) out) (length text) refl
