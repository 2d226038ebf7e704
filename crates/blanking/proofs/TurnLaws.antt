-- Zeros placed over a part of a text are as good as zeros placed instead of it; so a field's values need not be copied
-- to be blanked.
use Prim.Native.Nat.{ℕ, ◌+◌, ◌-◌, ◌≤◌}
use mathlib.Core.Path.{◌≡◌, ap, ap₂, sym, ◌∙◌}
use mathlib.Core.List.{List, ◌++◌, append_assoc}
use native.Mathlib.Omega.{arith}
use native.Mathlib.Nat.{zero-add}
use lib.ListN.{length, take, drop, replicate, length-append, length-drop, length-replicate, take-append-drop, drop_of_length-le}
use lib.Seq.{length-take-le, take_at, drop_at, drop-drop}
use Rattle.sim0mq.specs.Table.{stored, placed}
use Rattle.sim0mq.specs.Blank.{zeroed}
use Rattle.sim0mq.proofs.PlaceLaws.{placed_nothing, placed_length, placed_on}
use Rattle.sim0mq_buffers.specs.Placing.{put_in, cleared_in}
use Rattle.sim0mq_buffers.proofs.PlaceLaws.{put_fits, clear_fits}

module _ (out : List ℕ) (at : ℕ) where
  -- a text over the front of another, as long as that front
  placed_over : (a b rest : List ℕ) → length a ≡ length b → at ≤ length out
      → placed (placed out at (a ++ rest)) at b ≡ placed out at (b ++ rest)
  unfolding placed
  placed_over a b rest e h =
      let tail = drop (at + length (a ++ rest)) out in
      let whole = take at out ++ (a ++ rest ++ tail) in
      let before : length (take at out) ≡ at = length-take-le at out h in
      let front : take at whole ≡ take at out = take_at (take at out) (a ++ rest ++ tail) at before in
      let long : length (take at out ++ a) ≡ at + length b = length-append (take at out) a ∙ omega arith in
      let split : whole ≡ take at out ++ a ++ (rest ++ tail)
      = ap (λ (l : List ℕ). take at out ++ l) (append_assoc a rest tail) ∙ sym (append_assoc (take at out) a (rest ++ tail)) in
      let back : drop (at + length b) whole ≡ rest ++ tail
      = ap (drop (at + length b)) split ∙ drop_at (take at out ++ a) (rest ++ tail) (at + length b) long in
      let same : at + length (a ++ rest) ≡ at + length (b ++ rest) = omega (arith, length-append a rest, length-append b rest) in
      rw (front, back)
      (ap (λ (l : List ℕ). take at out ++ l)
      (sym (append_assoc b rest tail) ∙ ap (λ (k : ℕ). b ++ rest ++ drop k out) same))

  -- zeros are a text
  zeroed_placed : (n : ℕ) → zeroed out at n ≡ placed out at (replicate n 0)
  unfolding zeroed placed
  zeroed_placed n = ap (λ (k : ℕ). take at out ++ (replicate n 0 ++ drop (at + k) out)) (sym (length-replicate {A = ℕ} n 0))

-- no byte is left to be placed
pub placed_past : (out s : List ℕ) (p at : ℕ) → length s ≤ at → placed out p (drop at s) ≡ out
placed_past out s p at h = ap (placed out p) (drop_of_length-le s {i = at} h) ∙ sym (placed_nothing out p)

-- the front of a message, which is put, and then its rest
pub placed_whole : (out s : List ℕ) (next : ℕ) → next ≤ length s → length s ≤ length out
    → placed (put_in out 0 (take next s)) next (drop next s) ≡ stored out s
unfolding stored placed
placed_whole out s next h room =
    let front : next ≡ 0 + length (take next s) = omega (arith, length-take-le next s h) in
    ap (λ (o : List ℕ). placed o next (drop next s)) (put_fits out 0 (take next s) (omega arith))
    ∙ placed_on out 0 (take next s) (drop next s) next front (omega (arith, length-drop next s))
    ∙ ap (placed out 0) (take-append-drop next s)
    ∙ ap (λ (k : ℕ). s ++ drop k out) (zero-add (length s))

-- one field: what stands before its values is put, and zeros after it, and then the rest
pub placed_turn : (out s : List ℕ) (at first size : ℕ) (copied next : List ℕ)
    → at ≤ first → first + size ≤ length s → length s ≤ length out
    → copied ≡ put_in out at (take (first - at) (drop at s)) → next ≡ cleared_in copied first size
    → zeroed (placed out at (drop at s)) first size ≡ placed next (first + size) (drop (first + size) s)
placed_turn out s at first size copied next h k room p q =
    let head = take (first - at) (drop at s) in
    let values = take size (drop first s) in
    let rest = drop (first + size) s in
    let zeros : List ℕ = replicate size 0 in
    let zeros_long : length zeros ≡ size = length-replicate {A = ℕ} size 0 in
    let values_long : length values ≡ size = length-take-le size (drop first s) (omega (arith, length-drop first s)) in
    let rest-long : length rest ≡ length s - (first + size) = length-drop (first + size) s in
    let head-long : length head ≡ first - at = length-take-le (first - at) (drop at s) (omega (arith, length-drop at s)) in
    let c : copied ≡ placed out at head = p ∙ put_fits out at head (omega arith) in
    let long : length copied ≡ length out = ap length c ∙ placed_length out at head (omega arith) in
    let z : next ≡ zeroed copied first size = q ∙ clear_fits copied first size (omega arith) in
    let place : at + (first - at) ≡ first = omega arith in
    let split : drop at s ≡ head ++ drop first s
    = sym (take-append-drop (first - at) (drop at s)) ∙ ap (λ (l : List ℕ). head ++ l) (drop-drop (first - at) at s ∙ ap (λ (i : ℕ). drop i s) place) in
    let parts : drop first s ≡ values ++ rest
    = sym (take-append-drop size (drop first s)) ∙ ap (λ (l : List ℕ). values ++ l) (drop-drop size first s) in
    let whole : placed out at (drop at s) ≡ placed copied first (values ++ rest)
    = ap (placed out at) split
    ∙ sym (placed_on out at head (drop first s) first (omega arith) (omega (arith, length-drop first s)))
    ∙ ap₂ (λ (o l : List ℕ). placed o first l) (sym c) parts in
    ap (λ (o : List ℕ). zeroed o first size) whole
    ∙ zeroed_placed (placed copied first (values ++ rest)) first size
    ∙ placed_over copied first values zeros rest (values_long ∙ sym zeros_long) (omega arith)
    ∙ sym (placed_on copied first zeros rest (first + size) (omega arith) (omega arith))
    ∙ ap (λ (o : List ℕ). placed o (first + size) rest) (sym (z ∙ zeroed_placed copied first size))
