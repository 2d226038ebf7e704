-- A signed number is read back from its bits, and a number that is flipped, -1 less it, stays within its width.
use Prim.Native.Nat.{ℕ, suc, ◌-◌, ◌<◌, ◌≤◌, ◌^◌}
use mathlib.Core.Path.{◌≡◌, refl, ◌∙◌}
use mathlib.Core.Bool.{Bool, true, false, cond}
use lib.Dec.{T, ltb}
use lib.IntN.{ℤ, pos, negsuc, ◌-ℤ◌, nat_abs}
use lib.Signed.{mag, non_neg, le_z}
use native.Mathlib.Omega.{arith}
use Rattle.std.proofs.lemmas.Int.{ints}
use borrow.Author.Tests.{leb-false}
use mir.Syntax.{Width, w8, w16, w32, w64, w128}
use mir.Val.{SFits, Fits, to_z, of_z, hbits, bits}
use mir.ValLaws.{to_z-of_z}
use mir.Facts.{Fits-nat_abs}
use Rattle.sim0mq_signed.specs.Signed.{twos, bits_of}

-- the bits of a signed number are those it was read from
pub bits_back : (w n : ℕ) → n < 2 ^ w → bits_of w (twos w n) ≡ n
unfolding bits_of twos
bits_back w n h = either (ltb n (2 ^ (w - 1)))
  where
    either : (b : Bool) → bits_of w (cond b (pos n) (negsuc (2 ^ w - suc n))) ≡ n
    either true = refl
    either false = omega arith

-- -1 - y of a y that a signed number of the width holds.
module _ (w : Width) (y : ℕ) (h : y < 2 ^ hbits w) where
  flip : negsuc 0 -ℤ to_z w y ≡ negsuc y
  flip = omega (arith, ints)

  pub flip_fits : SFits w (negsuc 0 -ℤ to_z w y)
  flip_fits = rw flip (record { sfits = h })

  pub flip_back : to_z w (of_z w (negsuc 0 -ℤ to_z w y)) ≡ negsuc y
  flip_back = to_z-of_z w _ flip_fits ∙ flip

unflip : (z : ℤ) → le_z (pos 0) z ≡ false → negsuc 0 -ℤ z ≡ pos (mag z)
unflip (pos n) e = let h : n < 0 = leb-false 0 n e in absurd (omega arith)
unflip (negsuc n) e = omega (arith, ints)

wide : (w : Width) → T (ltb (hbits w) (bits w))
wide w8 = tt
wide w16 = tt
wide w32 = tt
wide w64 = tt
wide w128 = tt

-- A signed number that is tested against 0: it is its own magnitude, or -1 less it is.
module _ (w : Width) where
  up_is : (z : ℤ) → le_z (pos 0) z ≡ true → SFits w z → T (non_neg z) × Fits w (nat_abs z)
  up_is (pos n) e f = (tt, Fits-nat_abs {w = w} {w' = w} {z = pos n} (wide w) f)
  up_is (negsuc n) e f = cc

  module _ (z : ℤ) (f : SFits w z) where
    pub up : le_z (pos 0) (to_z w (of_z w z)) ≡ true → T (non_neg (to_z w (of_z w z))) × Fits w (nat_abs (to_z w (of_z w z)))
    up e = rw (to_z-of_z w z f) (up_is z (rw (to_z-of_z w z f) at e) f)

    pub down : le_z (pos 0) (to_z w (of_z w z)) ≡ false → to_z w (of_z w (negsuc 0 -ℤ to_z w (of_z w z))) ≡ pos (mag z)
    down e =
        let d : negsuc 0 -ℤ z ≡ pos (mag z) = unflip z (rw (to_z-of_z w z f) at e) in
        let g : SFits w (pos (mag z)) = record { sfits = f.sfits } in
        rw (to_z-of_z w z f, d) (to_z-of_z w (pos (mag z)) g)

    pub down_fits : le_z (pos 0) (to_z w (of_z w z)) ≡ false → SFits w (negsuc 0 -ℤ to_z w (of_z w z))
    down_fits e =
        let d : negsuc 0 -ℤ z ≡ pos (mag z) = unflip z (rw (to_z-of_z w z f) at e) in
        let g : SFits w (pos (mag z)) = record { sfits = f.sfits } in
        rw (to_z-of_z w z f, d) g

    -- it fits a width that is no less
    pub widened : (v : Width) → 2 ^ hbits w ≤ 2 ^ hbits v → SFits v (to_z w (of_z w z))
    widened v h = let below = f.sfits in rw (to_z-of_z w z f) (record { sfits = omega arith })
