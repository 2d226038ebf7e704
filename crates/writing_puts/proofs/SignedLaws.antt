-- The bits in a width whose largest number is 2 ^ w - 1 are those of w bits, since 2 ^ w - 1 - n is 2 ^ w - suc n.
use Prim.Native.Nat.{ℕ, ◌-◌, ◌≤◌, ◌^◌}
use mathlib.Core.Path.{◌≡◌, refl, ap, ◌∙◌}
use native.Mathlib.Omega.{arith}
use lib.IntN.{ℤ, pos, negsuc}
use mir.Syntax.{Width}
use mir.Val.{SFits, to_z, of_z, hbits}
use mir.ValLaws.{to_z-of_z}
use Rattle.sim0mq_signed.specs.Signed.{bits_of}
use Rattle.sim0mq_signed.proofs.Signed.{widened}
use Rattle.writing_puts.specs.Signed.{bits_up_to}

-- the bits of a signed number are those in a width whose largest number is 2 ^ w - 1
pub bits_of_lem : (w : ℕ) (z : ℤ) → bits_up_to (2 ^ w - 1) z ≡ bits_of w z
unfolding bits_up_to bits_of
bits_of_lem w (pos n) = refl
bits_of_lem w (negsuc n) = omega arith

-- a signed number that the code widens
module _ (w : Width) (z : ℤ) (f : SFits w z) where
  pub wider : (v : Width) → 2 ^ hbits w ≤ 2 ^ hbits v → to_z v (of_z v (to_z w (of_z w z))) ≡ z
  wider v h = to_z-of_z v (to_z w (of_z w z)) (widened w z f v h) ∙ to_z-of_z w z f

  pub bits_are : (v : ℕ) → bits_up_to (2 ^ v - 1) (to_z w (of_z w z)) ≡ bits_of v z
  bits_are v = ap (bits_up_to (2 ^ v - 1)) (to_z-of_z w z f) ∙ bits_of_lem v z
