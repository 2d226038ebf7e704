-- The bits of a scalar, as the code works them out.
use Prim.Native.Nat.{ℕ, ◌-◌, ◌^◌}
use mathlib.Core.Path.{◌≡◌, refl, sym, ap, ◌∙◌}
use mathlib.Core.Bool.{Bool, true, false, cond}
use mathlib.Core.List.{List, ◌∷◌}
use mir.Val.{bool_byte}
use lib.IntN.{ℤ}
use lib.Ieee.{Format, Float, nan, ne, to_bits}
use lib.Ieee.Compare.{differs_from_itself}
use Rattle.sim0mq_signed.specs.Signed.{bits_of}
use Rattle.sim0mq_kinds.specs.declared.Mark.{Mark}
use Rattle.writing_puts.specs.Signed.{bits_up_to}
use Rattle.writing_puts.proofs.SignedLaws.{bits_of_lem}
use Rattle.boundary_casting.specs.Casting.{with_mark, with_none}

-- What differs from itself is the NaN.
pub nan_bits : (f : Format) (x : Float) → ne x x ≡ true → to_bits f nan ≡ to_bits f x
nan_bits f x e = sym (ap (to_bits f) (differs_from_itself x (rw e tt)))

-- A signed number, whose bits the code takes at a width.
pub signed_numbers : (kind w b : ℕ) (y z : ℤ) (l : List ℕ) → l ≡ 0 ∷ 0 ∷ with_none kind b → b ≡ bits_up_to (2 ^ w - 1) y → y ≡ z
    → l ≡ 0 ∷ 0 ∷ with_none kind (bits_of w z)
signed_numbers kind w b y z l e g k = e ∙ ap (λ (a : ℕ). 0 ∷ 0 ∷ with_none kind a) (g ∙ (ap (bits_up_to (2 ^ w - 1)) k ∙ bits_of_lem w z))

-- Bits with a mark; and a Boolean as a number.
pub marked_numbers : (kind b x : ℕ) (m : Mark) (l : List ℕ) → l ≡ 0 ∷ 0 ∷ with_mark kind b m → b ≡ x → l ≡ 0 ∷ 0 ∷ with_mark kind x m
marked_numbers kind b x m l e g = e ∙ ap (λ (a : ℕ). 0 ∷ 0 ∷ with_mark kind a m) g

pub truth_number : (b : Bool) → bool_byte b ≡ cond b 1 0
truth_number true = refl
truth_number false = refl
