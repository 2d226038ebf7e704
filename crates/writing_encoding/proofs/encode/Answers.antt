-- Each case of a scalar has its code, and what it holds gives the number or the mark and the number after it.
use borrow.Author.Rules.{rules}
use mathlib.Core.Path.{refl, ap, ◌∙◌}
use mir.Syntax.{w8, w16, w32, w64}
use mir.ValLaws.{to_z-of_z}
use Rattle.std.specs.Prelude.{Some}
use Rattle.asking_scalars.specs.Bytes.{mark_bytes, scalar_bytes}
use Rattle.sim0mq_kinds.specs.declared.Scalar.TheVariants.{Byte, Short, Int, Long, Float, Double, Boolean, Char8, Char16, FloatUnit, DoubleUnit, NotNumber}
use Rattle.writing_encoding.specs.Scalars.{code_of, scalar_text, writable}
use Rattle.writing_encoding.proofs.EncodeCases.{no_bits, some_bits, unwritable, written, marked_written, signed_written, truth_text}
use Rattle.writing_encoding.proofs.encode.Goals as goal

pub returns-in-Byte : goal.returns-in-Byte
unfolding writable scalar_text code_of mark_bytes scalar_bytes
returns-in-Byte c =
    let wide = to_z-of_z w64 c.from.result (search rules) ∙ c.from.ensures ∙ to_z-of_z w8 c.in-Byte.x (search rules) in
    rw c.in-Byte.is (ap Some c.plain.ensures ∙ signed_written (Byte c.in-Byte.x) 0 1 8 _ _ _ refl refl c.bits.ensures wide)

pub returns-in-Short : goal.returns-in-Short
unfolding writable scalar_text code_of mark_bytes scalar_bytes
returns-in-Short c =
    let wide = to_z-of_z w64 c.from-in-Short.result (search rules) ∙ c.from-in-Short.ensures ∙ to_z-of_z w16 c.in-Short.x (search rules) in
    rw c.in-Short.is
    (ap Some c.plain-in-Short.ensures ∙ signed_written (Short c.in-Short.x) 1 2 16 _ _ _ refl refl c.bits-in-Short.ensures wide)

pub returns-in-Int : goal.returns-in-Int
unfolding writable scalar_text code_of mark_bytes scalar_bytes
returns-in-Int c =
    let wide = to_z-of_z w64 c.from-in-Int.result (search rules) ∙ c.from-in-Int.ensures ∙ to_z-of_z w32 c.in-Int.x (search rules) in
    rw c.in-Int.is
    (ap Some c.plain-in-Int.ensures ∙ signed_written (Int c.in-Int.x) 2 4 32 _ _ _ refl refl c.bits-in-Int.ensures wide)

pub returns-in-Long : goal.returns-in-Long
unfolding writable scalar_text code_of mark_bytes scalar_bytes
returns-in-Long c =
    let wide = to_z-of_z w64 c.in-Long.x (search rules) in
    rw c.in-Long.is
    (ap Some c.plain-in-Long.ensures ∙ signed_written (Long c.in-Long.x) 3 8 64 _ _ _ refl refl c.bits-in-Long.ensures wide)

pub returns-in_err-float_bits-in-Float : goal.returns-in_err-float_bits-in-Float
unfolding writable
returns-in_err-float_bits-in-Float c =
    let x = c.in-Float.x in
    let nan = no_bits _ _ c.in_err-float_bits-in-Float.ensures in
    rw c.in-Float.is (c.from_residual.ensures ∙ unwritable (Float x) (simp nan))

pub returns-in_err-double_bits-in-Double : goal.returns-in_err-double_bits-in-Double
unfolding writable
returns-in_err-double_bits-in-Double c =
    let x = c.in-Double.x in
    let nan = no_bits _ _ c.in_err-double_bits-in-Double.ensures in
    rw c.in-Double.is (c.from_residual-in_err-double_bits-in-Double.ensures ∙ unwritable (Double x) (simp nan))

pub returns-in_err-float_bits-in-FloatUnit : goal.returns-in_err-float_bits-in-FloatUnit
unfolding writable
returns-in_err-float_bits-in-FloatUnit c =
    let v = c.in-FloatUnit in
    let nan = no_bits _ _ c.in_err-float_bits-in-FloatUnit.ensures in
    rw v.is (c.from_residual-in_err-float_bits-in-FloatUnit.ensures ∙ unwritable (FloatUnit v.x v.mark) (simp nan))

pub returns-in_err-double_bits-in-DoubleUnit : goal.returns-in_err-double_bits-in-DoubleUnit
unfolding writable
returns-in_err-double_bits-in-DoubleUnit c =
    let v = c.in-DoubleUnit in
    let nan = no_bits _ _ c.in_err-double_bits-in-DoubleUnit.ensures in
    rw v.is (c.from_residual-in_err-double_bits-in-DoubleUnit.ensures ∙ unwritable (DoubleUnit v.x v.mark) (simp nan))

pub returns-in_ok-float_bits-in-Float : goal.returns-in_ok-float_bits-in-Float
unfolding writable scalar_text code_of mark_bytes scalar_bytes
returns-in_ok-float_bits-in-Float c =
    let x = c.in-Float.x in
    let bits = some_bits _ _ _ c.in_ok-float_bits-in-Float.ensures in
    rw c.in-Float.is (ap Some c.plain-in-Float.ensures ∙ written (Float x) 4 4 _ (simp bits.0) (rw bits.1))

pub returns-in_ok-double_bits-in-Double : goal.returns-in_ok-double_bits-in-Double
unfolding writable scalar_text code_of mark_bytes scalar_bytes
returns-in_ok-double_bits-in-Double c =
    let x = c.in-Double.x in
    let bits = some_bits _ _ _ c.in_ok-double_bits-in-Double.ensures in
    rw c.in-Double.is (ap Some c.plain-in-Double.ensures ∙ written (Double x) 5 8 _ (simp bits.0) (rw bits.1))

pub returns-in_ok-float_bits-in-FloatUnit : goal.returns-in_ok-float_bits-in-FloatUnit
unfolding writable scalar_text code_of mark_bytes scalar_bytes
returns-in_ok-float_bits-in-FloatUnit c =
    let v = c.in-FloatUnit in
    let bits = some_bits _ _ _ c.in_ok-float_bits-in-FloatUnit.ensures in
    rw v.is (c.marked.ensures ∙ marked_written (FloatUnit v.x v.mark) 25 v.mark 4 _ (simp bits.0) (rw bits.1))

pub returns-in_ok-double_bits-in-DoubleUnit : goal.returns-in_ok-double_bits-in-DoubleUnit
unfolding writable scalar_text code_of mark_bytes scalar_bytes
returns-in_ok-double_bits-in-DoubleUnit c =
    let v = c.in-DoubleUnit in
    let bits = some_bits _ _ _ c.in_ok-double_bits-in-DoubleUnit.ensures in
    rw v.is (c.marked-in-DoubleUnit.ensures ∙ marked_written (DoubleUnit v.x v.mark) 26 v.mark 8 _ (simp bits.0) (rw bits.1))

pub returns-in-Boolean : goal.returns-in-Boolean
unfolding writable
returns-in-Boolean c =
    let b = c.in-Boolean.x in
    rw (c.in-Boolean.is, c.plain-in-Boolean.ensures, c.from-in-Boolean.ensures) (written (Boolean b) 6 1 _ refl (truth_text b))

pub returns-in-Char8 : goal.returns-in-Char8
unfolding writable scalar_text code_of mark_bytes scalar_bytes
returns-in-Char8 c =
    rw (c.in-Char8.is, c.plain-in-Char8.ensures, c.from-in-Char8.ensures) (written (Char8 c.in-Char8.x) 7 1 _ refl refl)

pub returns-in-Char16 : goal.returns-in-Char16
unfolding writable scalar_text code_of mark_bytes scalar_bytes
returns-in-Char16 c =
    rw (c.in-Char16.is, c.plain-in-Char16.ensures, c.from-in-Char16.ensures) (written (Char16 c.in-Char16.x) 8 2 _ refl refl)

pub returns-in-NotNumber : goal.returns-in-NotNumber
unfolding writable
returns-in-NotNumber c = rw c.in-NotNumber.is (unwritable (NotNumber c.in-NotNumber.field-0) refl)
