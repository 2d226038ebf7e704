-- Each case of a scalar has its kind, and what it holds gives the bits and the mark.
use borrow.Author.Rules.{rules}
use native.Mathlib.Omega.{arith}
use mir.Syntax.{w8, w16, w32, w64}
use mir.ValLaws.{to_z-of_z}
use Rattle.writing_puts.proofs.SignedLaws.{wider}
use Rattle.boundary_casting.specs.Casting.{scalar_numbers}
use Rattle.boundary_casting.proofs.ScalarLaws.{signed_numbers}
use Rattle.boundary_casting.proofs.scalar_numbers.Goals as goal

pub returns-in-Byte : goal.returns-in-Byte
unfolding scalar_numbers
returns-in-Byte c =
    let z = c.in-Byte.z in
    rw c.in-Byte.is (signed_numbers 0 8 _ _ z _ c.unmarked.ensures c.bits.ensures (wider w8 z (search rules) w64 (omega arith)))

pub returns-in-Short : goal.returns-in-Short
unfolding scalar_numbers
returns-in-Short c =
    let z = c.in-Short.z in
    rw c.in-Short.is (signed_numbers 1 16 _ _ z _ c.unmarked-in-Short.ensures c.bits-in-Short.ensures (wider w16 z (search rules) w64 (omega arith)))

pub returns-in-Int : goal.returns-in-Int
unfolding scalar_numbers
returns-in-Int c =
    let z = c.in-Int.z in
    rw c.in-Int.is (signed_numbers 2 32 _ _ z _ c.unmarked-in-Int.ensures c.bits-in-Int.ensures (wider w32 z (search rules) w64 (omega arith)))

pub returns-in-Long : goal.returns-in-Long
unfolding scalar_numbers
returns-in-Long c =
    let z = c.in-Long.z in
    rw c.in-Long.is (signed_numbers 3 64 _ _ z _ c.unmarked-in-Long.ensures c.bits-in-Long.ensures (to_z-of_z w64 z (search rules)))
