-- senders::settle: the sender's own place where it is held and its number is smaller, else the first free one; the
-- array has as many places as the book.
use Prim.Native.Nat.{◌≤◌, ◌<◌}
use mathlib.Core.Bool.{true, false}
use native.Mathlib.Omega.{arith}
use lib.ListN.{length, get_or}
use borrow.Author.Rules.{rules}
use mir.Syntax.{w64}
use mir.Val.{SFits}
use Rattle.senders_book.specs.Book.{nowhere}
use Rattle.senders_book.proofs.TakeCases.{settle-greater, settle-behind, settle-new, settle-full}
use Rattle.senders.proofs.CallCases.{less_as}
use Rattle.senders.proofs.settle.Goals as goal

pub returns-then-e-number : goal.returns-then-e-number
returns-then-e-number c =
    let a = c.args in
    let i = c.place_of-i.result in
    let inside : i < length a.senders = omega (arith, c.if-i-lt-BOOK_PLACES.true) in
    let held : SFits w64 (get_or a.senders i nowhere).number = search rules in
    let less = less_as (get_or a.senders i nowhere).number a.number true held c.ranges.number c.if-e-number.true in
    (settle-greater _ _ _ _ _ _ c.place_of-i.ensures inside less, c.if-i-lt-BOOK_PLACES.true)

pub returns-then-i-lt-BOOK_PLACES : goal.returns-then-i-lt-BOOK_PLACES
returns-then-i-lt-BOOK_PLACES c =
    let a = c.args in
    let i = c.place_of-i.result in
    let inside : i < length a.senders = omega (arith, c.if-i-lt-BOOK_PLACES.true) in
    let held : SFits w64 (get_or a.senders i nowhere).number = search rules in
    let behind = less_as (get_or a.senders i nowhere).number a.number false held c.ranges.number c.if-e-number.false in
    rw c.refuse.ensures (settle-behind _ _ _ _ _ _ c.place_of-i.ensures inside behind, tt)

pub returns-then-j-lt-BOOK_PLACES : goal.returns-then-j-lt-BOOK_PLACES
returns-then-j-lt-BOOK_PLACES c =
    let a = c.args in
    let new : length a.senders ≤ c.place_of-i.result = omega (arith, c.if-i-lt-BOOK_PLACES.false) in
    let room : c.free_place-j.result < length a.senders = omega (arith, c.if-j-lt-BOOK_PLACES.true) in
    (settle-new _ _ _ _ _ _ c.place_of-i.ensures new _ c.free_place-j.ensures room, c.if-j-lt-BOOK_PLACES.true)

pub returns : goal.returns
returns c =
    let a = c.args in
    let new : length a.senders ≤ c.place_of-i.result = omega (arith, c.if-i-lt-BOOK_PLACES.false) in
    let full : length a.senders ≤ c.free_place-j.result = omega (arith, c.if-j-lt-BOOK_PLACES.false) in
    rw c.refuse-2.ensures (settle-full _ _ _ _ _ _ c.place_of-i.ensures new _ c.free_place-j.ensures full, tt)
