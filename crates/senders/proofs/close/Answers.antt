-- senders::close: an id that is too long is nobody's; else its place, if it has one, is freed.
use Prim.Native.Nat.{◌≤◌, ◌<◌}
use mathlib.Core.Path.{◌≡◌, ap}
use native.Mathlib.Omega.{arith}
use borrow.Author.Rules.{rules}
use lib.ListN.{length}
use Rattle.senders_book.specs.Book.{book_places}
use Rattle.senders_book.proofs.TakeCases.{close_long, close-held, close-none}
use Rattle.senders.specs.Senders.{after_closing}
use Rattle.senders.proofs.close.Goals as goal

pub returns-then-id-gt-ID_BYTES : goal.returns-then-id-gt-ID_BYTES
returns-then-id-gt-ID_BYTES c = ap after_closing (close_long _ _ _ c.if-id-gt-ID_BYTES.true)

pub returns-then-i-lt-BOOK_PLACES : goal.returns-then-i-lt-BOOK_PLACES
returns-then-i-lt-BOOK_PLACES c =
    let a = c.args in
    let long : length a.book.senders ≡ book_places = search rules in
    let inside : c.place_of-i.result < length a.book.senders = omega (arith, c.if-i-lt-BOOK_PLACES.true) in
    ap after_closing (close-held _ _ _ _ c.id_of-name.ensures _ c.place_of-i.ensures inside)

pub returns : goal.returns
returns c =
    let a = c.args in
    let long : length a.book.senders ≡ book_places = search rules in
    let past : length a.book.senders ≤ c.place_of-i.result = omega (arith, c.if-i-lt-BOOK_PLACES.false) in
    ap after_closing (close-none _ _ _ _ c.id_of-name.ensures _ c.place_of-i.ensures past)
