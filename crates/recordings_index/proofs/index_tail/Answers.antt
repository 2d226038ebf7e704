-- The bytes have to reach the trailer, which is judged, and the first entry; and then the entries have to tile.
use mathlib.Core.Path.{sym, ◌∙◌}
use Rattle.recordings_format.specs.Edition.{trailer_size}
use Rattle.recordings_index.proofs.IndexCases.{found-place, found-trailing, tail-untiled, tail-tiled}
use Rattle.recordings_index.proofs.index_tail.Goals as goal

pub overflow_sub-want : goal.overflow_sub-want
unfolding trailer_size
overflow_sub-want c =
    found-place _ _ c.if-n-lt-TRAILER.false c.if-n-tail.false c.if-tail-lt-TRAILER.false c.in-Some.ensures

pub tiles-requires : goal.tiles-requires
unfolding trailer_size
tiles-requires c =
    found-trailing _ _ c.if-n-lt-TRAILER.false c.if-n-tail.false c.if-tail-lt-TRAILER.false c.in-Some.ensures
    c.if-tail-want.false

pub returns-then-not-tiles : goal.returns-then-not-tiles
unfolding trailer_size
returns-then-not-tiles c =
    tail-untiled _ _ c.if-n-lt-TRAILER.false c.if-n-tail.false c.if-tail-lt-TRAILER.false c.in-Some.ensures c.if-tail-want.false
    (sym c.tiles.ensures ∙ c.if-not-tiles.true)

pub returns : goal.returns
unfolding trailer_size
returns c =
    tail-tiled _ _ c.if-n-lt-TRAILER.false c.if-n-tail.false c.if-tail-lt-TRAILER.false c.in-Some.ensures c.if-tail-want.false
    (sym c.tiles.ensures ∙ c.if-not-tiles.false)
