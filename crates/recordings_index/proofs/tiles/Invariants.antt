use Rattle.recordings_index.proofs.TileCases.{Tiling}
use Rattle.recordings_index.proofs.tiles.Given as goal

abbrev pub invariant-loop-k : goal.invariant-loop-k
invariant-loop-k l = Tiling l.n l.tail l.t l.at l.k
