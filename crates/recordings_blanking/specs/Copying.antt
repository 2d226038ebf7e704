-- What the code has found where it writes.
use Rattle.std.specs.Prelude.{ℕ, ◌≡◌, List}
use Rattle.sim0mq.specs.Answer.{fine}
use Rattle.sim0mq.specs.Message.{no_table}
use Rattle.recordings_format.specs.Judge.{opening}
use Rattle.recordings_index.specs.declared.Trailer.{Trailer}
use Rattle.recordings.specs.Recordings.{Stated}

-- The recording is accepted, and this is its trailer.
pub record Accepted (s : List ℕ) (t : Trailer) : Type 0 where
  pub stated : Stated s t
  pub opened : opening no_table s ≡ fine stated.found
