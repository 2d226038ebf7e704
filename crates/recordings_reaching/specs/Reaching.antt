-- Asking for message k of a file of which the last bytes are had (02, Ticket 1): where it stands, or how many of the
-- file's last bytes are wanted.
use Rattle.std.specs.Prelude.{ℕ, ◌≡◌, List, leb, ltb, length, Result}
use Rattle.sim0mq.specs.Answer.{Answer, fine, ◌>>=◌, ◌>>◌, guard}
use Rattle.sim0mq.specs.Views.{said_as}
use Rattle.sim0mq.specs.declared.Refusal.{Refusal}
use Rattle.recordings_format.specs.Judge as J
use Rattle.recordings_format.specs.Judge.{Index, placed_in}
use Rattle.recordings_index.specs.Tail.{Reached, there, wanted, index_in}
use Rattle.recordings_index.specs.Index.{trailer_as, summary}
use Rattle.recordings_index.specs.declared.Trailer.{Trailer}
use Rattle.recordings.specs.Recordings.{placed_as}
use Rattle.recordings_reaching.specs.declared.Reaching.{Reaching}
use Rattle.recordings_reaching.specs.declared.Reaching.TheVariants.{At, Wanted}

-- Go on with what was reached, or ask for more.
abbrev pub on_reached : {A B : Type 0} → Reached A → (A → Answer (Reached B)) → Answer (Reached B)
on_reached (there a) go = go a
on_reached (wanted w) go = fine (wanted w)

-- Message k of these: whether there is one (16), and whether it has no more bytes than its edition allows (8, at its
-- start), which reading it by itself does not tell.
unfoldable pub placing : Index → ℕ → Answer (Reached J.Placed)
placing i k = do
  guard (ltb k (length i.lengths)) 16 0
  guard (leb (placed_in i.lengths k).size i.edition.most) 8 (placed_in i.lengths k).start
  fine (there (placed_in i.lengths k))

-- Trailer and index by the last bytes of a file of n, then message k.
unfoldable pub asking_in : ℕ → List ℕ → ℕ → Answer (Reached J.Placed)
asking_in n tail k = do
  r ← index_in n tail
  on_reached r (λ i. placing i k)

-- Each answer of the code, as the definitions have it.
abbrev pub reached_of : Reaching → Reached J.Placed
reached_of (At p) = there (placed_as p)
reached_of (Wanted w) = wanted w

abbrev pub reaching_as : Result Reaching Refusal → Answer (Reached J.Placed)
reaching_as r = said_as reached_of r

-- Trailer and index are right by these last bytes, and this is the trailer.
pub record StatedIn (n : ℕ) (tail : List ℕ) (t : Trailer) : Type 0 where
  pub found : Index
  pub is : index_in n tail ≡ fine (there found)
  pub says : summary found ≡ trailer_as t
