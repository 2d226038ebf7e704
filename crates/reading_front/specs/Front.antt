-- What stands before the payload, over the definitions of the format.
use Rattle.std.specs.Prelude.{ℕ, List, length, replicate, leb, Option, None, Some}
use Rattle.sim0mq.specs.Answer as S
use Rattle.sim0mq.specs.Answer.{fine, ◌>>=◌, ◌>>◌, guard}
use Rattle.sim0mq.specs.Header.{Header, header}
use Rattle.sim0mq.specs.Message as M
use Rattle.sim0mq.specs.Message.{limit, enough}
use Rattle.reading_header.specs.declared.Frame.{Frame}

-- What is lent, as the definitions have it.
abbrev pub lent_of : Option ℕ → M.Lent
lent_of None = M.no_table
lent_of (Some r) = M.table r

-- Eight frames that are none.
abbrev pub no_frames : List Frame
no_frames = replicate 8 (record { place = 0; code = 0 })

-- What stands before the payload: the message's length (8), the header, and the table's room (14).
unfoldable pub front_of : M.Lent → List ℕ → S.Answer Header
front_of lent s = do
  guard (leb (length s) limit) 8 0
  h ← header s
  guard (enough lent h.fields) 14 0
  fine h
