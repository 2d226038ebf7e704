-- What reading answers, over the definitions of the format.
use Rattle.std.specs.Prelude.{ℕ, ◌+◌, List, map, length}
use Rattle.sim0mq.specs.Answer as S
use Rattle.sim0mq.specs.Answer.{fine, refused}
use Rattle.sim0mq.specs.Message as M
use Rattle.sim0mq.specs.Message.{steps_of}
use Rattle.sim0mq.specs.Views.{said_as}
use Rattle.reading_header.specs.declared.Frame.{Frame}
use Rattle.reading_header.specs.Frames.{framed}
use Rattle.reading_front.specs.Front.{no_frames}
use Rattle.reading.specs.declared.Found.{Found}
use Rattle.reading.specs.declared.Answer as A

-- The message's length, its field count and its steps.
abbrev pub found_in : M.Reading → Found
found_in m = record { length = m.bytes; fields = length m.fields; steps = steps_of m }

-- What reading says, and the frames beside it.
pub record Answered : Type 0 where
  pub said : S.Answer Found
  pub frames : List Frame

abbrev pub answer_as : A.Answer → Answered
answer_as a = record { said = said_as (λ f. f) a.said; frames = a.frames }

-- The refusal, as the answer of reading.
abbrev pub refused_at : ℕ → ℕ → Answered
refused_at k p = record { said = refused k p; frames = no_frames }

-- The whole answer of reading, refused input included.
abbrev pub answered : S.Answer M.Reading → Answered
answered (fine m) = record { said = fine (found_in m); frames = map framed m.frames }
answered (refused k p) = refused_at k p

-- The answer of a message of so many bytes that has these frames and so many fields, where this is what its payload's
-- reader says.
abbrev pub answer_of : ℕ → List Frame → ℕ → S.Answer ℕ → Answered
answer_of bytes frames n (fine k) = record { said = fine (record { length = bytes; fields = n; steps = 8 + k }); frames = frames }
answer_of bytes frames n (refused k p) = refused_at k p
