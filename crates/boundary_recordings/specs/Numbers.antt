-- The numbers in which the answers of recordings cross to C and Rust. The first is 0 where the call is granted, else
-- the refusal's number; the second is the refusal's place, 0 where it is granted.
use Rattle.std.specs.Prelude.{ℕ, List, [], ◌∷◌, replicate}
use Rattle.sim0mq.specs.Answer.{Answer, fine, refused}
use Rattle.dividing.specs.Run.{Stop, at_end, at_most, at_fault}
use Rattle.recordings_format.specs.Judge.{Placed}
use Rattle.recordings_salvaging.specs.Salvage.{Report}

-- Where a message stands, 4 numbers: number, place, the message's start and its length.
abbrev pub place_numbers : Answer Placed → List ℕ
place_numbers (fine m) = 0 ∷ 0 ∷ m.start ∷ m.size ∷ []
place_numbers (refused k p) = k ∷ p ∷ 0 ∷ 0 ∷ []

-- Why salvage stopped, 3 numbers: 0 at the end, 1 at the most messages, 2 at a refusal; and that refusal's number and
-- place.
abbrev pub stop_numbers : Stop → List ℕ
stop_numbers at_end = 0 ∷ 0 ∷ 0 ∷ []
stop_numbers at_most = 1 ∷ 0 ∷ 0 ∷ []
stop_numbers (at_fault k p) = 2 ∷ k ∷ p ∷ []

-- Salvage, 8 numbers: number, place, the new recording's length, the messages kept, the bytes dropped, and why it
-- stopped.
abbrev pub salvage_numbers : Answer Report → List ℕ
salvage_numbers (fine r) = 0 ∷ 0 ∷ r.bytes ∷ r.kept ∷ r.dropped ∷ stop_numbers r.stop
salvage_numbers (refused k p) = k ∷ p ∷ replicate 6 0
