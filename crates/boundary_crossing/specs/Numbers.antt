-- The numbers in which each answer crosses to C and Rust. The first is 0 where the call is granted, else the refusal's
-- number (01, "Refusals and their places"); the second is the refusal's place, 0 where it is granted.
use Rattle.std.specs.Prelude.{ℕ, replicate}
use mathlib.Core.List.{List, [], ◌∷◌, flat_map}
use Rattle.sim0mq.specs.Answer as S
use Rattle.sim0mq.specs.Answer.{fine, refused}
use Rattle.sim0mq.specs.Field.{Field}
use Rattle.reading_header.specs.declared.Frame.{Frame}
use Rattle.reading.specs.declared.Found.{Found}
use Rattle.reading.specs.Answers.{Answered}

-- A frame's place and type code.
abbrev pub frame_numbers : Frame → List ℕ
frame_numbers f = f.place ∷ f.code ∷ []

-- Reading, 21 numbers: number, place, length, fields, steps, then the place and the type code of each of the eight
-- frames.
abbrev pub said_numbers : S.Answer Found → List ℕ → List ℕ
said_numbers (fine f) frames = 0 ∷ 0 ∷ f.length ∷ f.fields ∷ f.steps ∷ frames
said_numbers (refused k p) frames = k ∷ p ∷ replicate 19 0

abbrev pub read_numbers : Answered → List ℕ
read_numbers a = said_numbers a.said (flat_map frame_numbers a.frames)

-- A length, 3 numbers: number, place, length.
abbrev pub length_numbers : S.Answer ℕ → List ℕ
length_numbers (fine n) = 0 ∷ 0 ∷ n ∷ []
length_numbers (refused k p) = k ∷ p ∷ 0 ∷ []

-- A view, 4 numbers: number, place, place of the first value byte, number of value bytes.
abbrev pub view_numbers : S.Answer Field → List ℕ
view_numbers (fine f) = 0 ∷ 0 ∷ f.first ∷ f.size ∷ []
view_numbers (refused k p) = k ∷ p ∷ 0 ∷ 0 ∷ []
