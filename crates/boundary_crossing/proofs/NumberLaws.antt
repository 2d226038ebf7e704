-- The numbers of an answer, case by case.
use Prim.Native.Nat.{ℕ, zero, suc, ◌+◌, ◌≤◌}
use native.Mathlib.Omega.{arith}
use mathlib.Core.Path.{◌≡◌, sym, ap, ◌∙◌}
use mathlib.Core.List.{List, [], ◌∷◌, flat_map}
use lib.ListN.{length, get_or, drop, drop_of_length-le}
use lib.Seq.{drop-cons}
use Rattle.std.specs.Prelude.{Result, Ok}
use Rattle.sim0mq.specs.declared.Refusal.{Refusal}
use Rattle.sim0mq.specs.Views.{said_as}
use Rattle.reading_header.specs.declared.Frame.{Frame}
use Rattle.reading.specs.declared.Found.{Found}
use Rattle.boundary_crossing.specs.Numbers.{frame_numbers, said_numbers}

-- The n frames from number i on, one by one.
abbrev each_from : List Frame → Frame → ℕ → ℕ → List ℕ
each_from fs d zero i = []
each_from fs d (suc n) i = (get_or fs i d).place ∷ (get_or fs i d).code ∷ each_from fs d n (suc i)

frames_from : (fs : List Frame) (d : Frame) (n i : ℕ) → length fs ≡ i + n → each_from fs d n i ≡ flat_map frame_numbers (drop i fs)
unfolding flat_map
frames_from fs d zero i h =
    let past : length fs ≤ i = omega arith in
    rw (drop_of_length-le fs past)
frames_from fs d (suc n) i h =
    ap (λ (l : List ℕ). (get_or fs i d).place ∷ (get_or fs i d).code ∷ l) (frames_from fs d n (suc i) (omega arith))
    ∙ sym (ap (flat_map frame_numbers) (drop-cons fs i d (omega arith)))

pub read_accepted : (said : Result Found Refusal) (frames : List Frame) (f : Found) (d : Frame) → length frames ≡ 8 → said ≡ Ok f
    → 0 ∷ 0 ∷ f.length ∷ f.fields ∷ f.steps ∷ each_from frames d 8 0 ≡ said_numbers (said_as (λ g. g) said) (flat_map frame_numbers frames)
read_accepted said frames f d h e =
    ap (λ (l : List ℕ). 0 ∷ 0 ∷ f.length ∷ f.fields ∷ f.steps ∷ l) (frames_from frames d 8 0 h)
    ∙ sym (ap (λ (s : Result Found Refusal). said_numbers (said_as (λ g. g) s) (flat_map frame_numbers frames)) e)
