-- Messages found from the front, one after the other (02, Tickets 5 and 7).
use Rattle.std.specs.Prelude.{ℕ, zero, suc, ◌+◌, Bool, true, false, List, [], ◌∷◌, length, take, drop, leb}
use Rattle.sim0mq.specs.Answer.{Answer, fine, refused}
use Rattle.dividing.specs.Front.{front_length}

-- Why no further message was taken: the bytes end; bytes are left, and as many messages as may be were taken; or no
-- message is at the front of the rest, by this refusal, its place counted in the whole.
pub data Stop : Type 0 where
  at_end : Stop
  at_most : Stop
  at_fault : ℕ → ℕ → Stop

-- The lengths of the messages, in order, and why they are no more.
pub record Run : Type 0 where
  pub lengths : List ℕ
  pub stop : Stop

abbrev pub stopped : Stop → Run
stopped w = record { lengths = []; stop = w }

abbrev pub longer : ℕ → Run → Run
longer n r = record { lengths = n ∷ r.lengths; stop = r.stop }

-- At the end of the bytes the run stops; else it goes on.
abbrev pub unless_end : Bool → (Unit {0} → Run) → Run
unless_end true go = stopped at_end
unless_end false go = go tt

-- What comes of what stands at the front of the rest, which begins at `at`.
abbrev pub on_front : ℕ → Answer ℕ → (ℕ → Run) → Run
on_front at (fine n) go = longer n (go n)
on_front at (refused k p) go = stopped (at_fault k (at + p))

-- The messages of at most `most` bytes from place `at` of s on, at most `many` of them.
unfoldable pub run_from : ℕ → ℕ → List ℕ → ℕ → Run
run_from most zero s at = unless_end (leb (length s) at) (λ u. stopped at_most)
run_from most (suc many) s at =
    unless_end (leb (length s) at)
    (λ u. on_front at (front_length most (drop at s)) (λ n. run_from most many s (at + n)))

-- All of s divided from the front. A message has at least one byte, so there are no more messages than bytes.
unfoldable pub division : ℕ → List ℕ → Run
division most s = run_from most (length s) s 0

-- The stretches of these lengths, one after the other from place `at` of s on.
unfoldable pub stretches : List ℕ → ℕ → List ℕ → List (List ℕ)
stretches s at [] = []
stretches s at (n ∷ ns) = take n (drop at s) ∷ stretches s (at + n) ns

-- How many bytes these lengths come to.
unfoldable pub total : List ℕ → ℕ
total [] = 0
total (n ∷ ns) = n + total ns
