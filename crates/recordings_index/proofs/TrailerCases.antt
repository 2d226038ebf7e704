-- A known edition's index is small, and the trailer is read in the last bytes of a file.
use Prim.Native.Nat.{ℕ, ◌+◌, ◌-◌, ◌*◌, ◌≤◌}
use mathlib.Core.Path.{◌≡◌, sym, ◌∙◌}
use mathlib.Core.List.{List}
use native.Mathlib.Omega.{arith}
use native.Mathlib.Nat.{mul-le-mul}
use lib.ListN.{length}
use Rattle.sim0mq.specs.Answer.{fine, big}
use Rattle.sim0mq_numbers.specs.Numbers.{number_at}
use Rattle.sim0mq_numbers.proofs.NumberCases.{number_there}
use Rattle.recordings_format.specs.Edition.{edition_of, most_messages, trailer_size}
use Rattle.recordings_format.specs.Judge.{trailer_from}
use Rattle.recordings_format.proofs.EditionLaws.{found_row}
use Rattle.recordings_index.specs.Tail.{trailer_in}
use Rattle.recordings_index.specs.Index.{row_of}
use Rattle.recordings_index.specs.declared.Edition.{Edition}

-- a known edition's entries are narrow, and an index of not too many of them is small
pub from_narrow : (n : ℕ) {e : Edition} → fine (row_of e) ≡ edition_of n → e.wide ≤ 4
from_narrow n {e} known = (found_row n (row_of e) (sym known)).narrow

pub from_small : {w entries : ℕ} → w ≤ 4 → entries ≤ most_messages → (4 + w) * entries ≤ 8 * most_messages
from_small {w} {entries} narrow few =
    mul-le-mul {n₁ = 4 + w} {m₁ = entries} {n₂ = 8} {m₂ = most_messages} (omega arith) few

-- the last bytes of a file
pub trailer_read : (m : ℕ) (s : List ℕ) (n place entries : ℕ) → trailer_size ≤ length s
    → place ≡ number_at s (length s - trailer_size) 4 → entries ≡ number_at s (length s - trailer_size + 4) 4
    → n ≡ number_at s (length s - trailer_size + 8) 2 → trailer_from n place entries (m - trailer_size) ≡ trailer_in m s
unfolding trailer_in trailer_size
trailer_read m s n place entries h a b c =
    let at = length s - trailer_size in
    let p : place ≡ big s at 4 = a ∙ number_there s at 4 (omega arith) (omega arith) in
    let k : entries ≡ big s (at + 4) 4 = b ∙ number_there s (at + 4) 4 (omega arith) (omega arith) in
    let e : n ≡ big s (at + 8) 2 = c ∙ number_there s (at + 8) 2 (omega arith) (omega arith) in
    λ i. trailer_from (e i) (p i) (k i) (m - trailer_size)
