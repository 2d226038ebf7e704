-- A text of one byte is put by one store, and one zero after it by another.
use Prim.Native.Nat.{ℕ, ◌+◌, ◌<◌, ◌≤◌}
use mathlib.Core.Path.{◌≡◌, ap, sym, ◌∙◌}
use mathlib.Core.List.{List}
use native.Mathlib.Omega.{arith}
use lib.ListN.{length, get_or, set, length-set}
use Rattle.sim0mq_buffers.specs.Placing.{put_in, cleared_in}
use Rattle.sim0mq_buffers.proofs.PlaceLaws.{placed_single, put_fits, zeroed_byte, clear_fits}

-- a text of one byte is put by one store
put_byte : (out text : List ℕ) (at : ℕ) → length text ≡ 1 → at < length out → set out at (get_or text 0 0) ≡ put_in out at text
put_byte out text at one room = placed_single out at text one room ∙ sym (put_fits out at text (omega arith))

-- and what is cleared after it begins at the next byte
pub renewed_one : (out text next : List ℕ) (at n : ℕ) → length text ≡ 1 → at < length out
    → next ≡ cleared_in (set out at (get_or text 0 0)) (at + 1) n → next ≡ cleared_in (put_in out at text) (at + length text) n
renewed_one out text next at n one room q =
    let after : at + 1 ≡ at + length text = omega arith in
    q
    ∙ ap (λ (m : List ℕ). cleared_in m (at + 1) n) (put_byte out text at one room)
    ∙ ap (λ (k : ℕ). cleared_in (put_in out at text) k n) after

pub renewed_byte : (out text : List ℕ) (at n : ℕ) → length text ≡ 1 → n ≡ 1 → at + 2 ≤ length out
    → set (set out at (get_or text 0 0)) (at + 1) 0 ≡ cleared_in (put_in out at text) (at + length text) n
renewed_byte out text at n one single room =
    let mid = set out at (get_or text 0 0) in
    let long = length-set out at (get_or text 0 0) in
    renewed_one out text (set mid (at + 1) 0) at n one (omega arith)
    (zeroed_byte mid (at + 1) n single (omega arith) ∙ sym (clear_fits mid (at + 1) n (omega arith)))

-- and a text put, and zeros after it, are one step after the other
pub renewed : (out mid next text : List ℕ) (at n : ℕ) → mid ≡ put_in out at text → next ≡ cleared_in mid (at + length text) n
    → next ≡ cleared_in (put_in out at text) (at + length text) n
renewed out mid next text at n p q = q ∙ ap (λ (m : List ℕ). cleared_in m (at + length text) n) p
