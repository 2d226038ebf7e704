-- The bytes of a number, stored one by one, the last of them first, are placed as one text.
use Prim.Native.Nat.{ℕ, zero, suc, ◌+◌, ◌-◌, ◌<◌, ◌≤◌, ◌/◌, ◌%◌}
use mathlib.Core.Path.{◌≡◌, refl, ap, sym, ◌∙◌}
use mathlib.Core.List.{List, [], ◌∷◌, ◌++◌, append_assoc}
use native.Mathlib.Omega.{arith}
use lib.ListN.{length, take, drop, set, length-append}
use lib.Seq.{length-take-le, drop_at, set_split, take-set-le}
use Rattle.sim0mq_numbers.specs.Bytes.{big_bytes}
use Rattle.sim0mq_buffers.specs.Placing.{put_in}
use Rattle.writing_puts.specs.Placing.{number_text}
use Rattle.sim0mq.specs.Table.{placed}
use Rattle.sim0mq.proofs.PlaceLaws.{placed_nothing, placed_length, placed_on}
use Rattle.sim0mq_buffers.proofs.PlaceLaws.{placed_byte, put_fits, put_over}

-- a text whose last byte is stored first
placed_last : (out : List ℕ) (at : ℕ) (a : List ℕ) (x : ℕ) → at + length a < length out
    → placed (set out (at + length a) x) at a ≡ placed out at (a ++ (x ∷ []))
unfolding placed
placed_last out at a x h =
    let p = at + length a in
    let front : take at (set out p x) ≡ take at out = take-set-le at out p x (omega arith) in
    let back : drop p (set out p x) ≡ x ∷ drop (suc p) out
    = ap (drop p) (set_split out p x h) ∙ drop_at (take p out) (x ∷ drop (suc p) out) p (length-take-le p out (omega arith)) in
    let end : suc p ≡ at + length (a ++ (x ∷ [])) = omega (arith, length-append a (x ∷ [])) in
    rw (front, back)
    (ap (λ (l : List ℕ). take at out ++ l)
    (sym (append_assoc a (x ∷ []) (drop (suc p) out)) ∙ ap (λ (k : ℕ). a ++ (x ∷ []) ++ drop k out) end))

-- the n bytes of a number are n
pub big_length : (n x : ℕ) → length (big_bytes n x) ≡ n
unfolding big_bytes
big_length zero x = refl
big_length (suc n) x = length-append (big_bytes n (x / 256)) (x % 256 ∷ []) ∙ omega (arith, big_length n (x / 256))

-- a number whose last byte is stored first
placed_digit : (out : List ℕ) (at n x : ℕ) → at + n < length out
    → placed (set out (at + n) (x % 256)) at (big_bytes n (x / 256)) ≡ placed out at (big_bytes (suc n) x)
unfolding big_bytes
placed_digit out at n x h =
    let e : length (big_bytes n (x / 256)) ≡ n = big_length n (x / 256) in
    ap (λ (k : ℕ). placed (set out (at + k) (x % 256)) at (big_bytes n (x / 256))) (sym e)
    ∙ placed_last out at (big_bytes n (x / 256)) (x % 256) (omega arith)

-- the same, as a turn of a loop that counts down
pub placed_turn : (out : List ℕ) (at n x : ℕ) → 0 < n → at + n ≤ length out
    → placed (set out (at + (n - 1)) (x % 256)) at (big_bytes (n - 1) (x / 256)) ≡ placed out at (big_bytes n x)
placed_turn out at n x h k =
    let e : suc (n - 1) ≡ n = omega arith in
    placed_digit out at (n - 1) x (omega arith) ∙ ap (λ (j : ℕ). placed out at (big_bytes j x)) e

-- a code, and a number after it
pub placed_coded : (out : List ℕ) (at c n x : ℕ) → at + 1 + n ≤ length out → placed (set out at c) (at + 1) (big_bytes n x) ≡ placed out at (number_text c n x)
placed_coded out at c n x h =
    ap (λ (o : List ℕ). placed o (at + 1) (big_bytes n x)) (placed_byte out at c (omega arith))
    ∙ placed_on out at (c ∷ []) (big_bytes n x) (at + 1) refl (omega (arith, big_length n x))

-- a number of n bytes has room where n bytes have
pub big_fits : (out : List ℕ) (at n x : ℕ) → at + n ≤ length out → put_in out at (big_bytes n x) ≡ placed out at (big_bytes n x)
big_fits out at n x h = put_fits out at (big_bytes n x) (omega (arith, big_length n x))

pub big_over : (out : List ℕ) (at n x : ℕ) → length out < at + n → out ≡ put_in out at (big_bytes n x)
big_over out at n x h = put_over out at (big_bytes n x) (omega (arith, big_length n x))

-- what the check of the code uses
pub ruleset puts = (placed_nothing, placed_length, put_over, big_length, placed_turn, big_fits, big_over)
