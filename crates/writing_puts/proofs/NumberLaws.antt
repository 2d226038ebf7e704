-- A number is read back from the bytes that it is written in, since each byte is what is left after division by 256.
use Prim.Native.Nat.{ℕ, zero, suc, ◌+◌, ◌*◌, ◌/◌, ◌%◌, ◌<◌, ◌^◌}
use mathlib.Core.Path.{◌≡◌, refl, ap, sym, ◌∙◌, subst}
use mathlib.Core.List.{List, [], ◌∷◌, ◌++◌}
use native.Mathlib.Omega.{arith}
use native.Mathlib.Nat.{div-add-mod'}
use lib.ListN.{length, get_or, get_or-append}
use lib.Pow.{shr_lt}
use Rattle.sim0mq.specs.Answer.{big}
use Rattle.sim0mq.specs.Allowed.{number_after, number}
use Rattle.sim0mq.proofs.Stands.{Stands, big_number}
use Rattle.sim0mq_numbers.specs.Bytes.{big_bytes}
use Rattle.writing_puts.proofs.PlaceLaws.{big_length}

-- one byte more weighs least
number_last : (a : ℕ) (l : List ℕ) (b : ℕ) → number_after a (l ++ (b ∷ [])) ≡ number_after a l * 256 + b
unfolding number_after
number_last a [] b = refl
number_last a (x ∷ l) b = number_last (a * 256 + x) l b

-- a number without its last byte
shorter : (x i j : ℕ) → i ≡ j + 8 → x < 2 ^ i → x / 256 < 2 ^ j
shorter x i j e h = shr_lt j 8 (subst (λ (k : ℕ). x < 2 ^ k) e h)

-- bytes give back the number that they write
pub number_back : (n x : ℕ) → x < 2 ^ (8 * n) → number (big_bytes n x) ≡ x
unfolding big_bytes number_after
number_back zero x h = omega arith
number_back (suc n) x h =
    number_last 0 (big_bytes n (x / 256)) (x % 256)
    ∙ ap (λ (q : ℕ). q * 256 + x % 256) (number_back n (x / 256) (shorter x (8 * suc n) (8 * n) (omega arith) h))
    ∙ div-add-mod' x 256

-- the first byte of a number below half its range has its top bit clear
pub first_byte : (n x : ℕ) → x < 2 ^ (8 * n + 7) → get_or (big_bytes (suc n) x) 0 0 < 128
unfolding big_bytes
first_byte zero x h = omega arith
first_byte (suc n) x h =
    let more : 0 < length (big_bytes (suc n) (x / 256)) = omega (arith, big_length (suc n) (x / 256)) in
    subst (λ (b : ℕ). b < 128) (sym (get_or-append (big_bytes (suc n) (x / 256)) (x % 256 ∷ []) 0 0 more))
    (first_byte n (x / 256) (shorter x (8 * suc n + 7) (8 * n + 7) (omega arith) h))

-- a number that stands in s is read as it was written
pub number_read : {s : List ℕ} {at : ℕ} (n x : ℕ) → x < 2 ^ (8 * n) → Stands s at (big_bytes n x) → big s at n ≡ x
number_read {s} {at} n x h st = ap (big s at) (sym (big_length n x)) ∙ big_number (big_bytes n x) st ∙ number_back n x h
