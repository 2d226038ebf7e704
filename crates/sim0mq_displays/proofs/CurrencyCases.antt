-- A word of currency codes is the list's, since a test computed over its 64 codes passes; past the last word there is
-- no code.
use Prim.Native.Nat.{ℕ, ◌+◌, ◌*◌, ◌≤◌, ◌<◌}
use mathlib.Core.Path.{◌≡◌, refl, sym}
use mathlib.Core.Bool.{Bool, true, false, not, false≢true}
use native.Mathlib.Omega.{arith}
use native.Mathlib.Nat.{zero-div}
use Rattle.sim0mq.specs.Mark.{currency_taken}
use Rattle.sim0mq.proofs.Rows.{all_below, below_at, currency_most}
use Rattle.sim0mq_tables.specs.Bits.{bit}

-- two tests answer alike
unfoldable pub alike : Bool → Bool → Bool
alike true b = b
alike false b = not b

alike_same : (a b : Bool) → alike a b ≡ true → a ≡ b
unfolding alike
alike_same true b e = sym e
alike_same false true e = absurd (false≢true e)
alike_same false false e = refl

-- bit k of word w is set where 64 w + k is a currency code
unfoldable pub agrees : ℕ → ℕ → ℕ → Bool
agrees w r k = alike (bit r k) (currency_taken (w * 64 + k))

pub word_told : (v r : ℕ) → all_below 64 (agrees v r) ≡ true → {w : ℕ} → w ≡ v → (k : ℕ) → k < 64 → bit r k ≡ currency_taken (w * 64 + k)
unfolding agrees
word_told v r a e k h = rw e (alike_same _ _ (below_at (agrees v r) 64 k a h))

not_above : (c : ℕ) → 1000 < c → (b : Bool) → currency_taken c ≡ b → false ≡ b
not_above c h true e = absurd (let l = currency_most c e in omega arith)
not_above c h false e = refl

pub none_told : (w : ℕ) → 16 ≤ w → (k : ℕ) → k < 64 → bit 0 k ≡ currency_taken (w * 64 + k)
unfolding bit
none_told w h k l = simp zero-div (not_above (w * 64 + k) (omega arith) (currency_taken (w * 64 + k)) refl)
