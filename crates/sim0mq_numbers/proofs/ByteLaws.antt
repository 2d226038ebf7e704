-- Writing a number gives back the bytes that it was read from, since a byte is what is left of the number after
-- division by 256.
use Prim.Native.Nat.{ℕ, zero, suc, ◌+◌, ◌*◌, ◌/◌, ◌%◌, ◌<◌, ◌≤◌, ◌^◌}
use mathlib.Core.Path.{◌≡◌, refl, ap, sym, ◌∙◌, subst}
use mathlib.Core.List.{List, [], ◌∷◌, ◌++◌}
use native.Mathlib.Omega.{arith}
use lib.Arith.{digits_lt, digits_div, digits_mod}
use lib.Pow.{pow-add}
use lib.ListN.{length, take, drop, length-drop}
use lib.Seq.{take-suc, get_or-drop}
use Rattle.sim0mq.specs.Answer.{byte, big}
use Rattle.sim0mq_numbers.specs.Bytes.{big_bytes}

module _ (s : List ℕ) (bytes : (i : ℕ) → byte s i < 256) where
  -- the bytes of a number that is read are those it was read from
  pub bytes_back : (n at : ℕ) → at + n ≤ length s → big_bytes n (big s at n) ≡ take n (drop at s)
  unfolding big_bytes big
  bytes_back zero at h = refl
  bytes_back (suc n) at h =
      let b = byte s (at + n) in
      let front : (big s at n * 256 + b) / 256 ≡ big s at n = digits_div (big s at n) (bytes (at + n)) in
      let last : (big s at n * 256 + b) % 256 ≡ b = digits_mod (big s at n) (bytes (at + n)) in
      let more = take-suc (drop at s) n 0 (omega (arith, length-drop at s)) in
      rw (front, last, bytes_back n at (omega arith)) (sym (more ∙ ap (λ (x : ℕ). take n (drop at s) ++ (x ∷ [])) (get_or-drop at s n 0)))

  -- and it fits as many bits
  pub big_fits : (n at : ℕ) → big s at n < 2 ^ (8 * n)
  unfolding big
  big_fits zero at = omega arith
  big_fits (suc n) at =
      let e : 8 * suc n ≡ 8 * n + 8 = omega arith in
      let p : 2 ^ (8 * suc n) ≡ 2 ^ (8 * n) * 256 = ap (λ (k : ℕ). 2 ^ k) e ∙ pow-add 2 (8 * n) 8 in
      subst (λ (k : ℕ). big s at n * 256 + byte s (at + n) < k) (sym p) (digits_lt (big_fits n at) (bytes (at + n)))
