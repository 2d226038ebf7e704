-- An entry is read at a place that is capped at the largest number: what is past the cap is past the bytes too, where
-- every number is 0.
use Prim.Native.Nat.{ℕ, zero, suc, ◌+◌, ◌*◌, ◌^◌, ◌≤◌, ◌<◌, min}
use mathlib.Core.Path.{◌≡◌, refl, ap, sym, ◌∙◌}
use mathlib.Core.Bool.{Bool, true, false, cond, ◌&&◌}
use mathlib.Core.List.{List}
use native.Mathlib.Omega.{arith}
use native.Mathlib.Nat.{mul-suc, mul-zero, mul-le-mul_left, zero-add}
use lib.ListN.{length, take, get_or}
use lib.Dec.{leb}
use borrow.Author.Tests.{leb-true, leb-false}
use Rattle.sim0mq.specs.Answer.{fine, big}
use Rattle.sim0mq_numbers.specs.Numbers.{number_at}
use Rattle.sim0mq_numbers.proofs.NumberCases.{number_there, number_short}
use Rattle.dividing.specs.Run.{total}
use Rattle.recordings_format.specs.Edition.{trailer_size}
use Rattle.recordings_format.specs.Judge.{entries_from}
use Rattle.recordings_format.proofs.IndexLaws.{entries_nth}
use Rattle.recordings_index.specs.Index.{Trailing, first_entry, entry_place, entry_at}
use Rattle.recordings_index.specs.declared.Trailer.{Trailer}

-- past the bytes a number is 0
number_past : (s : List ℕ) (p n : ℕ) → length s ≤ p → number_at s p n ≡ 0
unfolding number_at big
number_past s p zero h = elim (leb (p + 0) (length s)) as (λ (b : Bool). ◌≡◌ {A = ℕ} (cond (b && leb 0 8) 0 0) 0) [ true ↦ refl | false ↦ refl ]
number_past s p (suc n) h = sym (number_short s p (suc n) (omega arith))

number_capped : (s : List ℕ) (p most n : ℕ) → length s ≤ most → number_at s (min p most) n ≡ number_at s p n
number_capped s p most n h = go (leb p most) refl
  where
    go : (b : Bool) → leb p most ≡ b → number_at s (min p most) n ≡ number_at s p n
    go true e =
        let under = leb-true p most e in
        let is : min p most ≡ p = omega arith in
        ap (λ (x : ℕ). number_at s x n) is
    go false e =
        let over = leb-false p most e in
        number_past s (min p most) n (omega arith) ∙ sym (number_past s p n (omega arith))

-- a sum and a product of what was capped
capped_sum : (a b most : ℕ) → min (min a most + b) most ≡ min (a + b) most
capped_sum a b most = omega arith

capped_product : (a k most : ℕ) → min (min a most * k) most ≡ min (a * k) most
capped_product a zero most = simp mul-zero
capped_product a (suc k) most = simp mul-suc (go (leb a most) refl)
  where
    go : (b : Bool) → leb a most ≡ b → min (min a most * k + min a most) most ≡ min (a * k + a) most
    go true e =
        let under = leb-true a most e in
        let is : min a most ≡ a = omega arith in
        ap (λ (x : ℕ). min (x * k + x) most) is
    go false e =
        let over = leb-false a most e in
        over_all (min a most * k) (a * k) over
      where
        over_all : (x y : ℕ) → most < a → min (x + min a most) most ≡ min (y + a) most
        over_all x y h = omega arith

-- the entry, read at such places
pub entry_capped : (n : ℕ) (tail : List ℕ) (t : Trailer) (k most size times p q start long : ℕ) → length tail ≤ most
    → size ≡ min (t.edition.wide + 4) most → times ≡ min (size * k) most → p ≡ min (times + first_entry n tail t) most
    → q ≡ min (p + 4) most → start ≡ number_at tail p 4 → long ≡ number_at tail q t.edition.wide
    → record { start = start; length = long } ≡ entry_at n tail t k
unfolding entry_at
entry_capped n tail t k most size times p q start long h a b c d e f =
    let wide = t.edition.wide in
    let from = first_entry n tail t in
    let place = entry_place n tail t k in
    let there : (wide + 4) * k + from ≡ place = omega arith in
    let product : times ≡ min ((wide + 4) * k) most
    = b ∙ ap (λ (x : ℕ). min (x * k) most) a ∙ capped_product (wide + 4) k most in
    let first : p ≡ min place most
    =
    c
    ∙ ap (λ (x : ℕ). min (x + from) most) product
    ∙ capped_sum ((wide + 4) * k) from most
    ∙ ap (λ (x : ℕ). min x most) there in
    let second : q ≡ min (place + 4) most
    = d ∙ ap (λ (x : ℕ). min (x + 4) most) first ∙ capped_sum place 4 most in
    let starts : start ≡ number_at tail place 4
    = e ∙ ap (λ (x : ℕ). number_at tail x 4) first ∙ number_capped tail place most 4 h in
    let sizes : long ≡ number_at tail (place + 4) wide
    = f ∙ ap (λ (x : ℕ). number_at tail x wide) second ∙ number_capped tail (place + 4) most wide h in
    λ i. record { start = starts i; length = sizes i }

-- a number of at most four bytes
pub four_bytes : (w x : ℕ) → w ≤ 4 → x < 256 ^ w → x < 4294967296
four_bytes zero x h k = omega arith
four_bytes (suc zero) x h k = omega arith
four_bytes (suc (suc zero)) x h k = omega arith
four_bytes (suc (suc (suc zero))) x h k = omega arith
four_bytes (suc (suc (suc (suc zero)))) x h k = omega arith
four_bytes (suc (suc (suc (suc (suc w))))) x h k = absurd (omega arith)

-- entry k of a trailer that was taken stands in the bytes, and is that of the lengths that the entries state
module _ (n : ℕ) (tail : List ℕ) (t : Trailer) (r : Trailing tail t.edition.wide (first_entry n tail t) t.entries) where
  module _ {k : ℕ} (f : k < t.entries) where
    pub entry_room : entry_place n tail t k + (4 + t.edition.wide) ≤ length tail
    entry_room =
        let size = 4 + t.edition.wide in
        go (size * k) (size * suc k) (size * t.entries) (mul-suc size k) (mul-le-mul_left size f) r.fills
      where
        go : (a b c : ℕ) → b ≡ a + (4 + t.edition.wide) → b ≤ c → first_entry n tail t + c + trailer_size ≡ length tail
            → first_entry n tail t + a + (4 + t.edition.wide) ≤ length tail
        go a b c p q e = omega arith

    pub entry_there : entry_at n tail t k
        ≡ record { start = big tail (entry_place n tail t k) 4; length = big tail (entry_place n tail t k + 4) t.edition.wide }
    unfolding entry_at
    entry_there =
        let room = entry_room in
        let narrow = r.narrow in
        λ i. record {
          start = number_there tail (entry_place n tail t k) 4 (omega arith) (omega arith) i;
          length = number_there tail (entry_place n tail t k + 4) t.edition.wide (omega arith) (omega arith) i;
        }

    pub entry_nth : (ns : List ℕ) → entries_from tail t.edition.wide t.entries (first_entry n tail t) 0 t.place ≡ fine ns
        → entry_at n tail t k ≡ record { start = total (take k ns); length = get_or ns k 0 }
    entry_nth ns states =
        let nth = entries_nth tail t.edition.wide t.entries (first_entry n tail t) 0 t.place ns k states f in
        entry_there ∙ (λ i. record { start = (nth.start ∙ zero-add (total (take k ns))) i; length = nth.size i })
