-- Three numbers tell frame 0, since the bytes that a number was read from are those that it is written in.
use Prim.Native.Nat.{ℕ, ◌+◌, ◌≤◌, ◌<◌}
use mathlib.Core.Path.{◌≡◌, refl, ap, sym, ◌∙◌, subst}
use mathlib.Core.Bool.{true, false, ◌&&◌}
use mathlib.Core.List.{List, [], ◌∷◌}
use native.Mathlib.Omega.{arith}
use lib.ListN.{length, take, drop}
use lib.Dec.{leb, eqb}
use borrow.Author.Tests.{le-leb, lt-leb, eq-eqb, ne_eqb, leb-true, eqb-true}
use Rattle.sim0mq.specs.Answer.{fine, byte, big}
use Rattle.sim0mq.specs.Header.{magic_bytes, literal, digit, magic}
use Rattle.sim0mq.specs.Allowed.{frame0}
use Rattle.sim0mq.proofs.Answers.{and_true}
use Rattle.sim0mq.proofs.Stands.{Stands, stands_head, stands_tail, stands_left, stands_join, part, stands_part, part_back}
use Rattle.sim0mq_numbers.specs.Numbers.{number_at}
use Rattle.sim0mq_numbers.specs.Bytes.{big_bytes}
use Rattle.sim0mq_numbers.proofs.NumberCases.{number_there}
use Rattle.sim0mq_numbers.proofs.ByteLaws.{bytes_back}
use Rattle.reading_magic.specs.Magic.{is_frame0}

-- the three numbers of frame 0
first_four : big frame0 0 4 ≡ 0x0900_0000
unfolding big
first_four = refl

next_four : big frame0 4 4 ≡ 0x0553_494d
unfolding big
next_four = refl

digits : big frame0 8 2 ≡ 0x3031
unfolding big
digits = refl

-- the tests of the three numbers, in the words of the code
module _ (s : List ℕ) where
  pub frame_0_short : length s < 10 → false ≡ is_frame0 s
  unfolding is_frame0
  frame_0_short h = simp (lt-leb 10 (length s) h)

  read : (at n x : ℕ) → at + n ≤ length s → n ≤ 8 → x ≡ number_at s at n → big s at n ≡ x
  read at n x h k e = sym (e ∙ number_there s at n h k)

  module _ (h : 10 ≤ length s) (a : ℕ) (e : a ≡ number_at s 0 4) where
    long : leb 10 (length s) ≡ true
    long = le-leb 10 (length s) h

    first : big s 0 4 ≡ a
    first = read 0 4 a (omega arith) (omega arith) e

    pub frame-0-first : (a ≡ 0x0900_0000 → ⊥) → false ≡ is_frame0 s
    unfolding is_frame0
    frame-0-first k = simp (long, first, first_four, ne_eqb a 0x0900_0000 k)

    module _ (b : ℕ) (f : b ≡ number_at s 4 4) (same : a ≡ 0x0900_0000) where
      next : big s 4 4 ≡ b
      next = read 4 4 b (omega arith) (omega arith) f

      pub frame-0-next : (b ≡ 0x0553_494d → ⊥) → false ≡ is_frame0 s
      unfolding is_frame0
      frame-0-next k = simp (long, first, first_four, same, next, next_four, ne_eqb b 0x0553_494d k)

      pub frame-0-digits : (c : ℕ) → c ≡ number_at s 8 2 → b ≡ 0x0553_494d → eqb c 0x3031 ≡ is_frame0 s
      unfolding is_frame0
      frame-0-digits c g also =
          simp (long, first, first_four, same, next, next_four, also, read 8 2 c (omega arith) (omega arith) g, digits)

-- bytes that make these numbers are frame 0's, and frame 0 is taken
literal_taken : {s : List ℕ} {at : ℕ} (bs : List ℕ) → Stands s at bs → literal s bs at ≡ fine (at + length bs)
unfolding literal
literal_taken {s} {at} [] there = ap fine (omega arith)
literal_taken {s} {at} (b ∷ bs) there =
    let fits = there.fits in
    simp (le-leb (at + 1) (length s) (omega arith), stands_head there, eq-eqb b b refl)
    (literal_taken {at = at + 1} bs (stands_tail there) ∙ ap fine (omega arith))

frame_taken : {s : List ℕ} → Stands s 0 frame0 → magic s ≡ fine 10
unfolding magic digit
frame_taken {s} there =
    let fits = there.fits in
    let tens : byte s 8 ≡ 48 = there.same 8 (omega arith) in
    let ones : byte s 9 ≡ 49 = there.same 9 (omega arith) in
    simp (
      literal_taken magic_bytes (stands_left magic_bytes (48 ∷ 49 ∷ []) there),
      le-leb 9 (length s) (omega arith),
      le-leb 10 (length s) (omega arith),
      tens,
      ones,
    )

module _ (s : List ℕ) (bytes : (i : ℕ) → byte s i < 256) where
  written : (n at x : ℕ) → at + n ≤ length s → big s at n ≡ x → Stands s at (big_bytes n x)
  written n at x h e =
      let l = part s at n in
      let there = stands_part s at n h in
      let taken : l ≡ take n (drop at s) = sym (part_back l there.1) ∙ ap (λ (k : ℕ). take k (drop at s)) there.0 in
      let same : l ≡ big_bytes n x = taken ∙ sym (bytes_back s bytes n at h) ∙ ap (big_bytes n) e in
      subst (λ (m : List ℕ). Stands s at m) same there.1

  pub frame_0_taken : is_frame0 s ≡ true → fine 10 ≡ magic s
  unfolding is_frame0 big_bytes
  frame_0_taken e =
      let toDigits = and_true (leb 10 (length s) && eqb (big s 0 4) (big frame0 0 4) && eqb (big s 4 4) (big frame0 4 4)) _ e in
      let toNext = and_true (leb 10 (length s) && eqb (big s 0 4) (big frame0 0 4)) _ toDigits.0 in
      let toFirst = and_true (leb 10 (length s)) _ toNext.0 in
      let long = leb-true 10 (length s) toFirst.0 in
      let first : Stands s 0 (9 ∷ 0 ∷ 0 ∷ 0 ∷ [])
      = written 4 0 0x0900_0000 (omega arith) (eqb-true _ _ toFirst.1 ∙ first_four) in
      let next : Stands s 4 (5 ∷ 83 ∷ 73 ∷ 77 ∷ [])
      = written 4 4 0x0553_494d (omega arith) (eqb-true _ _ toNext.1 ∙ next_four) in
      let last : Stands s 8 (48 ∷ 49 ∷ []) = written 2 8 0x3031 (omega arith) (eqb-true _ _ toDigits.1 ∙ digits) in
      sym (frame_taken (stands_join (9 ∷ 0 ∷ 0 ∷ 0 ∷ []) _ first (stands_join (5 ∷ 83 ∷ 73 ∷ 77 ∷ []) _ next last)))
