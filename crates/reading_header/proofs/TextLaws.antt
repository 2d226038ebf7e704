-- A string of bytes that is all there is an id. Its count is not negative, since the bytes of a negative count write a
-- number beyond the length of all bytes.
use Prim.Native.Nat.{ℕ, ◌+◌, ◌-◌, ◌≤◌, ◌<◌}
use mathlib.Core.Path.{◌≡◌, refl, ap, sym, ◌∙◌}
use mathlib.Core.Bool.{Bool, true, false, ◌&&◌}
use mathlib.Core.List.{List}
use native.Mathlib.Omega.{arith}
use native.Mathlib.Nat.{mul-one}
use lib.ListN.{length}
use lib.Dec.{leb, eqb, ltb}
use borrow.Author.Tests.{le-leb, lt-leb, lt-ltb, le-ltb, eq-eqb, ne_eqb, leb-true, leb-false, ltb-true, eqb-true}
use Rattle.sim0mq.specs.Answer.{fine, byte, big}
use Rattle.sim0mq.specs.Codes.{code_known, counts_of, marking_of, width_of}
use Rattle.sim0mq.specs.Mark.{marks}
use Rattle.sim0mq.specs.Field.{count, counts, mark_count, head, head_rest, Field, outline}
use Rattle.sim0mq.specs.Header.{id_codes, among, frame}
use Rattle.sim0mq.proofs.Answers.{and_true}
use Rattle.sim0mq.proofs.Rows.{id_not_boolean}
use Rattle.sim0mq_numbers.specs.Numbers.{number_at}
use Rattle.sim0mq_numbers.proofs.NumberCases.{number_there, count_fine}
use Rattle.reading_header.specs.Frames.{is_text}
use Rattle.reading_header.proofs.FrameCases.{frame_outline}

and_false : (a : Bool) → (a && false) ≡ false
and_false true = refl
and_false false = refl

-- n bytes fit into what is left after the count
room_left : (n at l : ℕ) → at + 5 ≤ l → leb n (l - at - 5) ≡ leb (at + 5 + n) l
room_left n at l h = go (leb n (l - at - 5)) refl
  where
    go : (b : Bool) → leb n (l - at - 5) ≡ b → leb n (l - at - 5) ≡ leb (at + 5 + n) l
    go true e = let fits = leb-true n (l - at - 5) e in e ∙ sym (le-leb (at + 5 + n) l (omega arith))
    go false e = let over = leb-false n (l - at - 5) e in e ∙ sym (lt-leb (at + 5 + n) l (omega arith))

-- the tests, in the words of the code
module _ (s : List ℕ) (at : ℕ) where
  pub text_short : length s < at + 5 → false ≡ is_text s at
  unfolding is_text
  text_short h =
      let none : leb (at + 5 + big s (at + 1) 4) (length s) ≡ false = lt-leb (at + 5 + big s (at + 1) 4) (length s) (omega arith) in
      sym (simp none (and_false (ltb (length s) 2147483648 && eqb (byte s at) 9)))

  pub text_long : 2147483648 ≤ length s → false ≡ is_text s at
  unfolding is_text
  text_long h = simp (le-ltb (length s) 2147483648 h)

  pub text_other : length s < 2147483648 → (byte s at ≡ 9 → ⊥) → false ≡ is_text s at
  unfolding is_text
  text_other h k = simp (lt-ltb (length s) 2147483648 h, ne_eqb (byte s at) 9 k)

  pub text_there : (n : ℕ) → length s < 2147483648 → at + 5 ≤ length s → byte s at ≡ 9 → n ≡ number_at s (at + 1) 4
      → leb n (length s - at - 5) ≡ is_text s at
  unfolding is_text
  text_there n h l code e =
      let read : big s (at + 1) 4 ≡ n = sym (e ∙ number_there s (at + 1) 4 (omega arith) (omega arith)) in
      simp (lt-ltb (length s) 2147483648 h, eq-eqb (byte s at) 9 code, read) (room_left n at (length s) l)

-- what the tests tell
pub record Text (s : List ℕ) (at : ℕ) : Type 0 where
  pub few : length s < 2147483648
  pub code : byte s at ≡ 9
  pub fits : at + 5 + big s (at + 1) 4 ≤ length s

pub text_told : (s : List ℕ) (at : ℕ) → is_text s at ≡ true → Text s at
unfolding is_text
text_told s at e =
    let a = and_true (ltb (length s) 2147483648 && eqb (byte s at) 9) _ e in
    let b = and_true (ltb (length s) 2147483648) _ a.0 in
    record { few = ltb-true _ _ b.0; code = eqb-true _ _ b.1; fits = leb-true _ _ a.1 }

-- a number of four bytes that is below half of what they can write has a first byte below half
first_below : (s : List ℕ) (at : ℕ) → big s at 4 < 2147483648 → byte s at < 128
unfolding big
first_below s at h =
    let first : byte s (at + 0) ≡ byte s at = ap (byte s) (omega arith) in omega arith

-- the string at `at`, with n bytes
abbrev text_at : ℕ → ℕ → Field
text_at at n = record { code = 9; place = at; first = at + 5; size = n; marked = 0; values = n }

module _ (s : List ℕ) (at n : ℕ) where
  text_outline : byte s at ≡ 9 → at + 5 + n ≤ length s → count s (at + 1) ≡ fine n → outline s at ≡ fine (text_at at n)
  unfolding outline head head_rest counts mark_count marks code_known counts_of marking_of width_of
  text_outline code fits counted =
      let first : at + 1 + 4 ≡ at + 5 = omega arith in
      simp (
        le-leb (at + 1) (length s) (omega arith),
        code,
        counted,
        first,
        mul-one n,
        le-leb (at + 5 + n) (length s) fits,
      )

  pub text_taken_lem : Text s at → n ≡ number_at s (at + 1) 4 → fine (text_at at n) ≡ frame s id_codes at
  unfolding among
  text_taken_lem text e =
      let few = text.few in
      let fits = text.fits in
      let read : n ≡ big s (at + 1) 4 = e ∙ number_there s (at + 1) 4 (omega arith) (omega arith) in
      let counted : count s (at + 1) ≡ fine n = count_fine s (at + 1) n (omega arith) (first_below s (at + 1) (omega arith)) e in
      let anId : among (byte s at) id_codes ≡ true = ap (λ (k : ℕ). among k id_codes) text.code in
      sym (text_outline text.code (omega arith) counted) ∙ frame_outline s id_codes at (omega arith) anId id_not_boolean
