-- How scalars are written, case by case, in the words of the code's tests: each return of the code cites the case that
-- it is.
use Prim.Native.Nat.{ℕ, suc, ◌+◌, ◌-◌, ◌≤◌, ◌<◌, ◌^◌}
use mathlib.Core.Path.{◌≡◌, refl, sym, ap, ◌∙◌}
use mathlib.Core.Bool.{Bool, true, false, ◌&&◌, cond, true≢false}
use mathlib.Core.List.{List, [], ◌∷◌, ◌++◌}
use native.Mathlib.Omega.{arith}
use lib.Dec.{T, eqb}
use lib.Ieee.{Float, binary32, fits, to_bits}
use lib.Ieee.Bits.{to_bits-lt}
use lib.IntN.{ℤ}
use lib.ListN.{length, get_or, set, replicate, length-append, length-set}
use borrow.Author.Tests.{le-leb, lt-leb, eq-eqb, ne_eqb}
use mir.Syntax.{w64}
use mir.Val.{Fits, bool_byte}
use Rattle.std.specs.Prelude.{None, Some}
use Rattle.sim0mq.specs.Mark.{per_row, Kind, plain, money, money_per, unknown, kind_of, currency_taken, display_taken}
use Rattle.sim0mq_marks.proofs.MarkCases.{kind_plain, kind_between, kind_money, kind_per, kind_above}
use Rattle.sim0mq_numbers.specs.Bytes.{big_bytes}
use Rattle.sim0mq_signed.specs.Signed.{bits_of}
use Rattle.asking_scalars.specs.Bytes.{scalar_bytes, bytes_of_mark, mark_bytes}
use Rattle.sim0mq_kinds.specs.declared.Mark.{Mark}
use Rattle.sim0mq_kinds.specs.declared.Scalar.{Scalar}
use Rattle.sim0mq_kinds.specs.declared.Scalar.TheVariants.{Boolean}
use Rattle.writing_encoding.specs.declared.Encoded.{Encoded}
use Rattle.writing_encoding.specs.Scalars.{code_of, scalar_text, mark_taken, writable, scalar_given}
use Rattle.sim0mq.specs.Table.{placed}
use Rattle.sim0mq_buffers.specs.Placing.{put_in}
use Rattle.writing_puts.specs.Placing.{number_text}
use Rattle.writing_puts.specs.Signed.{bits_up_to}
use Rattle.writing_encoding.specs.Encoded.{field_in, encoded_as, marked_given}
use Rattle.sim0mq.proofs.PlaceLaws.{placed_length, placed_on}
use Rattle.sim0mq_buffers.proofs.PlaceLaws.{placed_byte}
use Rattle.writing_puts.proofs.PlaceLaws.{placed_coded, big_length, big_fits}
use Rattle.writing_puts.proofs.SignedLaws.{bits_of_lem}

-- whether a mark is taken, by its unit type's kind
module _ (m : Mark) where
  pub plain_taken : m.unit ≤ 28 → mark_taken m (kind_of m.unit) ≡ (eqb m.currency 0 && display_taken m.unit m.display)
  unfolding mark_taken
  plain_taken h = ap (mark_taken m) (kind_plain m.unit h)

  pub between_untaken : 28 < m.unit → m.unit ≤ 99 → mark_taken m (kind_of m.unit) ≡ false
  unfolding mark_taken
  between_untaken h k = ap (mark_taken m) (kind_between m.unit h k)

  pub money_taken : m.unit ≡ 100 → mark_taken m (kind_of m.unit) ≡ (currency_taken m.currency && eqb m.display 0)
  unfolding mark_taken
  money_taken h = ap (mark_taken m) (kind_money m.unit h)

  pub per_taken : 100 < m.unit → m.unit ≤ 106
      → mark_taken m (kind_of m.unit) ≡ (currency_taken m.currency && display_taken (get_or per_row (m.unit - 101) 0) m.display)
  unfolding mark_taken
  per_taken h k = ap (mark_taken m) (kind_per m.unit h k)

  pub above_untaken : 106 < m.unit → mark_taken m (kind_of m.unit) ≡ false
  unfolding mark_taken
  above_untaken h = ap (mark_taken m) (kind_above m.unit h)

pub ruleset mark_kinds = (plain_taken, between_untaken, money_taken, per_taken, above_untaken, eq-eqb, ne_eqb)

-- the bytes of a mark
module _ (m : Mark) where
  -- it has at most four
  mark_short : (k : Kind) → length (bytes_of_mark m k) ≤ 4
  unfolding bytes_of_mark
  mark_short (plain t) = omega arith
  mark_short money = omega (arith, big_length 2 m.currency)
  mark_short (money_per t) = omega (arith, big_length 2 m.currency, length-append (big_bytes 2 m.currency) (m.display ∷ []))
  mark_short unknown = omega arith

  -- a taken mark has a unit type with a currency, unless it is plain
  pub taken_money : mark_taken m (kind_of m.unit) ≡ true → 28 < m.unit → (99 < m.unit) × (m.unit ≤ 106)
  taken_money t h =
      let low : m.unit ≤ 99 → ⊥ = λ k. true≢false (sym t ∙ between_untaken m h k) in
      let high : 106 < m.unit → ⊥ = λ k. true≢false (sym t ∙ above_untaken m k) in
      (omega arith, omega arith)

  -- from 1 on in a buffer, piece by piece
  module _ (out : List ℕ) (h : 5 ≤ length out) where
    written_as : (n : ℕ) (now l : List ℕ) → bytes_of_mark m (kind_of m.unit) ≡ l → n ≡ 1 + length l → now ≡ placed out 1 l
        → (n ≡ 1 + length (bytes_of_mark m (kind_of m.unit))) × (now ≡ placed out 1 (bytes_of_mark m (kind_of m.unit)))
    written_as n now l e k p = rw e (k, p)

    pub plain-written : m.unit ≤ 28
        → (3 ≡ 1 + length (bytes_of_mark m (kind_of m.unit)))
        × (set (set out 1 m.unit) 2 m.display ≡ placed out 1 (bytes_of_mark m (kind_of m.unit)))
    unfolding bytes_of_mark
    plain-written k =
        written_as 3 _ (m.unit ∷ m.display ∷ []) (ap (bytes_of_mark m) (kind_plain m.unit k)) refl
        (placed_byte (set out 1 m.unit) 2 m.display (omega (arith, length-set out 1 m.unit))
        ∙ ap (λ (o : List ℕ). placed o 2 (m.display ∷ [])) (placed_byte out 1 m.unit (omega arith))
        ∙ placed_on out 1 (m.unit ∷ []) (m.display ∷ []) 2 refl (omega arith))

    module _ (now : List ℕ) (e : now ≡ put_in (set out 1 m.unit) 2 (big_bytes 2 m.currency)) where
      coded : now ≡ placed out 1 (number_text m.unit 2 m.currency)
      coded =
          e ∙ big_fits (set out 1 m.unit) 2 2 m.currency (omega (arith, length-set out 1 m.unit))
          ∙ placed_coded out 1 m.unit 2 m.currency (omega arith)

      long : length (number_text m.unit 2 m.currency) ≡ 3
      long = omega (arith, big_length 2 m.currency)

      pub money-length : length now ≡ length out
      money-length = ap length coded ∙ placed_length out 1 (number_text m.unit 2 m.currency) (omega (arith, long))

      pub money-written : m.unit ≡ 100
          → (4 ≡ 1 + length (bytes_of_mark m (kind_of m.unit))) × (now ≡ placed out 1 (bytes_of_mark m (kind_of m.unit)))
      unfolding bytes_of_mark
      money-written k =
          written_as 4 _ (number_text m.unit 2 m.currency) (ap (bytes_of_mark m) (kind_money m.unit k)) (omega (arith, long)) coded

      pub per-written : 100 < m.unit → m.unit ≤ 106
          → (5 ≡ 1 + length (bytes_of_mark m (kind_of m.unit))) × (set now 4 m.display ≡ placed out 1 (bytes_of_mark m (kind_of m.unit)))
      unfolding bytes_of_mark
      per-written k l =
          let text = number_text m.unit 2 m.currency in
          written_as 5 _ (text ++ (m.display ∷ [])) (ap (bytes_of_mark m) (kind_per m.unit k l))
          (omega (arith, long, length-append text (m.display ∷ [])))
          (placed_byte now 4 m.display (omega (arith, money-length))
          ∙ ap (λ (o : List ℕ). placed o 4 (m.display ∷ [])) coded
          ∙ placed_on out 1 text (m.display ∷ []) 4 (omega (arith, long)) (omega arith))

-- a field at the front of 13 zero bytes: a number, or a mark and a number
pub plain_encoded : (c n x : ℕ) (now : List ℕ) → now ≡ placed (replicate 13 0) 0 (number_text c n x)
    → ◌≡◌ {A = Encoded} (record { bytes = now; length = 1 + n }) (field_in (number_text c n x))
plain_encoded c n x now e = let long : 1 + n ≡ suc (length (big_bytes n x)) = omega (arith, big_length n x) in rw (e, long)

module _ (c n x : ℕ) (m : Mark) where
  pub untaken_encoded : mark_taken m (kind_of m.unit) ≡ false → None ≡ encoded_as (marked_given c m n x)
  unfolding marked_given
  untaken_encoded e = simp e

  -- the mark is put after the code, and the number after the mark
  module _ (marked : List ℕ) (end : ℕ) (e : end ≡ 1 + length (bytes_of_mark m (kind_of m.unit)))
      (f : marked ≡ placed (set (replicate 13 0) 0 c) 1 (bytes_of_mark m (kind_of m.unit))) where
    pub marked-short : n ≤ 8 → end + n ≤ 13
    marked-short short = omega (arith, mark_short m (kind_of m.unit))

    front : marked ≡ placed (replicate 13 0) 0 (c ∷ bytes_of_mark m (kind_of m.unit))
    front =
        let mark = bytes_of_mark m (kind_of m.unit) in
        f ∙ ap (λ (o : List ℕ). placed o 1 mark) (placed_byte (replicate 13 0) 0 c (omega arith))
        ∙ placed_on (replicate 13 0) 0 (c ∷ []) mark 1 refl (omega (arith, mark_short m (kind_of m.unit)))

    front_length : length marked ≡ 13
    front_length =
        ap length front
        ∙ placed_length (replicate 13 0) 0 (c ∷ bytes_of_mark m (kind_of m.unit)) (omega (arith, mark_short m (kind_of m.unit)))

    marked-fits : n ≤ 8 → end + n ≤ length marked
    marked-fits short = omega (arith, marked-short short, front_length)

    pub marked-encoded : (now : List ℕ) → n ≤ 8 → mark_taken m (kind_of m.unit) ≡ true → now ≡ put_in marked end (big_bytes n x)
        → Some (record { bytes = now; length = end + n }) ≡ encoded_as (marked_given c m n x)
    unfolding marked_given
    marked-encoded now short t g =
        let mark = bytes_of_mark m (kind_of m.unit) in
        let whole : now ≡ placed (replicate 13 0) 0 (c ∷ (mark ++ big_bytes n x))
        = g ∙ big_fits marked end n x (marked-fits short) ∙ ap (λ (o : List ℕ). placed o end (big_bytes n x)) front
        ∙ placed_on (replicate 13 0) 0 (c ∷ mark) (big_bytes n x) end (omega (arith, e)) (omega (arith, marked-short short, big_length n x)) in
        let long : end + n ≡ suc (length (mark ++ big_bytes n x)) = omega (arith, e, length-append mark (big_bytes n x), big_length n x) in
        rw (whole, long, t)

-- what the bits of a float or double say: it is a NaN, or it is none and these are its bits
pub no_bits : (t : Bool) (b : ℕ) → None ≡ cond t None (Some b) → t ≡ true
no_bits true b e = refl
no_bits false b e = cc

pub some_bits : (t : Bool) (n b : ℕ) → Some n ≡ cond t None (Some b) → (t ≡ false) × (n ≡ b)
some_bits true n b e = cc
some_bits false n b e = (refl, cc)

-- a scalar that may not be written; one that may; and one that may where its mark may
module _ (v : Scalar) where
  pub unwritable : writable v ≡ false → None ≡ encoded_as (scalar_given v)
  unfolding scalar_given
  unwritable e = simp e

  pub written : (c n x : ℕ) → writable v ≡ true → scalar_text v ≡ number_text c n x → Some (field_in (number_text c n x)) ≡ encoded_as (scalar_given v)
  unfolding scalar_given
  written c n x e t = simp (e, t)

  pub marked_written : (c : ℕ) (m : Mark) (n x : ℕ) → writable v ≡ mark_taken m (kind_of m.unit)
      → scalar_text v ≡ c ∷ (bytes_of_mark m (kind_of m.unit) ++ big_bytes n x) → encoded_as (marked_given c m n x) ≡ encoded_as (scalar_given v)
  unfolding marked_given scalar_given
  marked_written c m n x e t = simp (e, t)

  -- a signed number, whose bits the code takes at a width
  pub signed_written : (c n w b : ℕ) (y z : ℤ) → writable v ≡ true → scalar_text v ≡ number_text c n (bits_of w z)
      → b ≡ bits_up_to (2 ^ w - 1) y → y ≡ z → Some (field_in (number_text c n b)) ≡ encoded_as (scalar_given v)
  signed_written c n w b y z e t g k =
      ap (λ (a : ℕ). Some (field_in (number_text c n a))) (g ∙ ap (bits_up_to (2 ^ w - 1)) k ∙ bits_of_lem w z)
      ∙ written c n (bits_of w z) e t

-- the 32 bits of a float, as the code widens them
pub bits_fit : (x : Float) → T (fits binary32 x) → Fits w64 (to_bits binary32 x)
bits_fit x f = record { fits = omega (arith, to_bits-lt binary32 x f) }

-- a Boolean is the byte 1 or 0
pub truth_text : (b : Bool) → scalar_text (Boolean b) ≡ number_text 6 1 (bool_byte b)
unfolding scalar_text code_of mark_bytes scalar_bytes big_bytes
truth_text true = refl
truth_text false = refl
