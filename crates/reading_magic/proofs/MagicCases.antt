-- How the judges of frame 0 answer, case by case, in the words of the code's tests.
use Prim.Native.Nat.{ℕ, ◌+◌, ◌≤◌, ◌<◌}
use mathlib.Core.Path.{◌≡◌, ◌∙◌}
use mathlib.Core.List.{List, [], ◌∷◌}
use native.Mathlib.Omega.{arith}
use native.Mathlib.Numerals.{add-one}
use lib.ListN.{length, get_or, drop, drop_of_length-le, get_or-append}
use lib.Seq.{drop-cons}
use borrow.Author.Tests.{le-leb, lt-leb, eq-eqb, ne_eqb}
use Rattle.sim0mq.specs.Answer.{fine, refused, byte}
use Rattle.sim0mq.specs.Header.{magic_bytes, literal, digit, magic}
use Rattle.sim0mq.specs.Allowed.{frame0}
use Rattle.reading_magic.specs.Magic.{edition_end}

-- frame 0 begins with them
pub frame_begins : (i : ℕ) → i < 8 → get_or frame0 i 0 ≡ get_or magic_bytes i 0
frame_begins i h = get_or-append magic_bytes (48 ∷ 49 ∷ []) 0 i h

-- frame 0, byte by byte: the bytes end, a wrong byte, the next byte, all bytes passed
module _ (s bs : List ℕ) (i : ℕ) where
  this : i < length bs → literal s (drop i bs) i ≡ literal s (get_or bs i 0 ∷ drop (i + 1) bs) i
  this h = rw (add-one i, drop-cons bs i 0 h)

  pub literal_short : i < length bs → length s ≤ i → literal s (drop i bs) i ≡ refused 1 (length s)
  unfolding literal
  literal_short h k = this h ∙ simp (lt-leb (i + 1) (length s) (omega arith))

  pub literal_wrong : i < length bs → i < length s → (byte s i ≡ get_or bs i 0 → ⊥) → literal s (drop i bs) i ≡ refused 2 i
  unfolding literal
  literal_wrong h k e = this h ∙ simp (le-leb (i + 1) (length s) (omega arith), ne_eqb (byte s i) (get_or bs i 0) e)

  pub literal_next : i < length bs → i < length s → byte s i ≡ get_or bs i 0 → literal s (drop i bs) i ≡ literal s (drop (i + 1) bs) (i + 1)
  unfolding literal
  literal_next h k e = this h ∙ simp (le-leb (i + 1) (length s) (omega arith), eq-eqb (byte s i) (get_or bs i 0) e)

  pub literal_done : length bs ≤ i → literal s (drop i bs) i ≡ fine i
  unfolding literal
  literal_done h = rw (drop_of_length-le bs h)

module _ (s : List ℕ) (at : ℕ) where
  pub digit_short : length s ≤ at → digit s at ≡ refused 1 (length s)
  unfolding digit
  digit_short h = simp (lt-leb (at + 1) (length s) (omega arith))

  pub digit_low : at < length s → byte s at < 48 → digit s at ≡ refused 2 at
  unfolding digit
  digit_low h k = simp (le-leb (at + 1) (length s) (omega arith), lt-leb 48 (byte s at) k)

  pub digit_high : at < length s → 48 ≤ byte s at → 57 < byte s at → digit s at ≡ refused 2 at
  unfolding digit
  digit_high h k l = simp (le-leb (at + 1) (length s) (omega arith), le-leb 48 (byte s at) k, lt-leb (byte s at) 57 l)

  pub digit_fine : (d : ℕ) → at < length s → d ≡ byte s at → 48 ≤ d → d ≤ 57 → digit s at ≡ fine d
  unfolding digit
  digit_fine d h e k l = simp (le-leb (at + 1) (length s) (omega arith), ← e, le-leb 48 d k, le-leb d 57 l)

pub edition_fine : (a b : ℕ) → a ≡ 48 → b ≡ 49 → fine 10 ≡ edition_end a b
unfolding edition_end
edition_fine a b e f = simp (e, f)

pub edition_first : (a b : ℕ) → (a ≡ 48 → ⊥) → edition_end a b ≡ refused 3 8
unfolding edition_end
edition_first a b e = simp (ne_eqb a 48 e)

pub edition_second : (a b : ℕ) → a ≡ 48 → (b ≡ 49 → ⊥) → edition_end a b ≡ refused 3 8
unfolding edition_end
edition_second a b e f = simp (e, ne_eqb b 49 f)

module _ (s : List ℕ) where
  pub magic_stop : (k p : ℕ) → literal s magic_bytes 0 ≡ refused k p → magic s ≡ refused k p
  unfolding magic
  magic_stop k p e = simp e

  module _ (n : ℕ) (l : literal s magic_bytes 0 ≡ fine n) where
    pub magic-first : (k p : ℕ) → digit s 8 ≡ refused k p → magic s ≡ refused k p
    unfolding magic
    magic-first k p e = simp (l, e)

    pub magic-second : (a k p : ℕ) → digit s 8 ≡ fine a → digit s 9 ≡ refused k p → magic s ≡ refused k p
    unfolding magic
    magic-second a k p d e = simp (l, d, e)

    pub magic-edition : (a b : ℕ) → digit s 8 ≡ fine a → digit s 9 ≡ fine b → edition_end a b ≡ magic s
    unfolding magic edition_end
    magic-edition a b d e = simp (l, d, e)
