-- How long the parts of a recording are, and that its lengths and places fit the bytes that they are written in.
use Prim.Native.Nat.{ℕ, ◌+◌, ◌*◌, ◌<◌, ◌≤◌, ◌^◌}
use mathlib.Core.Path.{◌≡◌, refl, ap, sym, ◌∙◌}
use mathlib.Core.List.{List, [], ◌∷◌, ◌++◌, map, flat_map}
use native.Mathlib.Omega.{arith}
use native.Mathlib.Nat.{suc-mul, mul-suc, mul-zero, mul-le-mul_right}
use lib.ListN.{length, length-append, length-map}
use Rattle.sim0mq.specs.Allowed.{Each, none, more, joined}
use Rattle.sim0mq_numbers.specs.Bytes.{big_bytes}
use Rattle.writing_puts.proofs.PlaceLaws.{big_length}
use Rattle.dividing.specs.Front.{Taken}
use Rattle.dividing.specs.Run.{total}
use Rattle.dividing.proofs.FrontLaws.{taken_short}
use Rattle.recordings_format.specs.Edition.{Edition, entry_size, most_messages, trailer_size}
use Rattle.recordings_format.specs.Text.{entry_text, index_text, trailer_text, tail_text, IsRecording, HasTail}
use Rattle.recordings_format.proofs.EditionLaws.{Row, listed_row}

pub entry_long : (e : Edition) (at n : ℕ) → length (entry_text e at n) ≡ entry_size e
entry_long e at n =
    omega (
      arith,
      length-append (big_bytes 4 at) (big_bytes e.length_bytes n),
      big_length 4 at,
      big_length e.length_bytes n,
    )

pub index_long : (e : Edition) (at : ℕ) (ns : List ℕ) → length (index_text e at ns) ≡ entry_size e * length ns
unfolding index_text
index_long e at [] = sym (mul-zero (entry_size e))
index_long e at (n ∷ ns) =
    omega (
      arith,
      length-append (entry_text e at n) (index_text e (at + n) ns),
      entry_long e at n,
      index_long e (at + n) ns,
      mul-suc (entry_size e) (length ns),
    )

pub trailer_long : (e : Edition) (place n : ℕ) → length (trailer_text e place n) ≡ trailer_size
unfolding trailer_size
trailer_long e place n =
    omega (
      arith,
      length-append (big_bytes 4 place) (big_bytes 4 n ++ big_bytes 2 e.number),
      length-append (big_bytes 4 n) (big_bytes 2 e.number),
      big_length 4 place,
      big_length 4 n,
      big_length 2 e.number,
    )

pub tail_long : (e : Edition) (ns : List ℕ) → length (tail_text e ns) ≡ entry_size e * length ns + trailer_size
tail_long e ns =
    omega (
      arith,
      length-append (index_text e 0 ns) (trailer_text e (total ns) (length ns)),
      index_long e 0 ns,
      trailer_long e (total ns) (length ns),
    )

pub joined_long : (ms : List (List ℕ)) → length (joined ms) ≡ total (map length ms)
unfolding flat_map total
joined_long [] = refl
joined_long (m ∷ ms) = length-append m (joined ms) ∙ ap (λ (k : ℕ). length m + k) (joined_long ms)

-- lengths that an edition has, which fit the bytes of a length
abbrev pub Short : Edition → List ℕ → Type 0
Short e ns = Each (λ n. n ≤ e.most) ns

taken_lengths : (e : Edition) (ms : List (List ℕ)) → Each (Taken e.most) ms → Short e (map length ms)
taken_lengths e [] none = none
taken_lengths e (m ∷ ms) (more t ts) = more (taken_short e.most m t) (taken_lengths e ms ts)

pub lengths_fit_lem : (e : Edition) (ns : List ℕ) → Row e → Short e ns → Each (λ n. n < 2 ^ (8 * e.length_bytes)) ns
lengths_fit_lem e [] r none = none
lengths_fit_lem e (n ∷ ns) r (more h hs) =
    let w = r.wide in
    let fits : n < 2 ^ (8 * e.length_bytes) = omega arith in
    more fits (lengths_fit_lem e ns r hs)

-- and come to a place that fits four
total_bounded : (e : Edition) (ns : List ℕ) → Short e ns → total ns ≤ length ns * e.most
unfolding total
total_bounded e [] none = omega arith
total_bounded e (n ∷ ns) (more h hs) = omega (arith, total_bounded e ns hs, suc-mul (length ns) e.most)

pub places_fit_lem : (e : Edition) (ns : List ℕ) → Row e → Short e ns → length ns ≤ most_messages → total ns < 2 ^ (8 * 4)
places_fit_lem e ns r h few =
    let p = r.placed in omega (arith, total_bounded e ns h, mul-le-mul_right e.most few)

-- a recording ends in the tail of its messages' lengths
pub recording_tail : (e : Edition) (ms : List (List ℕ)) (s : List ℕ) → IsRecording e ms s → HasTail e (map length ms) s
recording_tail e ms s i =
    let ns = map length ms in
    let r = listed_row e i.listed in
    let short = taken_lengths e ms i.each in
    let few : length ns ≤ most_messages = omega (arith, length-map ms length, i.few) in
    record {
      listed = i.listed;
      few = few;
      lengths_fit = lengths_fit_lem e ns r short;
      places_fit = places_fit_lem e ns r short few;
      front = joined ms;
      long = joined_long ms;
      whole = i.whole;
    }
