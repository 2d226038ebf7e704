-- A tail put piece by piece, each where the one before ends, is the tail.
use Prim.Native.Nat.{ℕ, zero, suc, ◌+◌, ◌-◌, ◌*◌, ◌≤◌, ◌<◌}
use mathlib.Core.Path.{◌≡◌, refl, ap, sym, ◌∙◌, subst}
use mathlib.Core.Bool.{Bool, true, false, ◌&&◌, and-false}
use mathlib.Core.List.{List, [], ◌∷◌, ◌++◌, map, append_assoc, append-nil}
use native.Mathlib.Omega.{arith}
use native.Mathlib.Numerals.{add-one}
use native.Mathlib.Nat.{add-zero, not-suc-le-zero}
use lib.ListN.{length, get_or, take, length-append}
use lib.Seq.{take_all, length-take-le}
use lib.Dec.{leb, eqb}
use borrow.Author.Tests.{leb-true, le-leb, lt-leb, eqb-true, eqb-false, eq-eqb, ne_eqb}
use Rattle.sim0mq.specs.Answer.{Answer, fine, refused}
use Rattle.sim0mq.specs.Table.{placed}
use Rattle.sim0mq.specs.Message.{limit}
use Rattle.sim0mq.proofs.Answers.{fine_eq, guarded, and_true}
use Rattle.sim0mq.proofs.PlaceLaws.{placed_nothing, placed_length, placed_on}
use Rattle.sim0mq_buffers.specs.Placing.{put_in}
use Rattle.sim0mq_buffers.proofs.PlaceLaws.{put_fits}
use Rattle.sim0mq_numbers.specs.Bytes.{big_bytes}
use Rattle.writing_opening.specs.Opening.{buffer_after}
use Rattle.writing_puts.proofs.PlaceLaws.{big_length}
use Rattle.sim0mq.specs.Allowed.{Each, none, more}
use Rattle.dividing.specs.Front.{Taken}
use Rattle.dividing.specs.Run.{total}
use Rattle.dividing.proofs.FrontLaws.{taken_short}
use Rattle.recordings_format.specs.Edition.{Edition, newest, editions, Listed, entry_size, most_messages, trailer_size}
use Rattle.recordings_format.specs.Text.{entry_text, index_text, trailer_text, tail_text, HasTail}
use Rattle.recordings_format.proofs.EditionLaws.{newest_most, listed_row}
use Rattle.recordings_format.proofs.IndexLaws.{total_nth, total_more}
use Rattle.recordings_format.proofs.TextLaws.{entry_long, index_long, trailer_long, tail_long, Short, lengths_fit_lem, places_fit_lem}
use Rattle.recordings_tails.specs.Tails.{room_for, short, come, tailing, length_after, Indexable}

-- a text, and then a number where it ends
text_put : (out one two text : List ℕ) (p q m y : ℕ) → q ≡ p + length text → q + m ≤ length out → one ≡ placed out p text
    → two ≡ put_in one q (big_bytes m y) → two ≡ placed out p (text ++ big_bytes m y)
text_put out one two text p q m y e h a b =
    let long : length one ≡ length out = ap length a ∙ placed_length out p text (omega arith) in
    b
    ∙ put_fits one q (big_bytes m y) (omega (arith, big_length m y))
    ∙ ap (λ (l : List ℕ). placed l q (big_bytes m y)) a
    ∙ placed_on out p text (big_bytes m y) q e (omega (arith, big_length m y))

-- two numbers, the second where the first ends
pub two_put : (out one two : List ℕ) (p n x m y : ℕ) → p + (n + m) ≤ length out → one ≡ put_in out p (big_bytes n x)
    → two ≡ put_in one (p + n) (big_bytes m y) → two ≡ placed out p (big_bytes n x ++ big_bytes m y)
two_put out one two p n x m y h a b =
    let first : one ≡ placed out p (big_bytes n x)
    = a ∙ put_fits out p (big_bytes n x) (omega (arith, big_length n x)) in
    text_put out one two (big_bytes n x) p (p + n) m y (omega (arith, big_length n x)) (omega arith) first b

pub trailer_put : (out one two three : List ℕ) (p place n : ℕ) → p + trailer_size ≤ length out
    → one ≡ put_in out p (big_bytes 4 place) → two ≡ put_in one (p + 4) (big_bytes 4 n)
    → three ≡ put_in two (p + 8) (big_bytes 2 newest.number) → three ≡ placed out p (trailer_text newest place n)
unfolding trailer_size
trailer_put out one two three p place n h a b c =
    let number = newest.number in
    let both = big_bytes 4 place ++ big_bytes 4 n in
    let long : length both ≡ 8
    = omega (arith, length-append (big_bytes 4 place) (big_bytes 4 n), big_length 4 place, big_length 4 n) in
    text_put out two three both p (p + 8) 2 number (omega arith) (omega arith)
    (two_put out one two p 4 place 4 n (omega arith) a b) c
    ∙ ap (placed out p) (append_assoc (big_bytes 4 place) (big_bytes 4 n) (big_bytes 2 number))

-- the index of the first k + 1 lengths
index_step : (e : Edition) (at : ℕ) (ns : List ℕ) (k : ℕ) → k < length ns
    → index_text e at (take (suc k) ns) ≡ index_text e at (take k ns) ++ entry_text e (at + total (take k ns)) (get_or ns k 0)
unfolding index_text total
index_step e at [] k h = absurd (not-suc-le-zero h)
index_step e at (n ∷ ns) zero h =
    append-nil (entry_text e at n) ∙ ap (λ (p : ℕ). entry_text e p n) (sym (add-zero at))
index_step e at (n ∷ ns) (suc k) h =
    let first = entry_text e at n in
    let size = get_or ns k 0 in
    let before = index_text e (at + n) (take k ns) in
    let start : at + n + total (take k ns) ≡ at + (n + total (take k ns)) = omega arith in
    ap (λ (l : List ℕ). first ++ l) (index_step e (at + n) ns k (omega arith) ∙ ap (λ (p : ℕ). before ++ entry_text e p size) start)
    ∙ sym (append_assoc first before (entry_text e (at + (n + total (take k ns))) size))

-- a length that is too long, and none
short_nth : (e : Edition) (ns : List ℕ) (k : ℕ) → k < length ns → e.most < get_or ns k 0 → short e ns ≡ false
unfolding short
short_nth e [] k h over = absurd (not-suc-le-zero h)
short_nth e (n ∷ ns) zero h over = simp (lt-leb n e.most over)
short_nth e (n ∷ ns) (suc k) h over = rw (short_nth e ns k (omega arith) over) (and-false (leb n e.most))

short_step : (e : Edition) (ns : List ℕ) (k : ℕ) → k < length ns → get_or ns k 0 ≤ e.most → short e (take k ns) ≡ true
    → short e (take (suc k) ns) ≡ true
unfolding short
short_step e [] k h fits s = absurd (not-suc-le-zero h)
short_step e (n ∷ ns) zero h fits s = simp (le-leb n e.most fits)
short_step e (n ∷ ns) (suc k) h fits s =
    let both = and_true (leb n e.most) (short e (take k ns)) s in
    simp (both.0, short_step e ns k (omega arith) fits both.1)

-- the loop over the lengths: the first k are short, and what is left of `at` once they are taken off
pub record Counts (ns : List ℕ) (at left k : ℕ) : Type 0 where
  pub few : k ≤ length ns
  pub brief : short newest (take k ns) ≡ true
  pub sum : total (take k ns) + left ≡ at

pub counts_start : (ns : List ℕ) (at : ℕ) → Counts ns at at 0
unfolding total short
counts_start ns at = record { few = omega arith; brief = refl; sum = omega arith }

module _ {ns : List ℕ} {at left k : ℕ} (c : Counts ns at left k) where
  pub counts_long : k < length ns → limit < get_or ns k 0 → false ≡ come newest ns at
  counts_long h over =
      let long : newest.most < get_or ns k 0 = omega (arith, newest_most) in
      sym (simp (short_nth newest ns k h long))

  pub counts_over : k < length ns → left < get_or ns k 0 → false ≡ come newest ns at
  counts_over h over =
      let sum = c.sum in
      let other : eqb (total ns) at ≡ false = ne_eqb (total ns) at (λ e. omega (arith, total_nth ns k h)) in
      sym (rw other (and-false (short newest ns)))

  pub counts_turn : (size : ℕ) → k < length ns → size ≡ get_or ns k 0 → size ≤ limit → size ≤ left
      → Counts ns at (left - size) (k + 1)
  counts_turn size h is fits there =
      let sum = c.sum in
      let next : take (suc k) ns ≡ take (k + 1) ns = ap (λ (i : ℕ). take i ns) (sym (add-one k)) in
      let brief = short_step newest ns k h (omega (arith, newest_most)) c.brief in
      record {
        few = omega arith;
        brief = subst (λ (l : List ℕ). short newest l ≡ true) next brief;
        sum = omega (arith, ap total next, total_more ns k h);
      }

  pub counts_end : length ns ≤ k → eqb left 0 ≡ come newest ns at
  counts_end h =
      let brief : short newest ns ≡ true
      = subst (λ (l : List ℕ). short newest l ≡ true) (take_all k ns h) c.brief in
      go (eqb left 0) refl ∙ sym (simp brief)
    where
      all : total ns + left ≡ at
      all = ap (λ (l : List ℕ). total l + left) (sym (take_all k ns h)) ∙ c.sum

      go : (t : Bool) → eqb left 0 ≡ t → eqb left 0 ≡ eqb (total ns) at
      go true e = e ∙ sym (eq-eqb (total ns) at (omega (arith, eqb-true left 0 e, all)))
      go false e = e ∙ sym (ne_eqb (total ns) at (λ q. eqb-false left 0 e (omega (arith, all))))

-- the loop over the entries: those of the first k lengths are put
pub record Puts (ns : List ℕ) (at : ℕ) (out₀ out : List ℕ) (p start k : ℕ) : Type 0 where
  pub few : k ≤ length ns
  pub place : p ≡ at + entry_size newest * k
  pub begin : start ≡ total (take k ns)
  pub long : length out ≡ length out₀
  pub here : out ≡ placed out₀ at (index_text newest 0 (take k ns))

pub puts_start : (ns : List ℕ) (at : ℕ) (out : List ℕ) → Puts ns at out out at 0 0
unfolding index_text total
puts_start ns at out =
    record { few = omega arith; place = omega arith; begin = refl; long = refl; here = placed_nothing out at }

module _ {ns : List ℕ} {at : ℕ} {out₀ out : List ℕ} {p start k : ℕ} (i : Indexable ns at (length out₀))
    (u : Puts ns at out₀ out p start k) where
  pub puts_within : k < length ns → start + get_or ns k 0 ≤ at
  puts_within h = let begin = u.begin in let ends = i.ends in omega (arith, total_nth ns k h)

  pub puts_turn : (next : List ℕ) (size : ℕ) → k < length ns → size ≡ get_or ns k 0 → next ≡ placed out p (entry_text newest start size)
      → Puts ns at out₀ next (p + entry_size newest) (start + size) (k + 1)
  puts_turn next size h is e =
      let place = u.place in
      let begin = u.begin in
      let fits = i.fits in
      let long = u.long in
      let before = take k ns in
      let sized : length before ≡ k = length-take-le k ns (omega arith) in
      let ix = index_text newest 0 before in
      let entry = entry_text newest start size in
      let after : take (k + 1) ns ≡ take (suc k) ns = ap (λ (j : ℕ). take j ns) (add-one k) in
      let at-index : p ≡ at + length ix = omega (arith, index_long newest 0 before) in
      let text : ix ++ entry ≡ index_text newest 0 (take (k + 1) ns)
      =
      ap (λ (n : ℕ). ix ++ entry_text newest start n) is
      ∙ ap (λ (n : ℕ). ix ++ entry_text newest n (get_or ns k 0)) (begin ∙ omega arith)
      ∙ sym (index_step newest 0 ns k h)
      ∙ ap (index_text newest 0) (sym after) in
      record {
        few = omega arith;
        place = omega arith;
        begin = omega (arith, ap total after, total_more ns k h);
        long = ap length e ∙ placed_length out p entry (omega (arith, entry_long newest start size)) ∙ long;
        here =
            e
            ∙ ap (λ (l : List ℕ). placed l p entry) u.here
            ∙ placed_on out₀ at ix entry p at-index (omega (arith, entry_long newest start size))
            ∙ ap (placed out₀ at) text;
      }

  pub puts_end : length ns ≤ k → out ≡ placed out₀ at (index_text newest 0 ns)
  puts_end h = u.here ∙ ap (λ (l : List ℕ). placed out₀ at (index_text newest 0 l)) (take_all k ns h)

-- the index, and the trailer where it ends
tail_put : (out one two ns : List ℕ) (at p : ℕ) → Indexable ns at (length out) → one ≡ placed out at (index_text newest 0 ns)
    → p ≡ at + entry_size newest * length ns → two ≡ placed one p (trailer_text newest at (length ns)) → p + trailer_size ≤ length out
    → two ≡ placed out at (tail_text newest ns)
tail_put out one two ns at p i a e b fits =
    let ix = index_text newest 0 ns in
    let last = trailer_text newest at (length ns) in
    b
    ∙ ap (λ (l : List ℕ). placed l p last) a
    ∙ placed_on out at ix last p (omega (arith, index_long newest 0 ns)) (omega (arith, trailer_long newest at (length ns)))
    ∙ ap (λ (k : ℕ). placed out at (ix ++ trailer_text newest k (length ns))) (sym i.ends)

-- whether a text has room
module _ (written room : ℕ) (text : List ℕ) where
  pub room_over : room < written + length text → room_for written room text ≡ refused 14 0
  unfolding room_for
  room_over h = simp (lt-leb (written + length text) room h)

  pub room_fits : written + length text ≤ room → room_for written room text ≡ fine text
  unfolding room_for
  room_fits h = simp (le-leb (written + length text) room h)

-- messages that come to `at` end there
pub come_ends : (e : Edition) (ns : List ℕ) (at : ℕ) → come e ns at ≡ true → total ns ≡ at
come_ends e ns at h = eqb-true (total ns) at (and_true (short e ns) (eqb (total ns) at) h).1

-- and messages that are taken come to their end
taken_short_all : (e : Edition) (ms : List (List ℕ)) → Each (Taken e.most) ms → short e (map length ms) ≡ true
unfolding short
taken_short_all e [] none = refl
taken_short_all e (m ∷ ms) (more t ts) =
    simp (le-leb (length m) e.most (taken_short e.most m t), taken_short_all e ms ts)

pub taken_come : (e : Edition) (ms : List (List ℕ)) (ns : List ℕ) (at : ℕ) → Each (Taken e.most) ms
    → map length ms ≡ ns → total ns ≡ at → come e ns at ≡ true
taken_come e ms ns at each lengths ends =
    let brief = subst (λ (l : List ℕ). short e l ≡ true) lengths (taken_short_all e ms each) in
    simp (brief, eq-eqb (total ns) at ends)

-- how a tail is judged
module _ (e : Edition) (ns : List ℕ) (at room : ℕ) (few : length ns ≤ most_messages) (ends : come e ns at ≡ true) where
  pub tailing-room : tailing e ns at room ≡ room_for at room (tail_text e ns)
  unfolding tailing
  tailing-room = simp (le-leb (length ns) most_messages few, ends)

  pub tailing-over : room < at + (entry_size e * length ns + trailer_size) → tailing e ns at room ≡ refused 14 0
  tailing-over h = tailing-room ∙ room_over at room (tail_text e ns) (omega (arith, tail_long e ns))

  tailing-fits : at + (entry_size e * length ns + trailer_size) ≤ room → tailing e ns at room ≡ fine (tail_text e ns)
  tailing-fits h = tailing-room ∙ room_fits at room (tail_text e ns) (omega (arith, tail_long e ns))

-- a tail that was refused leaves the buffer
pub tail_refused : (out : List ℕ) (at : ℕ) (a : Answer (List ℕ)) (k p : ℕ) (said : Answer ℕ) → a ≡ refused k p
    → said ≡ refused k p → (said ≡ length_after at a) × (out ≡ buffer_after out at a)
tail_refused out at a k p said e is = (is ∙ sym (ap (length_after at) e), sym (ap (buffer_after out at) e))

-- a tail that was put is the one that the definition grants
pub tail_written : (out one two ns : List ℕ) (at p : ℕ) → length ns ≤ most_messages → come newest ns at ≡ true
    → p ≡ at + entry_size newest * length ns → p + trailer_size ≤ length out → one ≡ placed out at (index_text newest 0 ns)
    → two ≡ placed one p (trailer_text newest at (length ns))
    → (fine (p + trailer_size) ≡ length_after at (tailing newest ns at (length out)))
    × (two ≡ buffer_after out at (tailing newest ns at (length out)))
tail_written out one two ns at p few ends e fits a b =
    let room : Indexable ns at (length out) = record { ends = come_ends newest ns at ends; fits = omega arith } in
    let whole : p + trailer_size ≡ at + length (tail_text newest ns) = omega (arith, tail_long newest ns) in
    let granted = tailing-fits newest ns at (length out) few ends (omega arith) in (
      ap fine whole ∙ sym (ap (length_after at) granted),
      tail_put out one two ns at p room a e b fits ∙ sym (ap (buffer_after out at) granted),
    )

-- lengths that are short fit the bytes of a length, and the place that they come to fits four
short_each : (e : Edition) (ns : List ℕ) → short e ns ≡ true → Short e ns
unfolding short
short_each e [] h = none
short_each e (n ∷ ns) h =
    let both = and_true (leb n e.most) (short e ns) h in
    more (leb-true n e.most both.0) (short_each e ns both.1)

pub tailing_right : (e : Edition) (ns : List ℕ) (at room : ℕ) (front text : List ℕ) → Listed e editions
    → tailing e ns at room ≡ fine text → length front ≡ at → HasTail e ns (front ++ text)
unfolding tailing room_for
tailing_right e ns at room front text listed q long =
    let a = guarded (leb (length ns) most_messages && come e ns at) _ _ _ q in
    let b = and_true (leb (length ns) most_messages) (come e ns at) a.0 in
    let few = leb-true (length ns) most_messages b.0 in
    let brief = short_each e ns (and_true (short e ns) (eqb (total ns) at) b.1).0 in
    let c = guarded (leb (at + length (tail_text e ns)) room) _ _ _ a.1 in
    let row = listed_row e listed in
    record {
      listed = listed;
      few = few;
      lengths_fit = lengths_fit_lem e ns row brief;
      places_fit = places_fit_lem e ns row brief few;
      front = front;
      long = long ∙ sym (come_ends e ns at b.1);
      whole = ap (λ (l : List ℕ). front ++ l) (fine_eq c.1);
    }
