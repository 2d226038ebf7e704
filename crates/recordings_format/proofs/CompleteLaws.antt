-- Every recording is opened: trailer and index are read as they were written, and each stretch is its message.
use Prim.Native.Nat.{ℕ, ◌+◌, ◌-◌, ◌*◌, ◌<◌, ◌≤◌, ◌^◌}
use mathlib.Core.Path.{◌≡◌, refl, ap, sym, subst}
use mathlib.Core.List.{List, [], ◌∷◌, ◌++◌, map, flat_map}
use native.Mathlib.Omega.{arith}
use native.Mathlib.Nat.{zero-add}
use lib.ListN.{length, take, drop, length-append}
use borrow.Author.Tests.{le-leb, eq-eqb}
use Rattle.sim0mq.specs.Answer.{fine, big}
use Rattle.sim0mq.specs.Message.{no_table}
use Rattle.sim0mq.specs.Allowed.{Each, none, more, joined}
use Rattle.sim0mq.proofs.Stands.{Stands, stands_to, stands_left, stands_right, stands_self, part_back}
use Rattle.sim0mq_numbers.specs.Bytes.{big_bytes}
use Rattle.writing_puts.proofs.PlaceLaws.{big_length}
use Rattle.writing_puts.proofs.NumberLaws.{number_read}
use Rattle.dividing.specs.Front.{Taken}
use Rattle.dividing.specs.Run.{total}
use Rattle.recordings_format.specs.Edition.{Edition, entry_size, most_messages, trailer_size}
use Rattle.recordings_format.specs.Text.{entry_text, index_text, trailer_text, tail_text, IsRecording, HasTail}
use Rattle.recordings_format.specs.Judge.{trailer_from, trailer_at, trailer, entries_from, index, stretch, stretches_from, roomy, opening}
use Rattle.recordings_format.proofs.EditionLaws.{Row, listed_row}
use Rattle.recordings_format.proofs.TextLaws.{entry_long, index_long, tail_long, recording_tail}

entries_complete : (s : List ℕ) (p at end : ℕ) (e : Edition) (ns : List ℕ) → Each (λ n. n < 2 ^ (8 * e.length_bytes)) ns
    → Stands s p (index_text e at ns) → at + total ns ≡ end → end < 2 ^ (8 * 4) → entries_from s e.length_bytes (length ns) p at end ≡ fine ns
unfolding entries_from index_text total
entries_complete s p at end e [] none st q h = simp (eq-eqb at end (omega arith))
entries_complete s p at end e (n ∷ ns) (more k ks) st q h =
    let entry = entry_text e at n in
    let rest = index_text e (at + n) ns in
    let here : Stands s p entry = stands_left entry rest st in
    let start : big s p 4 ≡ at
    = number_read 4 at (omega arith) (stands_left (big_bytes 4 at) (big_bytes e.length_bytes n) here) in
    let size : big s (p + 4) e.length_bytes ≡ n
    =
    number_read e.length_bytes n k
    (stands_to (p + 4) (omega (arith, big_length 4 at)) (stands_right (big_bytes 4 at) (big_bytes e.length_bytes n) here)) in
    let there : Stands s (p + entry_size e) rest
    = stands_to (p + entry_size e) (omega (arith, entry_long e at n)) (stands_right entry rest st) in
    let later = entries_complete s (p + entry_size e) (at + n) end e ns ks there (omega arith) h in
    simp (start, eq-eqb at at refl, size, later)

trailer_complete : (s : List ℕ) (at : ℕ) (e : Edition) (place n : ℕ) → Row e → place < 2 ^ (8 * 4) → n ≤ most_messages
    → Stands s at (trailer_text e place n) → place + entry_size e * n ≡ at
    → trailer_at s at ≡ fine (record { edition = e; place = place; entries = n })
unfolding trailer_from most_messages
trailer_complete s at e place n r fits few st q =
    let second = big_bytes 4 n ++ big_bytes 2 e.number in
    let from_count : Stands s (at + 4) second
    = stands_to (at + 4) (omega (arith, big_length 4 place)) (stands_right (big_bytes 4 place) second st) in
    let from_number : Stands s (at + 8) (big_bytes 2 e.number)
    =
    stands_to (at + 8) (omega (arith, big_length 4 n))
    (stands_right (big_bytes 4 n) (big_bytes 2 e.number) from_count) in
    let a : big s at 4 ≡ place = number_read 4 place fits (stands_left (big_bytes 4 place) second st) in
    let b : big s (at + 4) 4 ≡ n
    = number_read 4 n (omega arith) (stands_left (big_bytes 4 n) (big_bytes 2 e.number) from_count) in
    let c : big s (at + 8) 2 ≡ e.number = number_read 2 e.number r.numbered from_number in
    simp (a, b, c, r.found, le-leb n most_messages few, eq-eqb (place + entry_size e * n) at q)

stretches_complete : (s : List ℕ) (at : ℕ) (most : ℕ) (ms : List (List ℕ)) → Each (Taken most) ms → Stands s at (joined ms)
    → stretches_from most s at (map length ms) ≡ fine tt
unfolding stretches_from stretch flat_map
stretches_complete s at most [] none st = refl
stretches_complete s at most (m ∷ ms) (more t ts) st =
    let here : take (length m) (drop at s) ≡ m = part_back m (stands_left m (joined ms) st) in
    let later = stretches_complete s (at + length m) most ms ts (stands_right m (joined ms) st) in
    simp (here, t.1, later)

pub index_complete : (e : Edition) (ns : List ℕ) (s : List ℕ) → HasTail e ns s
    → index s ≡ fine (record { edition = e; lengths = ns })
unfolding index trailer
index_complete e ns s i =
    let front = i.front in
    let ix = index_text e 0 ns in
    let tr = trailer_text e (total ns) (length ns) in
    let r = listed_row e i.listed in
    let self : Stands s 0 (front ++ (ix ++ tr)) = subst (λ (t : List ℕ). Stands s 0 t) (sym i.whole) (stands_self s) in
    let tail : Stands s (total ns) (ix ++ tr)
    = stands_to (total ns) (omega (arith, i.long)) (stands_right front (ix ++ tr) self) in
    let at = length s - trailer_size in
    let long : length s ≡ total ns + entry_size e * length ns + trailer_size
    = omega (arith, ap length i.whole, length-append front (ix ++ tr), i.long, tail_long e ns) in
    let seam : total ns + entry_size e * length ns ≡ at = omega arith in
    let last : Stands s at tr
    = stands_to at (omega (arith, index_long e 0 ns)) (stands_right ix tr tail) in
    let t = trailer_complete s at e (total ns) (length ns) r i.places_fit i.few last seam in
    let en
    =
    entries_complete s (total ns) 0 (total ns) e ns i.lengths_fit (stands_left ix tr tail) (zero-add (total ns))
    i.places_fit in
    simp (le-leb trailer_size (length s) (omega arith), t, en)

pub opening_complete : (e : Edition) (ms : List (List ℕ)) (s : List ℕ) → IsRecording e ms s
    → opening no_table s ≡ fine (record { edition = e; lengths = map length ms })
unfolding opening roomy
opening_complete e ms s i =
    let tail = tail_text e (map length ms) in
    let self : Stands s 0 (joined ms ++ tail) = subst (λ (t : List ℕ). Stands s 0 t) (sym i.whole) (stands_self s) in
    simp (
      index_complete e (map length ms) s (recording_tail e ms s i),
      stretches_complete s 0 e.most ms i.each (stands_left (joined ms) tail self),
    )
