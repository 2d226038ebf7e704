-- The copies are made one after the other, each in the part of the output where its message stands: what is written so
-- far is the copies so far, and once the index and the trailer follow them it is the copy of the recording.
use Prim.Native.Nat.{ℕ, zero, suc, ◌+◌, ◌-◌, ◌≤◌, ◌<◌}
use mathlib.Core.Path.{◌≡◌, refl, ap, ap₂, sym, ◌∙◌, subst}
use mathlib.Core.List.{List, [], ◌∷◌, ◌++◌, map, flat_map, append_assoc, append-nil}
use native.Mathlib.Omega.{arith}
use native.Mathlib.Nat.{add-zero, zero-add, not-suc-le-zero}
use native.Mathlib.Numerals.{add-one}
use lib.ListN.{length, take, drop, get_or, length-append, length-drop, drop_of_length-le}
use lib.Seq.{take_all, drop-drop, length-take-le}
use lib.Dec.{leb}
use borrow.Author.Tests.{le-leb, lt-leb}
use borrow.Rule.Slice.PartMut.{mid_of, put_mid}
use Rattle.sim0mq.specs.Answer.{Answer, fine, refused, ◌>>=◌, ◌>>◌, guard, length_of}
use Rattle.sim0mq.specs.Message.{limit, no_table, reading}
use Rattle.sim0mq.specs.Blank.{blanking, output_after}
use Rattle.sim0mq.specs.Table.{placed, stored}
use Rattle.sim0mq.specs.Allowed.{joined}
use Rattle.sim0mq.proofs.Answers.{not_fine}
use Rattle.sim0mq.proofs.PlaceLaws.{placed_nothing, placed_length, placed_on}
use Rattle.sim0mq_buffers.specs.Placing.{put_in}
use Rattle.sim0mq_buffers.proofs.PlaceLaws.{put_fits}
use Rattle.dividing.specs.Front.{Taken}
use Rattle.dividing.specs.Run.{stretches, total}
use Rattle.recordings_format.specs.Judge.{Index, index, opening, placed_in}
use Rattle.recordings_format.proofs.IndexLaws.{total_more}
use Rattle.recordings_index.specs.Index.{entry_at}
use Rattle.recordings_index.specs.declared.Trailer.{Trailer}
use Rattle.recordings_index.specs.declared.Placed.{Placed}
use Rattle.recordings.specs.Recordings.{Stated, lengths_in, entry_in, count_of}
use Rattle.recordings.proofs.StatedLaws.{stated_lengths, stated_many, stated_place, entry-stated, entry-lies}
use Rattle.recordings_blanking.specs.Blanking.{copy_of, copies_in, blanked_recording, blanking_recording}
use Rattle.recordings_blanking.specs.Copying.{Accepted}
use Rattle.recordings_blanking.proofs.CopyLaws.{one_long, opened_index, opened_within, opened_nth, copy_blank, copies_are_long}

-- one copy more
copies_from : (s : List ℕ) (at : ℕ) (ns : List ℕ) (k : ℕ) → k < length ns
    → joined (map copy_of (stretches s at (take (suc k) ns)))
    ≡ joined (map copy_of (stretches s at (take k ns))) ++ copy_of (take (get_or ns k 0) (drop (at + total (take k ns)) s))
unfolding stretches total flat_map
copies_from s at [] k h = absurd (not-suc-le-zero h)
copies_from s at (n ∷ ns) zero h =
    append-nil (copy_of (take n (drop at s))) ∙ ap (λ (p : ℕ). copy_of (take n (drop p s))) (sym (add-zero at))
copies_from s at (n ∷ ns) (suc k) h =
    let one = copy_of (take n (drop at s)) in
    let sum : at + n + total (take k ns) ≡ at + (n + total (take k ns)) = omega arith in
    let before = joined (map copy_of (stretches s (at + n) (take k ns))) in
    ap (λ (l : List ℕ). one ++ l) (copies_from s (at + n) ns k (omega arith))
    ∙ ap (λ (p : ℕ). one ++ (before ++ copy_of (take (get_or ns k 0) (drop p s)))) sum
    ∙ sym (append_assoc one before (copy_of (take (get_or ns k 0) (drop (at + (n + total (take k ns))) s))))

copies_more : (s ns : List ℕ) (k at n : ℕ) → k < length ns → at ≡ total (take k ns) → n ≡ get_or ns k 0
    → copies_in s (take (k + 1) ns) ≡ copies_in s (take k ns) ++ copy_of (take n (drop at s))
unfolding copies_in
copies_more s ns k at n h p q =
    ap (λ (j : ℕ). joined (map copy_of (stretches s 0 (take j ns)))) (add-one k)
    ∙ copies_from s 0 ns k h
    ∙ ap₂ (λ (m a : ℕ). joined (map copy_of (stretches s 0 (take k ns))) ++ copy_of (take m (drop a s))) (sym q)
    (zero-add (total (take k ns)) ∙ sym p)

-- a message blanked where there is just room for it
blank_fits : (m mid : List ℕ) → Taken limit m → length mid ≡ length m → output_after mid (blanking (length mid) m) ≡ copy_of m
unfolding blanking output_after stored copy_of reading
blank_fits m mid t e =
    let copy = copy_of m in
    let long = one_long m t in
    let made : blanking (length mid) m ≡ fine copy = simp (t.1, le-leb (length m) (length mid) (omega arith)) in
    let past : drop (length copy) mid ≡ [] = drop_of_length-le mid {i = length copy} (omega arith) in
    ap (output_after mid) made ∙ ap (λ (l : List ℕ). copy ++ l) past ∙ append-nil copy

-- and that in a part of the output
blank_part : (m out part : List ℕ) (at n : ℕ) → Taken limit m → length m ≡ n → at + n ≤ length out
    → part ≡ output_after (mid_of at n out) (blanking (length (mid_of at n out)) m) → put_mid at n out part ≡ placed out at (copy_of m)
unfolding placed
blank_part m out part at n t long room e =
    let wide : length (mid_of at n out) ≡ n = length-take-le n (drop at out) (omega (arith, length-drop at out)) in
    let sized = one_long m t in
    let end : at + n ≡ at + length (copy_of m) = omega arith in
    let is : part ≡ copy_of m = e ∙ blank_fits m (mid_of at n out) t (omega arith) in
    ap (λ (l : List ℕ). take at out ++ (l ++ drop n (drop at out))) is
    ∙ ap (λ (l : List ℕ). take at out ++ (copy_of m ++ l)) (drop-drop n at out ∙ ap (λ (k : ℕ). drop k out) end)

-- the loop over the messages: the first k are copied
pub record Copying (s : List ℕ) (t : Trailer) (old new : List ℕ) (k : ℕ) : Type 0 where
  pub long : length new ≡ length old
  pub sized : length (copies_in s (take k (lengths_in (index s)))) ≡ total (take k (lengths_in (index s)))
  pub same : new ≡ placed old 0 (copies_in s (take k (lengths_in (index s))))

pub copying_start : (s : List ℕ) (t : Trailer) (old : List ℕ) → Copying s t old old 0
unfolding copies_in stretches total flat_map
copying_start s t old = record { long = refl; sized = refl; same = placed_nothing old 0 }

module _ {s : List ℕ} {t : Trailer} {old new : List ℕ} {k : ℕ} (asked : Accepted s t × (length s ≤ length old))
    (u : Copying s t old new k) where
  abbrev ns : List ℕ
  ns = lengths_in (index s)

  stated : lengths_in (index s) ≡ asked.0.stated.found.lengths
  stated = stated_lengths asked.0.stated

  many : length ns ≡ t.entries
  many = ap length stated ∙ stated_many asked.0.stated

  pub copying_end : t.entries ≤ k → new ≡ placed old 0 (copies_in s ns)
  copying_end e =
      let n = many in
      u.same ∙ ap (λ (l : List ℕ). placed old 0 (copies_in s l)) (take_all k ns (omega arith))

  module _ (f : k < t.entries) {m : Placed} (read : m ≡ entry_at (length s) s t k) where
    is : m ≡ entry_in ns k
    is = entry-stated asked.0.stated f read

    place : m.start ≡ total (take k ns)
    place = ap (λ (p : Placed). p.start) is

    size : m.length ≡ get_or ns k 0
    size = ap (λ (p : Placed). p.length) is

    pub copying-lies : m.start + m.length ≤ length s
    copying-lies = (entry-lies asked.0.stated f is).0

    abbrev message : List ℕ
    message = take m.length (drop m.start s)

    -- the message is accepted, and as long as its entry says
    taken : Taken limit message
    taken =
        let i = asked.0.stated.found in
        let some : k < length i.lengths = (let c = stated_many asked.0.stated in omega arith) in
        let there : ((placed_in i.lengths k).size ≡ m.length) × ((placed_in i.lengths k).start ≡ m.start)
        = (ap (λ (l : List ℕ). get_or l k 0) (sym stated) ∙ sym size, ap (λ (l : List ℕ). total (take k l)) (sym stated) ∙ sym place) in
        subst (λ (x : ℕ). Taken limit (take x (drop m.start s))) there.0
        (subst (λ (x : ℕ). Taken limit (take (placed_in i.lengths k).size (drop x s))) there.1
        (opened_nth s i asked.0.opened k some))

    pub copying-turn : (end : ℕ) (part next : List ℕ) → end ≡ m.start + m.length
        → part
        ≡ output_after (mid_of m.start (end - m.start) new)
        (blanking (length (mid_of m.start (end - m.start) new)) (take (end - m.start) (drop m.start s)))
        → next ≡ put_mid m.start (end - m.start) new part → Copying s t old next (k + 1)
    copying-turn end part next e made written_is =
        let at = m.start in
        let lies = copying-lies in
        let room = asked.1 in
        let kept = u.long in
        let size_is : end - at ≡ m.length = omega arith in
        let long : length message ≡ m.length
        = length-take-le m.length (drop at s) (omega (arith, length-drop at s)) in
        let copied = one_long message taken in
        let before = copies_in s (take k ns) in
        let sized = u.sized in
        let begins = place in
        let some : k < length ns = (let c = many in omega arith) in
        let all : copies_in s (take (k + 1) ns) ≡ before ++ copy_of message
        = copies_more s ns k at m.length some place size in
        let next_place : total (take (k + 1) ns) ≡ at + m.length
        = rw (add-one k) (total_more ns k some) ∙ (λ i. sym place i + sym size i) in
        let written : next ≡ placed new at (copy_of message)
        =
        written_is
        ∙ blank_part message new part at (end - at) taken (omega arith) (omega arith)
        (made
        ∙ ap (λ (j : ℕ). output_after (mid_of at (end - at) new) (blanking (length (mid_of at (end - at) new)) (take j (drop at s)))) size_is) in
        record {
          long = ap length written ∙ placed_length new at (copy_of message) (omega arith) ∙ kept;
          sized = ap length all ∙ length-append before (copy_of message) ∙ omega arith;
          same =
              written
              ∙ ap (λ (l : List ℕ). placed l at (copy_of message)) u.same
              ∙ placed_on old 0 before (copy_of message) at (omega arith) (omega arith)
              ∙ ap (placed old 0) (sym all);
        }

-- a recording that opens
module _ {s : List ℕ} {t : Trailer} (h : Stated s t) where
  pub opened_is : (n : ℕ) → fine n ≡ count_of (opening no_table s) → Accepted s t
  opened_is n q = record { stated = h; opened = go (opening no_table s) refl q }
    where
      go : (a : Answer Index) → opening no_table s ≡ a → fine n ≡ count_of a → a ≡ fine h.found
      go (fine i) e c = sym (opened_index s i e) ∙ h.is
      go (refused k p) e c = absurd (not_fine (sym c))

-- what the code answers, and the output then
module _ (s out : List ℕ) where
  abbrev answer : Answer (List ℕ)
  answer = blanking_recording (length out) s

  pub copied_refused : (k p : ℕ) → refused k p ≡ count_of (opening no_table s)
      → (refused k p ≡ length_of answer) × (out ≡ output_after out answer)
  unfolding blanking_recording output_after
  copied_refused k p q =
      let e = go (opening no_table s) q in (sym (ap length_of e), sym (ap (output_after out) e))
    where
      go : (a : Answer Index) → refused k p ≡ count_of a
          → (a >>= (λ i. guard (leb (length s) (length out)) 14 0 >> fine (blanked_recording s i.lengths))) ≡ refused k p
      go (fine i) e = absurd (not_fine e)
      go (refused j v) e = cc

  module _ {t : Trailer} (h : Accepted s t) where
    pub copied-short : length out < length s → (refused 14 0 ≡ length_of answer) × (out ≡ output_after out answer)
    unfolding blanking_recording output_after
    copied-short l =
        let e : answer ≡ refused 14 0 = simp (h.opened, lt-leb (length s) (length out) l) in
        (sym (ap length_of e), sym (ap (output_after out) e))

    pub copied-place : t.place ≤ length s
    copied-place =
        let place = stated_place h.stated in
        let within = opened_within s h.stated.found h.opened in
        omega arith

    pub copied-made : (mid new : List ℕ) → length s ≤ length out → mid ≡ placed out 0 (copies_in s (lengths_in (index s)))
        → new ≡ put_in mid t.place (take (length s - t.place) (drop t.place s))
        → (fine (length s) ≡ length_of answer) × (new ≡ output_after out answer)
    unfolding blanking_recording blanked_recording output_after stored placed
    copied-made mid new room is put =
        let i = h.stated.found in
        let ns = i.lengths in
        let place : total ns ≡ t.place = stated_place h.stated in
        let within = copied-place in
        let copies = copies_in s ns in
        let tail = drop (total ns) s in
        let copy = blanked_recording s ns in
        let long : length copy ≡ length s = (copy_blank s i h.opened).long in
        let front : length copies ≡ total ns = copies_are_long s i h.opened in
        let e : answer ≡ fine copy = simp (h.opened, le-leb (length s) (length out) room) in
        let rest : take (length s - t.place) (drop t.place s) ≡ tail
        =
        take_all (length s - t.place) (drop t.place s) (omega (arith, length-drop t.place s))
        ∙ ap (λ (p : ℕ). drop p s) (sym place) in
        let first : mid ≡ placed out 0 copies
        = is ∙ ap (λ (l : List ℕ). placed out 0 (copies_in s l)) (stated_lengths h.stated) in
        let kept : length mid ≡ length out
        = ap length first ∙ placed_length out 0 copies (omega arith) in
        let fits : total ns + length tail ≤ length mid = omega (arith, length-drop (total ns) s) in
        let whole : new ≡ placed out 0 copy
        =
        put
        ∙ ap₂ (λ (p : ℕ) (l : List ℕ). put_in mid p l) (sym place) rest
        ∙ put_fits mid (total ns) tail fits
        ∙ ap (λ (l : List ℕ). placed l (total ns) tail) first
        ∙ placed_on out 0 copies tail (total ns) (omega arith) (omega arith) in (
          ap fine (sym long) ∙ sym (ap length_of e),
          whole ∙ ap (λ (n : ℕ). copy ++ drop n out) (zero-add (length copy)) ∙ sym (ap (output_after out) e),
        )
