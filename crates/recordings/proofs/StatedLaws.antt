-- What a right trailer and index say of a message: its entry is there, states its start and its length, and the message
-- lies in the recording.
use Prim.Native.Nat.{ℕ, ◌+◌, ◌-◌, ◌*◌, ◌^◌, ◌≤◌, ◌<◌}
use mathlib.Core.Path.{◌≡◌, refl, ap, sym, ◌∙◌, subst}
use mathlib.Core.List.{List}
use native.Mathlib.Omega.{arith}
use lib.ListN.{length, take, get_or}
use Rattle.sim0mq.specs.Answer.{Answer, fine, refused}
use Rattle.sim0mq.specs.Message.{limit}
use Rattle.sim0mq.proofs.Answers.{not_fine, fine_eq}
use Rattle.dividing.specs.Run.{total}
use Rattle.recordings_format.specs.Edition as E
use Rattle.recordings_format.specs.Edition.{entry_size, most_messages, trailer_size}
use Rattle.recordings_format.specs.Judge as J
use Rattle.recordings_format.specs.Judge.{entries_from, Index, index}
use Rattle.recordings_format.proofs.IndexLaws.{Indexed, index_says, total_nth}
use Rattle.recordings_index.specs.Index.{row_of, trailer_as, summed, first_entry, entry_at, Trailing}
use Rattle.recordings_index.specs.declared.Trailer.{Trailer}
use Rattle.recordings_index.proofs.EntryCases.{four_bytes, entry_nth}
use Rattle.recordings.specs.Recordings.{Stated, lengths_in, entry_in}
use Rattle.recordings_index.specs.declared.Placed.{Placed}

-- what the index's judge found is stated
pub index_stated : (s : List ℕ) {t : Trailer} → fine (trailer_as t) ≡ summed (index s) → Stated s t
index_stated s {t} says = go (index s) refl (sym says)
  where
    go : (a : Answer Index) → index s ≡ a → summed a ≡ fine (trailer_as t) → Stated s t
    go (fine i) q e = record { found = i; is = q; says = fine_eq e }
    go (refused k p) q e = absurd (not_fine e)

module _ {s : List ℕ} {t : Trailer} (h : Stated s t) where
  -- the lengths, as the contracts name them
  pub stated_lengths : lengths_in (index s) ≡ h.found.lengths
  stated_lengths = ap lengths_in h.is

  indexed : Indexed s h.found
  indexed = index_says s h.found h.is

  edition : h.found.edition ≡ row_of t.edition
  edition = ap (λ (x : J.Trailer). x.edition) h.says

  pub stated_place : total h.found.lengths ≡ t.place
  stated_place = ap (λ (x : J.Trailer). x.place) h.says

  pub stated_many : length h.found.lengths ≡ t.entries
  stated_many = ap (λ (x : J.Trailer). x.entries) h.says

  pub stated_most : h.found.edition.most ≡ t.edition.most
  stated_most = ap (λ (x : E.Edition). x.most) edition

  pub stated_narrow : t.edition.wide ≤ 4
  stated_narrow = subst (λ (x : E.Edition). x.length_bytes ≤ 4) edition indexed.row.narrow

  pub stated_within : t.edition.most ≤ limit
  stated_within = subst (λ (x : E.Edition). x.most ≤ limit) edition indexed.row.within

  pub stated_few : t.entries ≤ most_messages
  stated_few = subst (λ (n : ℕ). n ≤ most_messages) stated_many indexed.few

  stated_fills : t.place + (4 + t.edition.wide) * t.entries + trailer_size ≡ length s
  stated_fills =
      sym (λ i. stated_place i + entry_size (edition i) * stated_many i + trailer_size) ∙ indexed.fills

  -- the first entry stands at the trailer's place, and the entries are the index's
  first : t.place ≡ first_entry (length s) s t
  first = go ((4 + t.edition.wide) * t.entries) stated_fills
    where
      go : (x : ℕ) → t.place + x + trailer_size ≡ length s → t.place ≡ length s - (length s - t.place)
      go x e = omega arith

  trailing : Trailing s t.edition.wide (first_entry (length s) s t) t.entries
  trailing =
      record {
        few = stated_few;
        narrow = stated_narrow;
        fills = ap (λ (p : ℕ). p + (4 + t.edition.wide) * t.entries + trailer_size) (sym first) ∙ stated_fills;
      }

  states : entries_from s t.edition.wide t.entries (first_entry (length s) s t) 0 t.place ≡ fine h.found.lengths
  states =
      ap (λ (p : ℕ). entries_from s t.edition.wide t.entries p 0 t.place) (sym first)
      ∙ sym (λ i. entries_from s (edition i).length_bytes (stated_many i) (stated_place i) 0 (stated_place i))
      ∙ indexed.states

  -- entry k is that of message k
  pub entry-stated : {k : ℕ} {m : Placed} → k < t.entries → m ≡ entry_at (length s) s t k
      → m ≡ entry_in (lengths_in (index s)) k
  entry-stated {k} f is =
      is
      ∙ entry_nth (length s) s t trailing f h.found.lengths states
      ∙ ap (λ (l : List ℕ). entry_in l k) (sym stated_lengths)

  -- the message that it states lies in the recording, and the edition's limit within reading's
  pub entry-lies : {k : ℕ} {m : Placed} → k < t.entries → m ≡ entry_in (lengths_in (index s)) k
      → (m.start + m.length ≤ length s) × (t.edition.most ≤ limit)
  entry-lies {k} {m} f is =
      let ns = h.found.lengths in
      let place = stated_place in
      let many = stated_many in
      let fills = stated_fills in
      let inside : total (take k ns) + get_or ns k 0 ≤ length s = omega (arith, total_nth ns k (omega arith)) in
      let named : m ≡ entry_in ns k = is ∙ ap (λ (l : List ℕ). entry_in l k) stated_lengths in
      (subst (λ (p : Placed). p.start + p.length ≤ length s) (sym named) inside, stated_within)

  -- its numbers fit 32 bits, as they are read from four bytes at most
  pub entry-narrow : {m : Placed} → (m.start < 256 ^ 4) × (m.length < 256 ^ t.edition.wide)
      → (m.start < 4294967296) × (m.length < 4294967296)
  entry-narrow {m} b = (four_bytes 4 m.start (omega arith) b.0, four_bytes t.edition.wide m.length stated_narrow b.1)
