-- How trailer and index are judged together, by the last bytes of a file: an index that does not tile is refused by 18
-- as a wrong trailer is, and one that does comes to the trailer's own place and number.
use Prim.Native.Nat.{ℕ, ◌+◌, ◌-◌, ◌*◌, ◌≤◌}
use mathlib.Core.Path.{◌≡◌, refl, ap, ap₂, sym, ◌∙◌}
use mathlib.Core.Bool.{true, false, false≢true}
use mathlib.Core.List.{List}
use native.Mathlib.Omega.{arith}
use native.Mathlib.Nat.{zero-add}
use lib.ListN.{length}
use borrow.Author.Tests.{le-leb}
use Rattle.sim0mq.specs.Answer.{Answer, fine, refused}
use Rattle.dividing.specs.Run.{total}
use Rattle.recordings_format.specs.Edition.{trailer_size}
use Rattle.recordings_format.specs.Judge.{entries_from}
use Rattle.recordings_format.proofs.IndexLaws.{TrailerOf, numbers_say, entries_many}
use Rattle.recordings_format.proofs.RefusalLaws.{entries_eighteen}
use Rattle.recordings_index.specs.Tail.{there, trailer_in, entries_in, index_in}
use Rattle.recordings_index.specs.Index.{row_of, trailer_as, summed_in, Trailing, taken, tiled}
use Rattle.recordings_index.specs.declared.Trailer.{Trailer}

-- the trailer is there
module _ (n : ℕ) (tail : List ℕ) (file : trailer_size ≤ n) (ends : length tail ≤ n) (long : trailer_size ≤ length tail)
    {t : Trailer} (says : fine (trailer_as t) ≡ trailer_in n tail) where
  found : trailer_in n tail ≡ fine (trailer_as t)
  found = sym says

  told : TrailerOf (n - trailer_size) (trailer_as t)
  unfolding trailer_in
  told = numbers_say _ _ _ _ (trailer_as t) found

  fills : t.place + (4 + t.edition.wide) * t.entries + trailer_size ≡ n
  fills = go ((4 + t.edition.wide) * t.entries) told.fills
    where
      go : (x : ℕ) → t.place + x ≡ n - trailer_size → t.place + x + trailer_size ≡ n
      go x e = omega arith

  pub found-place : t.place ≤ n
  found-place = go ((4 + t.edition.wide) * t.entries) fills
    where
      go : (x : ℕ) → t.place + x + trailer_size ≡ n → t.place ≤ n
      go x e = omega arith

  -- and the first entry
  module _ (reach : n - t.place ≤ length tail) where
    abbrev from : ℕ
    from = length tail - (n - t.place)

    pub found-trailing : Trailing tail t.edition.wide from t.entries
    found-trailing =
        record {
          few = told.few;
          narrow = told.row.narrow;
          fills = go ((4 + t.edition.wide) * t.entries) fills;
        }
      where
        go : (x : ℕ) → t.place + x + trailer_size ≡ n → length tail - (n - t.place) + x + trailer_size ≡ length tail
        go x e = omega arith

    judged : index_in n tail ≡ entries_in n tail (trailer_as t)
    unfolding index_in
    judged =
        simp (
          le-leb trailer_size n file,
          le-leb (length tail) n ends,
          le-leb trailer_size (length tail) long,
          found,
          le-leb (n - t.place) (length tail) reach,
        )

    abbrev entries : Answer (List ℕ)
    entries = entries_from tail t.edition.wide t.entries from 0 t.place

    pub tail-untiled : tiled tail t.edition.wide from t.entries t.place ≡ false
        → refused 18 0 ≡ summed_in (index_in n tail)
    unfolding entries_in tiled
    tail-untiled h = go entries refl h
      where
        go : (a : Answer (List ℕ)) → entries ≡ a → taken a ≡ false → refused 18 0 ≡ summed_in (index_in n tail)
        go (fine ns) q f = absurd (false≢true (sym f))
        go (refused k p) q f =
            let r = entries_eighteen tail t.edition.wide t.entries from 0 t.place k p q in
            sym (ap summed_in judged ∙ simp q (ap₂ refused r.0 r.1))

    pub tail-tiled : tiled tail t.edition.wide from t.entries t.place ≡ true
        → fine (there (trailer_as t)) ≡ summed_in (index_in n tail)
    unfolding entries_in tiled
    tail-tiled h = go entries refl h
      where
        go : (a : Answer (List ℕ)) → entries ≡ a → taken a ≡ true
            → fine (there (trailer_as t)) ≡ summed_in (index_in n tail)
        go (refused k p) q f = absurd (false≢true f)
        go (fine ns) q f =
            let m = entries_many tail t.edition.wide t.entries from 0 t.place ns q in
            let place : total ns ≡ t.place = sym (zero-add (total ns)) ∙ m.1 in
            sym
            (ap summed_in judged
            ∙ simp q
            (λ i. fine (there (record { edition = row_of t.edition; place = place i; entries = m.0 i }))))
