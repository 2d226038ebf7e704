-- The ledger looks at frames and fields of an accepted message, which were judged when it was read: so their outlines
-- are fine, a field of code 0 is its code and one byte, and each field begins where the one before it ends.
use Prim.Native.Nat.{ℕ, ◌+◌, ◌*◌, ◌≤◌}
use mathlib.Core.Path.{◌≡◌, refl, sym, ap, ◌∙◌, subst}
use mathlib.Core.Bool.{Bool, true, false, ◌||◌, false≢true}
use mathlib.Core.List.{List, [], ◌∷◌, flat_map}
use native.Mathlib.Omega.{arith}
use native.Mathlib.Nat.{add-zero}
use lib.ListN.{length}
use lib.Dec.{eqb}
use borrow.Author.Tests.{eqb-true}
use Rattle.sim0mq.specs.Answer.{Answer, fine, byte, big}
use Rattle.sim0mq.specs.Codes.{counts_of, marking_of, width_of}
use Rattle.sim0mq.specs.Field.{Field, outline, after}
use Rattle.sim0mq.specs.Header.{Header, frame, status_codes, count_codes, among}
use Rattle.sim0mq.specs.Message.{no_table, Reading, reading}
use Rattle.sim0mq.specs.Allowed.{FieldParts, field_bytes, joined, marks_asked, IsField}
use Rattle.sim0mq.specs.Demand2.{Tiles}
use Rattle.sim0mq.proofs.Answers.{fine_eq, not_fine}
use Rattle.sim0mq.proofs.Stands.{Stands}
use Rattle.sim0mq.proofs.FieldLaws.{after_at, field_at, field_complete}
use Rattle.sim0mq.proofs.HeaderLaws.{frame_sound, scalar_size}
use Rattle.sim0mq.proofs.Demand2.{fields_cover_the_payload}
use Rattle.sim0mq_numbers.specs.Numbers.{number_at}
use Rattle.sim0mq_numbers.proofs.NumberCases.{number_there}
use Rattle.asking.specs.Asking.{nth}
use Rattle.asking.proofs.AskLaws.{asked_nth, nth_finds}
use Rattle.asking.proofs.PartLaws.{asked_parts}
use Rattle.senders_book.specs.Taking.{frame_place}
use Rattle.senders_book.proofs.StampLaws.{field_outline, frame_outline, reading_frames}
use Rattle.ledger_decks.specs.Mustering.{following}
use Rattle.ledger_decks.specs.Promises.{DeckIsTheByte, FieldsFollowTheFrames}

-- ---- a field of code 0 is its code and one byte
none_joined : (l : List (List ℕ)) → length l ≡ 0 → length (joined l) ≡ 0
unfolding flat_map
none_joined [] e = refl
none_joined (x ∷ xs) e = absurd (omega arith)

byte_parts : (at : ℕ) (p : FieldParts) → IsField p → p.code ≡ 0
    → ((field_at at p).first ≡ at + 1) × ((field_at at p).size ≡ 1)
unfolding counts_of marking_of width_of marks_asked
byte_parts at p i c =
    let none : counts_of p.code ≡ 0 = ap counts_of c in
    let counts = none_joined p.counts (i.counted ∙ none) in
    let marks
    = none_joined p.marks (i.marked ∙ ap (λ (k : ℕ). marks_asked (marking_of k) p.counts) c) in
    (omega arith, scalar_size p i none ∙ ap width_of c)

one_byte : (s : List ℕ) (at first size : ℕ) → first ≡ at + 1 → size ≡ 1 → first + size ≤ length s
    → number_at s first size ≡ byte s (at + 1)
unfolding big
one_byte s at first size e d h =
    number_there s first size h (omega arith)
    ∙ (ap (big s first) d ∙ (ap (λ (n : ℕ). 0 * 256 + byte s n) (add-zero first ∙ e) ∙ omega arith))

byte_value : (s : List ℕ) (at : ℕ) (p : FieldParts) (x : Field) → IsField p → p.code ≡ 0 → Stands s at (field_bytes p)
    → x ≡ field_at at p → number_at s x.first x.size ≡ byte s (at + 1)
unfolding after
byte_value s at p x i c st e =
    let q = byte_parts at p i c in
    let first : x.first ≡ at + 1 = ap (λ (y : Field). y.first) e ∙ q.0 in
    let size : x.size ≡ 1 = ap (λ (y : Field). y.size) e ∙ q.1 in
    let end : x.first + x.size ≡ at + length (field_bytes p) = ap after e ∙ after_at at p in
    let fits = st.fits in
    one_byte s at x.first x.size first size (omega arith)

pub deck_is_the_byte : DeckIsTheByte
deck_is_the_byte s k f e c =
    let p = asked_parts s k f e in
    byte_value s f.place p.parts f p.is (ap (λ (x : Field). x.code) (sym p.says) ∙ c) p.there p.says

-- the status frame has the one type code 0
status_code : (c : ℕ) → among c status_codes ≡ true → c ≡ 0
unfolding among
status_code c e = go (eqb c 0) refl e
  where
    go : (t : Bool) → eqb c 0 ≡ t → (t || false) ≡ true → c ≡ 0
    go true q e = eqb-true c 0 q
    go false q e = absurd (false≢true e)

pub status_byte : (s : List ℕ) (at : ℕ) (g : Field) → frame s status_codes at ≡ fine g
    → number_at s g.first g.size ≡ byte s (at + 1)
status_byte s at g e =
    let a = frame_sound s status_codes at (λ (y : Field). fine y) {v = g} (rw e) in
    byte_value s at a.0 g a.1.is_field (status_code a.0.code a.1.allowed) a.2 (sym (fine_eq a.3))

-- ---- the fields, one after the other
tile_first : (at end : ℕ) (fs : List Field) (f : Field) → Tiles at fs end → nth fs 0 ≡ fine f → f.place ≡ at
unfolding Tiles nth
tile_first at end [] f t q = absurd (not_fine q)
tile_first at end (x ∷ xs) f t q = subst (λ (y : Field). y.place ≡ at) (fine_eq q) t.0

tile_second : (at end : ℕ) (fs : List Field) (f g : Field) → Tiles at fs end → nth fs 0 ≡ fine f → nth fs 1 ≡ fine g
    → g.place ≡ after f
unfolding Tiles nth
tile_second at end [] f g t q r = absurd (not_fine q)
tile_second at end (x ∷ xs) f g t q r = tile_first (after x) end xs g t.2 r ∙ ap after (fine_eq q)

-- a field that reading found is outlined at its place
nth_outline : (s : List ℕ) (m : Reading) (k : ℕ) (f : Field) → reading no_table s ≡ fine m → nth m.fields k ≡ fine f
    → outline s f.place ≡ fine f
nth_outline s m k f e q =
    let p = asked_parts s k f (asked_nth s k m e ∙ q) in
    field_outline s f.place f (field_complete p.parts p.is p.there ∙ ap fine (sym p.says))

follows : (s : List ℕ) (x : Answer Field) (c f : Field) → x ≡ fine c → after c ≡ f.place
    → outline s f.place ≡ fine f → following s x ≡ fine f
unfolding following
follows s x c f e p q = rw e (ap (outline s) p ∙ q)

pub fields_follow_the_frames : FieldsFollowTheFrames
fields_follow_the_frames s m e =
    let r = reading_frames s m e in
    let frames = r.2 in
    let covers = fields_cover_the_payload no_table s m e in
    let same : covers.head ≡ r.0 = fine_eq (sym covers.reads ∙ r.1) in
    let begins : after frames.many ≡ covers.head.next = frames.ends ∙ ap (λ (h : Header). h.next) (sym same) in
    let seven : outline s (frame_place m.frames 7) ≡ fine frames.many
    = frame_outline s count_codes (frame_place m.frames 7) frames.many frames.is_many in
    let first : (f : Field) → nth m.fields 0 ≡ fine f
    → following s (outline s (frame_place m.frames 7)) ≡ fine f
    = λ f q.
    follows s _ frames.many f seven (begins ∙ sym (tile_first _ _ m.fields f covers.tiles q))
    (nth_outline s m 0 f e q) in
    record {
      first = λ h. let f = nth_finds m.fields 0 h in first f.0 f.1 ∙ sym f.1;
      second =
          λ h.
          let f = nth_finds m.fields 0 (omega arith) in
          let g = nth_finds m.fields 1 h in
          follows s _ f.0 g.0 (first f.0 f.1)
          (sym (tile_second _ _ m.fields f.0 g.0 covers.tiles f.1 g.1))
          (nth_outline s m 1 g.0 e g.1)
          ∙ sym g.1;
    }
