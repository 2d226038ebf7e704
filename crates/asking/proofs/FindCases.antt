-- Field k is the one whose row is kept: the fields before it are passed over, and after it there is no row left. The
-- row tells all of the field.
use Prim.Native.Nat.{ℕ, zero, suc, ◌+◌, ◌-◌, ◌*◌, ◌/◌, ◌≤◌, ◌<◌}
use mathlib.Core.Path.{◌≡◌, refl, ap, ap₂, sym, ◌∙◌}
use mathlib.Core.List.{List, [], ◌∷◌, ◌++◌, append-nil, map}
use native.Mathlib.Omega.{arith}
use lib.ListN.{length, drop, drop_of_length-le, length-map}
use lib.Seq.{sets, sets-eq}
use Rattle.sim0mq.specs.Answer.{fine, refused}
use Rattle.sim0mq.specs.Field.{Field}
use Rattle.sim0mq.specs.Payload.{moved}
use Rattle.sim0mq.specs.Header.{Header}
use Rattle.sim0mq.specs.Table.{row as row_of, row_size}
use Rattle.sim0mq.specs.Message.{no_table}
use Rattle.sim0mq.proofs.Answers.{fine_eq, not_fine}
use Rattle.reading_parts.specs.Kept.{kept_one, kept_all, rows_in}
use Rattle.reading_payload.specs.Parts.{payload_steps}
use Rattle.reading_payload.specs.Kept.{kept_of}
use Rattle.reading_parts.proofs.KeptCases.{rows_within, kept_before, kept_here, kept_full}
use Rattle.reading_payload.proofs.KeptLaws.{payload_many, front_accepted}
use Rattle.reading_front.specs.Front.{front_of}
use Rattle.reading_front.proofs.FrontCases.{reading_closed, open-within, open-refused, open-accepted}
use Rattle.asking.specs.Asking.{nth, asked, field_in}
use Rattle.asking.proofs.AskLaws.{asked_refused, asked_nth, nth_past, nth_finds}

-- a row stored over a row
sets_all : (kept : List ℕ) (f : Field) → length kept ≡ row_size → sets kept 0 (row_of f) ≡ row_of f
unfolding row_of row_size
sets_all kept f e = sets-eq (row_of f) kept 0 (omega arith) ∙ ap (λ (l : List ℕ). row_of f ++ l) (drop_of_length-le kept {i = 0 + row_size} (omega arith)) ∙ append-nil (row_of f)

-- with one row, nothing after field k is kept
kept_after : (k i : ℕ) (fs : List Field) (kept : List ℕ) → k < i → kept_all 1 k i fs kept ≡ kept
unfolding kept_all
kept_after k i [] kept h = refl
kept_after k i (f ∷ fs) kept h =
    kept_after k (i + 1) fs (kept_one 1 k i f kept) (omega arith) ∙ sym (kept_full 1 k i f kept (omega arith) (omega arith))

-- and nothing before it, so that its row is what is kept
kept_nth : (k i j : ℕ) (fs : List Field) (f : Field) (kept : List ℕ) → k ≡ i + j → nth fs j ≡ fine f → kept_all 1 k i fs kept ≡ sets kept 0 (row_of f)
unfolding kept_all nth row_size
kept_nth k i j [] f kept e q = absurd (not_fine q)
kept_nth k i zero (g ∷ fs) f kept e q =
    let place : row_size * (i - k) ≡ 0 = omega arith in
    kept_after k (i + 1) fs (kept_one 1 k i g kept) (omega arith)
    ∙ sym (kept_here 1 k i g kept (omega arith) (omega arith))
    ∙ ap (λ (p : ℕ). sets kept p (row_of g)) place
    ∙ ap (λ (x : Field). sets kept 0 (row_of x)) (fine_eq q)
kept_nth k i (suc j) (g ∷ fs) f kept e q =
    ap (λ (l : List ℕ). kept_all 1 k (i + 1) fs l) (sym (kept_before 1 k i g kept (omega arith))) ∙ kept_nth k (i + 1) j fs f kept (omega arith) q

-- field k of moved fields is field k, moved
nth_moved : (b k : ℕ) (fs : List Field) (f : Field) → nth fs k ≡ fine f → nth (map (moved b) fs) k ≡ fine (moved b f)
unfolding nth
nth_moved b k [] f e = absurd (not_fine e)
nth_moved b zero (g ∷ fs) f e = ap (λ (x : Field). fine (moved b x)) (fine_eq e)
nth_moved b (suc k) (g ∷ fs) f e = nth_moved b k fs f e

-- the field that its row tells
row_tells : (f : Field) → field_in (row_of f) ≡ f
unfolding row_of
row_tells f = refl

-- asking is reading, and then the field
module _ (s : List ℕ) (k : ℕ) where
  pub ask_closed : (r p : ℕ) → front_of no_table s ≡ refused r p → refused r p ≡ asked s k
  ask_closed r p e = sym (asked_refused s k r p (reading_closed no_table s r p e))

  module _ (h : Header) (a : front_of no_table s ≡ fine h) (n next : ℕ) (p : h.fields ≡ n) (q : h.next ≡ next) where
    pub ask-refused : (r w : ℕ) → payload_steps s next n ≡ refused r w → refused r w ≡ asked s k
    ask-refused r w e = sym (asked_refused s k r w (open-refused no_table s h a n next p q r w e))

    module _ (steps : ℕ) (e : payload_steps s next n ≡ fine steps) where
      pub ask-none : n ≤ k → refused 16 0 ≡ asked s k
      ask-none l =
          let r = open-accepted no_table s h a n next p q steps e in
          let many : length (map (moved h.next) r.0) ≡ n = length-map r.0 (moved h.next) ∙ payload_many (drop next s) n r.0 r.1 in
          sym (asked_nth s k _ r.2 ∙ nth_past (map (moved h.next) r.0) k (omega arith))

      -- the row that is kept of it
      pub ask-found : (kept row : List ℕ) → length kept ≡ row_size → row ≡ kept_of s next n k kept → k < n
          → fine (field_in row) ≡ asked s k
      unfolding kept_of row_size
      ask-found kept row long d l =
          let r = open-accepted no_table s h a n next p q steps e in
          let many : length r.0 ≡ n = payload_many (drop next s) n r.0 r.1 in
          let found = nth_finds r.0 k (omega arith) in
          let f = found.0 in
          let one : rows_in (length s) (length kept) ≡ 1 = sym (rows_within (length s) (length kept) (open-within no_table s h a n next p q).0) ∙ ap (λ (x : ℕ). x / row_size) long in
          let kept-is : kept_of s next n k kept ≡ sets kept 0 (row_of (moved next f))
          =
          ap₂ (λ (m : ℕ) (l : List Field). kept_all m k 0 (map (moved next) l) kept) one (front_accepted (drop next s) n r.0 r.1)
          ∙ kept_nth k 0 k (map (moved next) r.0) (moved next f) kept (omega arith) (nth_moved next k r.0 f found.1) in
          let row_is : row ≡ row_of (moved next f) = d ∙ kept-is ∙ sets_all kept (moved next f) long in
          let answer : asked s k ≡ fine (moved next f)
          = asked_nth s k _ r.2 ∙ ap (λ (b : ℕ). nth (map (moved b) r.0) k) q ∙ nth_moved next k r.0 f found.1 in
          ap (λ (l : List ℕ). fine (field_in l)) row_is ∙ ap fine (row_tells (moved next f)) ∙ sym answer
