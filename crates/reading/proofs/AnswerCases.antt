-- How reading answers, case by case: what stands before the payload, and the payload after it.
use Prim.Native.Nat.{ℕ, ◌+◌, ◌*◌, ◌≤◌}
use mathlib.Core.Path.{◌≡◌, refl, ap, sym, ◌∙◌, subst}
use mathlib.Core.Bool.{true}
use mathlib.Core.List.{List, [], ◌∷◌, ◌++◌, map}
use native.Mathlib.Omega.{arith}
use lib.ListN.{length, take, drop, length-map, length-append}
use lib.Seq.{take_at}
use borrow.Author.Tests.{leb-true}
use Rattle.sim0mq.specs.Answer as S
use Rattle.sim0mq.specs.Answer.{fine, refused, part_at}
use Rattle.sim0mq.specs.Field.{Field}
use Rattle.sim0mq.specs.Payload.{payload, moved, steps}
use Rattle.sim0mq.specs.Table.{row, rows, row_size, stored}
use Rattle.sim0mq.specs.Header.{Header, most_fields, header}
use Rattle.sim0mq.specs.Message as M
use Rattle.sim0mq.specs.Message.{limit, enough, reading_of, steps_of, reading, table_after}
use Rattle.sim0mq.specs.Demand2.{cut_frames}
use Rattle.sim0mq.proofs.Answers.{not_fine}
use Rattle.sim0mq.proofs.HeaderLaws.{header_sound}
use Rattle.reading_payload.specs.Parts.{payload_steps}
use Rattle.reading_payload.specs.Kept.{kept_of}
use Rattle.reading_payload.proofs.PayloadCases.{at-stopped, at-taken}
use Rattle.reading_payload.proofs.KeptLaws.{payload_many, kept_rows}
use Rattle.sim0mq_numbers.specs.Numbers.{Below}
use Rattle.std.specs.Prelude.{Result, Ok, Err}
use Rattle.sim0mq.specs.declared.Refusal.{Refusal}
use Rattle.reading_header.specs.declared.Frame.{Frame}
use Rattle.reading_header.specs.Frames.{framed}
use Rattle.reading.specs.Rows.{rows_after, filled, Fillable}
use Rattle.reading_front.specs.Front.{front_of}
use Rattle.reading_front.proofs.FrontCases.{reading_closed, open-parts, open-within, open-reading, open-refused, open-accepted}
use Rattle.reading.specs.Answers.{answered, refused_at, answer_of}

-- the eight frames, and the steps of fields that are moved
header_eight : (s : List ℕ) (h : Header) → header s ≡ fine h → length h.frames ≡ 8
unfolding cut_frames
header_eight s h e = ap (λ (x : Header). length x.frames) (header_sound s h e).says

steps_moved : (b : ℕ) (fs : List Field) → steps (map (moved b) fs) ≡ steps fs
unfolding steps moved
steps_moved b [] = refl
steps_moved b (f ∷ fs) = ap (λ (k : ℕ). 1 + f.marked + k) (steps_moved b fs)

-- no more steps than bytes, of which there are no more than the limit
pub below_most : (n : ℕ) (j : Result ℕ Refusal) → n ≤ limit → Below (n + 1) j → Below (limit + 1) j
below_most n (Ok k) h b = omega arith
below_most n (Err r) h b = tt

-- where what stands before the payload is refused
module _ (lent : M.Lent) (s : List ℕ) where
  pub closed_answer : (k p : ℕ) → front_of lent s ≡ refused k p → refused_at k p ≡ answered (reading lent s)
  closed_answer k p e = sym (ap answered (reading_closed lent s k p e))

  pub closed_table : (t : List ℕ) (k p : ℕ) → front_of lent s ≡ refused k p → t ≡ table_after t (reading lent s)
  unfolding table_after
  closed_table t k p e = sym (ap (table_after t) (reading_closed lent s k p e))

  -- where it is not
  module _ (h : Header) (a : front_of lent s ≡ fine h) where
    counts : (fs : List Field) (k : ℕ) → steps fs ≡ k → 8 + k ≡ steps_of (reading_of s h fs)
    unfolding steps_of
    counts fs k e = rw (header_eight s h (open-parts lent s h a).1, steps_moved h.next fs, e)

    -- with the numbers that the code has of it
    module _ (n next : ℕ) (p : h.fields ≡ n) (q : h.next ≡ next) where
      pub open-fillable : (r : ℕ) → lent ≡ M.table r → Fillable s next n (most_fields * row_size) r
      unfolding enough row_size
      open-fillable r e =
          let w = open-within lent s h a n next p q in
          let most = w.2 in
          record { short = w.0; within = w.1; keeps = omega arith; room = leb-true _ _ (subst (λ (x : M.Lent). enough x n ≡ true) e w.3) }

      pub open-answer : (frames : List Frame) → frames ≡ map framed h.frames
          → answer_of (length s) frames n (payload_steps s next n) ≡ answered (reading lent s)
      open-answer frames f = go (payload_steps s next n) refl
        where
          go : (b : S.Answer ℕ) → payload_steps s next n ≡ b → answer_of (length s) frames n (payload_steps s next n) ≡ answered (reading lent s)
          go (refused k w) e = ap (answer_of (length s) frames n) e ∙ sym (ap answered (open-refused lent s h a n next p q k w e))
          go (fine k) e =
              let r = open-accepted lent s h a n next p q k e in
              let many : n ≡ length (map (moved h.next) r.0) = sym (length-map r.0 (moved h.next) ∙ payload_many (drop next s) n r.0 r.1) in
              let counted : 8 + k ≡ steps_of (reading_of s h r.0) = counts r.0 k r.3 in
              ap (answer_of (length s) frames n) e
              ∙ (λ i. record { said = fine (record { length = length s; fields = many i; steps = counted i }); frames = f i })
              ∙ sym (ap answered r.2)

      pub open-table : (t : List ℕ) → filled s next n t ≡ table_after t (reading lent s)
      unfolding filled rows_after table_after
      open-table t = go (payload (drop next s) n) refl
        where
          go : (b : S.Answer (List Field)) → payload (drop next s) n ≡ b → filled s next n t ≡ table_after t (reading lent s)
          go (fine fs) e = simp (open-reading lent s h a n next p q, e, q)
          go (refused k w) e = simp (open-reading lent s h a n next p q, e)

-- as many numbers as the fields have rows
rows_long : (fs : List Field) → length (rows fs) ≡ row_size * length fs
unfolding rows row row_size
rows_long [] = refl
rows_long (f ∷ fs) = omega (arith, length-append (row f) (rows fs), rows_long fs)

-- the table once the payload is judged: the kept rows are copied where it is accepted
module _ (s : List ℕ) (next n kept table : ℕ) (h : Fillable s next n kept table) (t : List ℕ) where
  pub fill_refused : (k w : ℕ) → payload_steps s next n ≡ refused k w → t ≡ filled s next n t
  unfolding filled rows_after
  fill_refused k w e = go (payload (drop next s) n) (at-stopped s next n h.within k w e)
    where
      go : (b : S.Answer (List Field)) → part_at next b ≡ refused k w → t ≡ rows_after t next b
      go (fine fs) e = absurd (not_fine (sym e))
      go (refused r v) e = refl

  pub fill_accepted : (k : ℕ) (l m t₁ : List ℕ) → payload_steps s next n ≡ fine k → kept ≡ length l → m ≡ kept_of s next n 0 l
      → t₁ ≡ stored t (take (row_size * n) m) → t₁ ≡ filled s next n t
  unfolding filled rows_after stored
  fill_accepted k l m t₁ e long d c =
      let a = at-taken s next n h.within k e in
      let fs = map (moved next) a.0 in
      let keeps = h.keeps in
      let kept-is : m ≡ rows fs ++ drop (length (rows fs)) l = d ∙ kept_rows s next n a.0 l a.1 h.short (omega arith) in
      let count : length fs ≡ n = length-map a.0 (moved next) ∙ payload_many (drop next s) n a.0 a.1 in
      let size : length (rows fs) ≡ row_size * n = rows_long fs ∙ ap (λ (j : ℕ). row_size * j) count in
      let front : take (row_size * n) m ≡ rows fs = ap (take (row_size * n)) kept-is ∙ take_at (rows fs) (drop (length (rows fs)) l) (row_size * n) size in
      c ∙ ap (λ (r : List ℕ). r ++ drop (length r) t) front ∙ sym (ap (rows_after t next) a.1)
