-- What stands before the payload, case by case: the message's length, its header, and the table's room.
use Prim.Native.Nat.{ℕ, ◌/◌, ◌≤◌, ◌<◌}
use mathlib.Core.Path.{◌≡◌, refl, ap, sym, ◌∙◌, subst}
use mathlib.Core.Bool.{Bool, true, false}
use mathlib.Core.List.{List, map}
use native.Mathlib.Omega.{arith}
use native.Mathlib.Nat.{mul_comm}
use lib.ListN.{length, drop}
use lib.Dec.{leb, lit<}
use borrow.Author.Tests.{leb-true, le-leb, lt-leb}
use Rattle.sim0mq.specs.Answer as S
use Rattle.sim0mq.specs.Answer.{fine, refused, ◌>>=◌, part_at}
use Rattle.sim0mq.specs.Field.{Field}
use Rattle.sim0mq.specs.Payload.{payload, steps}
use Rattle.sim0mq.specs.Table.{row_size}
use Rattle.sim0mq.specs.Header.{Header, most_fields, fields_taken, header}
use Rattle.sim0mq.specs.Message as M
use Rattle.sim0mq.specs.Message.{limit, enough, reading_of, message_rest, message, reading}
use Rattle.sim0mq.proofs.Answers.{guarded, bind_fine, fine_eq, not_fine}
use Rattle.sim0mq.proofs.HeaderLaws.{header_sound}
use Rattle.sim0mq.proofs.Refusals.{header_within}
use Rattle.reading_values.proofs.ValueCases.{room_test}
use Rattle.reading_payload.specs.Parts.{payload_steps}
use Rattle.reading_payload.proofs.PayloadCases.{at-stopped, at-taken}
use Rattle.reading_header.specs.declared.Frame.{Frame}
use Rattle.reading_header.specs.declared.End.{End}
use Rattle.reading_header.specs.Frames.{framed, told}
use Rattle.reading_front.specs.Front.{front_of}

-- the room
pub enough_none : (n : ℕ) → true ≡ enough M.no_table n
unfolding enough
enough_none n = refl

pub enough_table : (r n : ℕ) → leb n (r / row_size) ≡ enough (M.table r) n
unfolding enough row_size
enough_table r n = room_test n row_size r row_size refl (lit< tt) ∙ ap (λ (k : ℕ). leb k r) (mul_comm n row_size)

-- what a header's answer says
module _ (frames : List Frame) where
  pub told_refused : (a : S.Answer Header) (k p : ℕ) → (told frames a).said ≡ refused k p → a ≡ refused k p
  told_refused (fine h) k p e = absurd (not_fine (sym e))
  told_refused (refused r w) k p e = cc

  pub told_accepted : (a : S.Answer Header) (n e : ℕ) → (told frames a).said ≡ fine (record { fields = n; next = e })
      → (h : Header) × (a ≡ fine h) × (h.fields ≡ n) × (h.next ≡ e) × ((told frames a).frames ≡ map framed h.frames)
  told_accepted (fine h) n e q =
      let same : ◌≡◌ {A = End} (record { fields = h.fields; next = h.next }) (record { fields = n; next = e }) = fine_eq q in
      (h, refl, ap (λ (x : End). x.fields) same, ap (λ (x : End). x.next) same, refl)
  told_accepted (refused k p) n e q = absurd (not_fine q)

-- a header declares no more fields than the most
header_most : (s : List ℕ) (h : Header) → header s ≡ fine h → h.fields ≤ most_fields
unfolding fields_taken
header_most s h e = leb-true _ most_fields (header_sound s h e).is.taken

-- what stands before the payload
module _ (lent : M.Lent) (s : List ℕ) where
  pub front_long : limit < length s → front_of lent s ≡ refused 8 0
  unfolding front_of
  front_long h = simp (lt-leb (length s) limit h)

  module _ (short : length s ≤ limit) where
    pub front_stop : (k p : ℕ) → header s ≡ refused k p → front_of lent s ≡ refused k p
    unfolding front_of
    front_stop k p e = simp (le-leb (length s) limit short, e)

    module _ (h : Header) (a : header s ≡ fine h) where
      pub front-room : enough lent h.fields ≡ false → front_of lent s ≡ refused 14 0
      unfolding front_of
      front-room e = simp (le-leb (length s) limit short, a, e)

      pub front-fine : enough lent h.fields ≡ true → front_of lent s ≡ fine h
      unfolding front_of
      front-fine e = simp (le-leb (length s) limit short, a, e)

  -- reading is that, and then the payload
  reading_front : reading lent s ≡ (front_of lent s >>= message_rest s)
  unfolding reading message front_of
  reading_front = by_length (leb (length s) limit) refl
    where
      Same : Type 0
      Same = reading lent s ≡ (front_of lent s >>= message_rest s)

      by-room : (h : Header) → leb (length s) limit ≡ true → header s ≡ fine h → (b : Bool) → enough lent h.fields ≡ b → Same
      by-room h l q true r = simp (l, q, r)
      by-room h l q false r = simp (l, q, r)

      by-header : leb (length s) limit ≡ true → (a : S.Answer Header) → header s ≡ a → Same
      by-header l (fine h) q = by-room h l q (enough lent h.fields) refl
      by-header l (refused k p) q = simp (l, q)

      by_length : (b : Bool) → leb (length s) limit ≡ b → Same
      by_length true l = by-header l (header s) refl
      by_length false l = simp l

  pub reading_closed : (k p : ℕ) → front_of lent s ≡ refused k p → reading lent s ≡ refused k p
  reading_closed k p e = reading_front ∙ simp e

  -- where it is not refused
  module _ (h : Header) (a : front_of lent s ≡ fine h) where
    pub open-parts : (length s ≤ limit) × (header s ≡ fine h) × (enough lent h.fields ≡ true)
    unfolding front_of
    open-parts =
        let b = guarded (leb (length s) limit) _ _ _ a in
        let c = bind_fine (header s) _ b.1 in
        let d = guarded (enough lent c.0.fields) _ _ _ c.2 in
        subst (λ (x : Header). (length s ≤ limit) × (header s ≡ fine x) × (enough lent x.fields ≡ true)) (fine_eq d.1)
        (leb-true _ _ b.0, c.1, d.0)

    -- with the numbers that the code has of it
    module _ (n next : ℕ) (p : h.fields ≡ n) (q : h.next ≡ next) where
      pub open-within : (length s ≤ limit) × (next ≤ length s) × (n ≤ most_fields) × (enough lent n ≡ true)
      open-within =
          let parts = open-parts in
          let within = header_within s h parts.1 in
          let most = header_most s h parts.1 in
          (parts.0, omega arith, omega arith, subst (λ (k : ℕ). enough lent k ≡ true) p parts.2)

      pub open-reading : reading lent s ≡ (part_at next (payload (drop next s) n) >>= (λ fs. fine (reading_of s h fs)))
      unfolding message_rest
      open-reading = reading_front ∙ simp (a, p, q)

      -- the payload's reader tells the rest
      pub open-refused : (k w : ℕ) → payload_steps s next n ≡ refused k w → reading lent s ≡ refused k w
      open-refused k w e = open-reading ∙ simp (at-stopped s next n open-within.1 k w e)

      pub open-accepted : (k : ℕ) → payload_steps s next n ≡ fine k
          → (fs : List Field) × (payload (drop next s) n ≡ fine fs) × (reading lent s ≡ fine (reading_of s h fs)) × (steps fs ≡ k)
      open-accepted k e = let a = at-taken s next n open-within.1 k e in (a.0, a.1, open-reading ∙ simp a.1, a.2)
