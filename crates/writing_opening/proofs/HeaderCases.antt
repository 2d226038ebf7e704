-- How opening answers, case by case, in the words of the code's tests; its length is that of the header, whose pieces
-- stand one after the other.
use Prim.Native.Nat.{ℕ, zero, suc, ◌+◌, ◌-◌, ◌≤◌, ◌<◌}
use mathlib.Core.Path.{◌≡◌, refl, ap, sym, ◌∙◌}
use mathlib.Core.Bool.{Bool, true, false, ◌&&◌}
use mathlib.Core.List.{List, ◌++◌, append_assoc}
use native.Mathlib.Omega.{arith}
use Rattle.std.proofs.Math.Bool.{and-false}
use native.Mathlib.Numerals.{add-one}
use lib.IntN.{ℤ}
use lib.ListN.{length, length-append}
use lib.Dec.{leb}
use borrow.Author.Tests.{le-leb, lt-leb, lt-ltb, le-ltb, leb-true, ne_eqb}
use Rattle.sim0mq.specs.Answer.{Answer, fine, refused, ◌>>=◌, ◌>>◌, guard, length_of}
use Rattle.sim0mq.specs.Codes.{width_of}
use Rattle.sim0mq.specs.Field.{Field, after}
use Rattle.sim0mq.specs.Header.{id_codes, count_codes, among, status_taken, most_fields, fields_taken, frame}
use Rattle.sim0mq.specs.Message.{limit}
use Rattle.sim0mq.specs.Allowed.{frame0}
use Rattle.sim0mq.proofs.Answers.{not_fine, fine_eq, bind_fine, guarded}
use Rattle.sim0mq.proofs.Rows.{all_pass, pass_among, eight_wide}
use Rattle.reading_header.proofs.FrameCases.{nth_id, nth_goes}
use Rattle.sim0mq_signed.specs.Signed.{bits_of}
use Rattle.sim0mq.specs.Table.{placed}
use Rattle.sim0mq_buffers.specs.Placing.{put_in}
use Rattle.writing_puts.specs.Placing.{number_text}
use Rattle.writing_opening.specs.Opening.{ids_from, holds, header_with, fitting, header_given}
use Rattle.writing_opening.specs.Judges.{most_of, numbers_judged, opening_judged}
use Rattle.sim0mq.proofs.PlaceLaws.{placed_length, placed_on}
use Rattle.sim0mq_buffers.proofs.PlaceLaws.{put_fits}
use Rattle.writing_puts.proofs.PlaceLaws.{big_length}

-- the id frames from `at` on: a refused one, the next one, bytes after the last, no byte after it
module _ (s : List ℕ) (n at : ℕ) where
  pub ids_stop : (m k p : ℕ) → n ≡ m + 1 → frame s id_codes at ≡ refused k p → ids_from s n at ≡ refused k p
  unfolding ids_from
  ids_stop m k p e q = simp (e, add-one m, q)

  pub ids_more : (m : ℕ) (f : Field) → n ≡ m + 1 → frame s id_codes at ≡ fine f → ids_from s n at ≡ ids_from s m (after f)
  unfolding ids_from
  ids_more m f e q = simp (e, add-one m, q)

  pub ids_over : n ≡ 0 → at < length s → ids_from s n at ≡ refused 13 at
  unfolding ids_from
  ids_over e h = simp (e, lt-leb (length s) at h)

  pub ids_end : n ≡ 0 → length s ≤ at → ids_from s n at ≡ fine at
  unfolding ids_from
  ids_end e h = simp (e, le-leb (length s) at h)

pub id_goes : (s : List ℕ) (at : ℕ) (f : Field) → frame s id_codes at ≡ fine f → after f ≤ length s
id_goes s at f e = nth_goes s 1 at f (sym (nth_id s 1 at (omega arith)) ∙ e)

-- the single numbers
count_typed : (c : ℕ) → c ≤ 2 → among c count_codes ≡ true
unfolding among
count_typed zero h = refl
count_typed (suc zero) h = refl
count_typed (suc (suc zero)) h = refl
count_typed (suc (suc (suc c))) h = absurd (omega arith)

count_untyped : (c : ℕ) → 2 < c → among c count_codes ≡ false
unfolding among
count_untyped c h = simp (ne_eqb c 0 (λ e. omega arith), ne_eqb c 1 (λ e. omega arith), ne_eqb c 2 (λ e. omega arith))

-- a type's count is taken up to the most that it says
module _ (fields : ℕ) where
  count_held : (c : ℕ) → c ≤ 2 → fields ≤ most_of c → (fields_taken fields && holds c fields) ≡ true
  unfolding fields_taken holds width_of
  count_held zero h k = simp (le-leb fields most_fields (omega arith), lt-ltb fields 128 (omega arith))
  count_held (suc zero) h k = simp (le-leb fields most_fields k, lt-ltb fields 32768 (omega arith))
  count_held (suc (suc zero)) h k = simp (le-leb fields most_fields k, lt-ltb fields 2147483648 (omega arith))
  count_held (suc (suc (suc c))) h k = absurd (omega arith)

  count_over : (c : ℕ) → c ≤ 2 → most_of c < fields → (fields_taken fields && holds c fields) ≡ false
  unfolding fields_taken holds width_of
  count_over zero h k = simp (le-ltb fields 128 k) (and-false (leb fields most_fields))
  count_over (suc zero) h k = simp (lt-leb fields most_fields k)
  count_over (suc (suc zero)) h k = simp (lt-leb fields most_fields k)
  count_over (suc (suc (suc c))) h k = absurd (omega arith)

-- the numbers of a header whose ids have n bytes
module _ (n status c fields room : ℕ) where
  pub numbers-status : status_taken status ≡ false → numbers_judged n status c fields room ≡ refused 6 0
  unfolding numbers_judged
  numbers-status e = simp e

  module _ (known : status_taken status ≡ true) where
    pub numbers-type : 2 < c → numbers_judged n status c fields room ≡ refused 4 0
    unfolding numbers_judged
    numbers-type h = simp (known, count_untyped c h)

    pub numbers-many : c ≤ 2 → most_of c < fields → numbers_judged n status c fields room ≡ refused 7 0
    unfolding numbers_judged
    numbers-many h k = simp (known, count_typed c h, count_over fields c h k)

    module _ (front : ℕ) (typed : c ≤ 2) (few : fields ≤ most_of c) (f : front ≡ 22 + width_of c) where
      numbers-rest : numbers_judged n status c fields room
          ≡ (guard (leb (front + n) limit) 8 0 >> (guard (leb (front + n) room) 14 0 >> fine (front + n)))
      unfolding numbers_judged
      numbers-rest = simp (known, count_typed c typed, count_held fields c typed few, f)

      pub numbers_long : limit - front < n → numbers_judged n status c fields room ≡ refused 8 0
      unfolding limit
      numbers_long h = numbers-rest ∙ simp (lt-leb (front + n) limit (omega (arith, eight_wide c)))

      pub numbers-room : n ≤ limit - front → room < front + n → numbers_judged n status c fields room ≡ refused 14 0
      unfolding limit
      numbers-room h k = numbers-rest ∙ simp (le-leb (front + n) limit (omega (arith, eight_wide c)), lt-leb (front + n) room k)

      pub numbers-fine : n ≤ limit - front → front + n ≤ room → numbers_judged n status c fields room ≡ fine (front + n)
      unfolding limit
      numbers-fine h k = numbers-rest ∙ simp (le-leb (front + n) limit (omega (arith, eight_wide c)), le-leb (front + n) room k)

-- the opening: the ids, then the numbers
module _ (ids : List ℕ) (status c fields room : ℕ) where
  pub opening_stop : (k p : ℕ) → ids_from ids 4 0 ≡ refused k p → opening_judged ids status c fields room ≡ refused k p
  unfolding opening_judged
  opening_stop k p e = simp e

  pub opening_numbers_lem : (end : ℕ) → ids_from ids 4 0 ≡ fine end → numbers_judged (length ids) status c fields room ≡ opening_judged ids status c fields room
  unfolding opening_judged
  opening_numbers_lem end e = simp e

-- the header's length
module _ (ids : List ℕ) (number : ℤ) (status c fields : ℕ) where
  header_length : length (header_with ids number status c fields) ≡ 22 + width_of c + length ids
  unfolding header_with
  header_length =
      let message = number_text 3 8 (bits_of 64 number) in
      let count = number_text c (width_of c) fields in
      length-append frame0 (ids ++ (message ++ (number_text 0 1 status ++ count)))
      ∙ ap (λ (k : ℕ). 10 + k)
      (length-append ids (message ++ (number_text 0 1 status ++ count))
      ∙ ap (λ (k : ℕ). length ids + k)
      (length-append message (number_text 0 1 status ++ count) ∙ ap (λ (k : ℕ). length message + k) (length-append (number_text 0 1 status) count)))
      ∙ omega (arith, big_length 8 (bits_of 64 number), big_length 1 status, big_length (width_of c) fields)

  -- the header piece by piece
  module _ (out : List ℕ) where
    onto : (l b r t : List ℕ) (p : ℕ) → p ≡ length l → p + length b ≤ length out → r ≡ placed out 0 l → t ≡ put_in r p b → t ≡ placed out 0 (l ++ b)
    onto l b r t p e h i j =
        let same : length r ≡ length out = ap length i ∙ placed_length out 0 l (omega arith) in
        j ∙ put_fits r p b (omega arith) ∙ ap (λ (o : List ℕ). placed o p b) i ∙ placed_on out 0 l b p (omega arith) h

    pub header_placed : (a b d e g : List ℕ) (x w : ℕ) → x ≡ bits_of 64 number → w ≡ width_of c
        → length (header_with ids number status c fields) ≤ length out → a ≡ put_in out 0 frame0 → b ≡ put_in a 10 ids
        → d ≡ put_in b (10 + length ids) (number_text 3 8 x) → e ≡ put_in d (10 + length ids + 9) (number_text 0 1 status)
        → g ≡ put_in e (10 + length ids + 11) (number_text c w fields) → g ≡ placed out 0 (header_with ids number status c fields)
    unfolding header_with
    header_placed a b d e g x w q v fits i j k l m =
        let long = header_length in
        let message = number_text 3 8 (bits_of 64 number) in
        let stat = number_text 0 1 status in
        let count = number_text c (width_of c) fields in
        let m8 = big_length 8 (bits_of 64 number) in
        let s1 = big_length 1 status in
        let cw = big_length (width_of c) fields in
        let l2 = length-append frame0 ids in
        let l3 = length-append (frame0 ++ ids) message in
        let l4 = length-append (frame0 ++ ids ++ message) stat in
        let one = i ∙ put_fits out 0 frame0 (omega arith) in
        let two = onto frame0 ids a b 10 (omega arith) (omega arith) one j in
        let three = onto (frame0 ++ ids) message b d (10 + length ids) (omega arith) (omega arith) two (rw (← q) k) in
        let four = onto (frame0 ++ ids ++ message) stat d e (10 + length ids + 9) (omega arith) (omega arith) three l in
        let five = onto (frame0 ++ ids ++ message ++ stat) count e g (10 + length ids + 11) (omega arith) (omega arith) four (rw (← v) m) in
        five
        ∙ ap (placed out 0)
        (append_assoc (frame0 ++ ids ++ message) stat count
        ∙ append_assoc (frame0 ++ ids) message (stat ++ count)
        ∙ append_assoc frame0 ids (message ++ (stat ++ count)))

-- the answer of the judge is the length of the header that is given
guard_length : (t : Bool) (k p : ℕ) (a : Answer ℕ) (b : Answer (List ℕ)) → a ≡ length_of b → (guard t k p >> a) ≡ length_of (guard t k p >> b)
guard_length true k p a b e = e
guard_length false k p a b e = refl

bind_length : (i : Answer ℕ) (a : Answer ℕ) (b : Answer (List ℕ)) → a ≡ length_of b → (i >>= (λ end. a)) ≡ length_of (i >>= (λ end. b))
bind_length (fine n) a b e = e
bind_length (refused k p) a b e = refl

module _ (ids : List ℕ) (number : ℤ) (status c fields room : ℕ) where
  abbrev given : Answer (List ℕ)
  given = header_given ids number status c fields room

  abbrev header : List ℕ
  header = header_with ids number status c fields

  given_length : opening_judged ids status c fields room ≡ length_of given
  unfolding opening_judged numbers_judged header_given fitting
  given_length =
      let n = 22 + width_of c + length ids in
      let long : n ≡ length header = sym (header_length ids number status c fields) in
      let same : n ≡ 0 + length header = omega arith in
      bind_length (ids_from ids 4 0) _ _
      (guard_length (status_taken status) 6 0 _ _
      (guard_length (among c count_codes) 4 0 _ _
      (guard_length (fields_taken fields && holds c fields) 7 0 _ _
      (ap (λ (k : ℕ). guard (leb k limit) 8 0 >> (guard (leb k room) 14 0 >> fine n)) same
      ∙ guard_length (leb (0 + length header) limit) 8 0 _ _
      (guard_length (leb (0 + length header) room) 14 0 (fine n) (fine header) (ap fine long))))))

  -- the judge refuses what opening refuses; and grants what it grants, which is the header
  pub given_refused : (k p : ℕ) → opening_judged ids status c fields room ≡ refused k p → given ≡ refused k p
  given_refused k p q = go given (sym given_length ∙ q)
    where
      go : (a : Answer (List ℕ)) → length_of a ≡ refused k p → a ≡ refused k p
      go (fine l) q = absurd (not_fine (sym q))
      go (refused r w) q = cc

  pub given_granted : (n : ℕ) → opening_judged ids status c fields room ≡ fine n
      → (given ≡ fine header) × (n ≡ length header) × (c ≤ 2) × (length header ≤ room)
  unfolding header_given fitting all_pass
  given_granted n q = go given refl (sym given_length ∙ q)
    where
      go : (a : Answer (List ℕ)) → given ≡ a → length_of a ≡ fine n → (given ≡ fine header) × (n ≡ length header) × (c ≤ 2) × (length header ≤ room)
      go (refused r w) g h = absurd (not_fine h)
      go (fine l) g h =
          let i = bind_fine (ids_from ids 4 0) _ g in
          let s = guarded (status_taken status) 6 0 _ i.2 in
          let t = guarded (among c count_codes) 4 0 _ s.1 in
          let f = guarded (fields_taken fields && holds c fields) 7 0 _ t.1 in
          let m = guarded (leb (0 + length header) limit) 8 0 _ f.1 in
          let r = guarded (leb (0 + length header) room) 14 0 _ m.1 in
          let fits : 0 + length header ≤ room = leb-true _ _ r.0 in (
            g ∙ sym r.1,
            sym (fine_eq h) ∙ ap length (sym (fine_eq r.1)),
            leb-true _ 2 (pass_among (λ (k : ℕ). leb k 2) count_codes c refl t.0),
            omega arith,
          )
