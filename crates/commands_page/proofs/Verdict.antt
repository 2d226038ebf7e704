-- The verdict hangs on few bytes: every other byte that the judge looks at is none of a value, so that messages of the
-- same build agree in it.
use Prim.Native.Nat.{ℕ, zero, suc, ◌+◌, ◌-◌, ◌*◌, ◌≤◌, ◌<◌}
use mathlib.Core.Path.{◌≡◌, refl, ap, sym, ◌∙◌, subst}
use mathlib.Core.Bool.{Bool, true, false, ◌&&◌, ◌||◌}
use mathlib.Core.Logic.{◌⊎◌, inl, inr}
use mathlib.Core.List.{List, [], ◌∷◌}
use native.Mathlib.Omega.{arith}
use lib.ListN.{length, get_or}
use lib.Dec.{leb, ltb, eqb}
use borrow.Author.Tests.{eqb-true, eqb-false, ne_eqb, leb-true, ltb-true}
use Rattle.sim0mq.specs.Answer.{Answer, fine, ◌>>=◌, ◌>>◌, guard, byte, big, not_negative}
use Rattle.sim0mq.specs.Field.{Field}
use Rattle.sim0mq.specs.Message.{limit, no_table, Reading, reading}
use Rattle.sim0mq.specs.Allowed.{Each, IsField, header_bytes, MessageParts}
use Rattle.sim0mq.specs.Demand3.{ValueByte}
use Rattle.sim0mq.proofs.Answers.{and_true}
use Rattle.sim0mq.proofs.MessageLaws.{cut_of, message_sound}
use Rattle.sim0mq.proofs.Demand3.{copy_tells_only_the_build}
use Rattle.commands_page.specs.Page.{Code, code, span, unit, Rule, any, filled, one_of, Want, string, Row, page, row_at}
use Rattle.commands_page.specs.Judging.{code_taken, text_taken, passes, want_in, each, no_field, turns_right, number_right, looks, Looks, number_at, fields_right, row_right, command_of, commanded}
use Rattle.commands_page.specs.Places.{id_size}
use Rattle.commands_page.specs.Promises.{Weighed, of_word, of_number, row_named, VerdictHangsOnFewBytes}
use Rattle.commands_page.proofs.PageLaws.{page_long, row_by_row}
use Rattle.commands_page.proofs.Refusals.{six}
use Rattle.commands_page.proofs.PartLaws.{looks_are, header_ends, header_apart, unit_apart}
use Rattle.commands_page.proofs.WordLaws.{number_agree, words_agree}

-- the page asks for a unit type only of codes 25 and 26
unfoldable units_ok : List Code → Bool
units_ok [] = true
units_ok (code k ∷ ks) = units_ok ks
units_ok (span a b ∷ ks) = units_ok ks
units_ok (unit k t ∷ ks) = leb 25 k && (leb k 26 && units_ok ks)

unfoldable every : List Want → Bool
every [] = true
every (w ∷ ws) = units_ok w.codes && every ws

every_at : (ws : List Want) (i : ℕ) → every ws ≡ true → units_ok (get_or ws i string).codes ≡ true
unfolding every units_ok
every_at [] i e = refl
every_at (w ∷ ws) zero e = (and_true (units_ok w.codes) (every ws) e).0
every_at (w ∷ ws) (suc i) e = every_at ws i (and_true (units_ok w.codes) (every ws) e).1

row_ok : (k i : ℕ) → k < 18 → units_ok (want_in (row_at k) i).codes ≡ true
unfolding page every units_ok want_in
row_ok k i h = go (ltb i (length (row_at k).fields)) refl
  where
    both : (every (row_at k).fields && every (row_at k).turns) ≡ true
    both = row_by_row (λ (r : Row). every r.fields && every r.turns) (λ (k : ℕ). true) refl refl k h

    go : (b : Bool) → ltb i (length (row_at k).fields) ≡ b → units_ok (want_in (row_at k) i).codes ≡ true
    go true q = simp q (every_at (row_at k).fields i (and_true (every (row_at k).fields) (every (row_at k).turns) both).0)
    go false q = simp q (every_at (row_at k).turns _ (and_true (every (row_at k).fields) (every (row_at k).turns) both).1)

-- so another code is judged without it
unit_free : (ks : List Code) (c u v : ℕ) → units_ok ks ≡ true → (c ≡ 25 → ⊥) → (c ≡ 26 → ⊥) → code_taken ks c u ≡ code_taken ks c v
unfolding units_ok code_taken
unit_free [] c u v e p q = refl
unit_free (code k ∷ ks) c u v e p q = ap (λ (x : Bool). eqb c k || x) (unit_free ks c u v e p q)
unit_free (span a b ∷ ks) c u v e p q = ap (λ (x : Bool). (leb a c && leb c b) || x) (unit_free ks c u v e p q)
unit_free (unit k t ∷ ks) c u v e p q =
    let a = and_true (leb 25 k) (leb k 26 && units_ok ks) e in
    let b = and_true (leb k 26) (units_ok ks) a.1 in
    let l = leb-true 25 k a.0 in
    let m = leb-true k 26 b.0 in
    let d : eqb c k ≡ false = ne_eqb c k (other l m p q) in
    simp d (unit_free ks c u v b.1 p q)
  where
    other : 25 ≤ k → k ≤ 26 → (c ≡ 25 → ⊥) → (c ≡ 26 → ⊥) → c ≡ k → ⊥
    other l m p q e = omega arith

-- the tests of a field
pub code_agree : (k i c u v : ℕ) → k < 18 → ((c ≡ 25) ⊎ (c ≡ 26) → u ≡ v) → code_taken (want_in (row_at k) i).codes c u ≡ code_taken (want_in (row_at k) i).codes c v
code_agree k i c u v h g = go (eqb c 25) refl (eqb c 26) refl
  where
    go : (a : Bool) → eqb c 25 ≡ a → (b : Bool) → eqb c 26 ≡ b → code_taken (want_in (row_at k) i).codes c u ≡ code_taken (want_in (row_at k) i).codes c v
    go true p b q = ap (λ (x : ℕ). code_taken (want_in (row_at k) i).codes c x) (g (inl (eqb-true c 25 p)))
    go false p true q = ap (λ (x : ℕ). code_taken (want_in (row_at k) i).codes c x) (g (inr (eqb-true c 26 q)))
    go false p false q = unit_free (want_in (row_at k) i).codes c u v (row_ok k i h) (eqb-false c 25 p) (eqb-false c 26 q)

text_agree : (s t : List ℕ) (r : Rule) (at size : ℕ) → ((ws : List (List ℕ)) → r ≡ one_of ws → (i : ℕ) → i < size → byte s (at + i) ≡ byte t (at + i))
    → text_taken r s at size ≡ text_taken r t at size
unfolding text_taken
text_agree s t any at size h = refl
text_agree s t filled at size h = refl
text_agree s t (one_of ws) at size h = words_agree s t at size ws (h ws refl)

big_agree : (s t : List ℕ) (at n : ℕ) → ((i : ℕ) → i < n → byte s (at + i) ≡ byte t (at + i)) → big s at n ≡ big t at n
unfolding big
big_agree s t at zero h = refl
big_agree s t at (suc n) h =
    let a = big_agree s t at n (λ i l. h i (omega arith)) in
    let b = h n (omega arith) in
    (λ j. a j * 256 + b j)

each_agree : (s t : List ℕ) (row : Row) (k j : ℕ) (fs : List Field)
    → ((i : ℕ) → i < length fs → passes k s (want_in row (j + i)) (get_or fs i no_field)
    ≡ passes k t (want_in row (j + i)) (get_or fs i no_field))
    → each s row k j fs ≡ each t row k j fs
unfolding each
each_agree s t row k j [] h = refl
each_agree s t row k j (f ∷ fs) h =
    let z : j ≡ j + 0 = omega arith in
    let a : passes k s (want_in row j) f ≡ passes k t (want_in row j) f
    = subst (λ (n : ℕ). passes k s (want_in row n) f ≡ passes k t (want_in row n) f) (sym z) (h 0 (omega arith)) in
    let b = each_agree s t row k (j + 1) fs (λ i l. later i (h (suc i) (omega arith))) in
    (λ x. guard (a x) k f.place >>= (λ pass. b x))
  where
    later : (i : ℕ)
        → passes k s (want_in row (j + suc i)) (get_or fs i no_field)
        ≡ passes k t (want_in row (j + suc i)) (get_or fs i no_field)
        → passes k s (want_in row (j + 1 + i)) (get_or fs i no_field)
        ≡ passes k t (want_in row (j + 1 + i)) (get_or fs i no_field)
    later i e =
        let z : j + suc i ≡ j + 1 + i = omega arith in
        subst (λ (n : ℕ). passes k s (want_in row n) (get_or fs i no_field)
        ≡ passes k t (want_in row n) (get_or fs i no_field)) z e

-- the places of a message, read as m, at which the judge of this row looks: in the type id, at the status, at the unit
-- type of a float or double with unit, and in the value bytes that are weighed
data Looked (m : Reading) (row : Row) : ℕ → Type 0 where
  of_type : (i : ℕ) → i < id_size m → Looked m row ((looks m.frames).kind + 5 + i)
  of_status : Looked m row (looks m.frames).status
  of_unit : (j : ℕ) → j < length m.fields → ((get_or m.fields j no_field).code ≡ 25) ⊎ ((get_or m.fields j no_field).code ≡ 26)
      → Looked m row ((get_or m.fields j no_field).place + 1)
  of_value : {i : ℕ} → Weighed m row i → Looked m row i

-- the whole
module _ (s t : List ℕ) (m : Reading) (k : ℕ) (h : k < 18) (same : (i : ℕ) → Looked m (row_at k) i → byte s i ≡ byte t i) where
  abbrev row_of : Row
  row_of = row_at k

  abbrev fs : List Field
  fs = m.fields

  code_same : (j i : ℕ) → i < length fs
      → code_taken (want_in row_of j).codes (get_or fs i no_field).code (byte s ((get_or fs i no_field).place + 1))
      ≡ code_taken (want_in row_of j).codes (get_or fs i no_field).code (byte t ((get_or fs i no_field).place + 1))
  code_same j i l = code_agree k j (get_or fs i no_field).code _ _ h (λ d. same _ (of_unit i l d))

  codes_same : each s row_of 22 0 fs ≡ each t row_of 22 0 fs
  unfolding passes
  codes_same = each_agree s t row_of 22 0 fs (λ i l. code_same (0 + i) i l)

  strings_same : each s row_of 23 0 fs ≡ each t row_of 23 0 fs
  unfolding passes
  strings_same =
      each_agree s t row_of 23 0 fs
      (λ i l. text_agree s t (want_in row_of (0 + i)).rule (get_or fs i no_field).first (get_or fs i no_field).size
      (λ ws e n b. same _ (of_value (of_word i n ws l (at_zero i ws e) b))))
    where
      at_zero : (i : ℕ) (ws : List (List ℕ)) → (want_in row_of (0 + i)).rule ≡ one_of ws → (want_in row_of i).rule ≡ one_of ws
      at_zero i ws e = let z : i ≡ 0 + i = omega arith in ap (λ (n : ℕ). (want_in row_of n).rule) z ∙ e

  abbrev last_of : Field
  last_of = get_or fs (length row_of.fields - 1) no_field

  turns_same : (kind : ℕ) → eqb (length row_of.turns) 0 ≡ false → turns_right s kind row_of last_of (length fs) ≡ turns_right t kind row_of last_of (length fs)
  unfolding turns_right
  turns_same kind q = go (leb (length row_of.fields) (length fs)) refl
    where
      bytes : (i : ℕ) → i < 4 → byte s (last_of.first + i) ≡ byte t (last_of.first + i)
      bytes i l = same _ (of_value (of_number i l (eqb-false _ 0 q)))

      sign : byte s last_of.first ≡ byte t last_of.first
      sign = let z : last_of.first + 0 ≡ last_of.first = omega arith in subst (λ (x : ℕ). byte s x ≡ byte t x) z (bytes 0 (omega arith))

      go : (b : Bool) → leb (length row_of.fields) (length fs) ≡ b → turns_right s kind row_of last_of (length fs) ≡ turns_right t kind row_of last_of (length fs)
      go false e = simp e
      go true e =
          let n = six k h q in
          let l = leb-true (length row_of.fields) (length fs) e in
          let c = code_same (length row_of.fields - 1) (length row_of.fields - 1) (omega arith) in
          let b = big_agree s t last_of.first 4 bytes in
          simp e (λ x. guard (c x) 22 last_of.place >> guard (not_negative (sign x) && eqb (length fs) (length row_of.fields + 2 * b x)) 21 kind)

  number_same : (kind : ℕ) → number_right s kind row_of fs ≡ number_right t kind row_of fs
  unfolding number_right
  number_same kind = go (eqb (length row_of.turns) 0) refl
    where
      go : (b : Bool) → eqb (length row_of.turns) 0 ≡ b → number_right s kind row_of fs ≡ number_right t kind row_of fs
      go true q = simp q
      go false q = simp q (turns_same kind q)

  row_same : row_right s (looks m.frames) k fs ≡ row_right t (looks m.frames) k fs
  unfolding row_right fields_right
  row_same =
      let st = same _ of_status in
      let n = number_same (looks m.frames).kind in
      let c = codes_same in
      let w = strings_same in
      (λ x.
      guard (eqb (st x) (row_at k).status) 21 (looks m.frames).kind
      >> (n x >>= (λ number. c x >>= (λ codes. w x >>= (λ strings. fine k)))))

-- the judge, given the number of the row
abbrev judged_as : List ℕ → Looks → List Field → ℕ → Answer ℕ
judged_as s l fs k = guard (eqb l.code 9) 20 l.kind >> (guard (ltb k (length page)) 20 l.kind >> row_right s l k fs)

judged_same : (s t : List ℕ) (m : Reading) (k : ℕ) → ((i : ℕ) → Looked m (row_at k) i → byte s i ≡ byte t i)
    → judged_as s (looks m.frames) m.fields k ≡ judged_as t (looks m.frames) m.fields k
judged_same s t m k same = go (ltb k (length page)) refl
  where
    go : (b : Bool) → ltb k (length page) ≡ b → judged_as s (looks m.frames) m.fields k ≡ judged_as t (looks m.frames) m.fields k
    go false r = simp r
    go true r =
        let l = ltb-true k (length page) r in
        let n = page_long in
        ap (λ (x : Answer ℕ). guard (eqb (looks m.frames).code 9) 20 (looks m.frames).kind >> (guard (ltb k (length page)) 20 (looks m.frames).kind >> x))
        (row_same s t m k (omega arith) same)

looked_same : (s t : List ℕ) (m : Reading) → reading no_table s ≡ fine m → reading no_table t ≡ fine m
    → ((i : ℕ) → Looked m (row_named s m) i → byte s i ≡ byte t i) → commanded s ≡ commanded t
unfolding commanded command_of
looked_same s t m p q same =
    let l = looks m.frames in
    let e : number_at s l ≡ number_at t l
    = number_agree s t (l.kind + 5) (id_size m) page 0 (λ i h. same _ (of_type i h)) in
    simp (p, q) (judged_same s t m (number_at s l) same ∙ ap (judged_as t l m.fields) e)

-- where the judge looks there is no value byte, but for those that are weighed
looked_apart : (s : List ℕ) (m : Reading) (row : Row) → reading no_table s ≡ fine m → (i : ℕ) → Looked m row i
    → Weighed m row i ⊎ (ValueByte m.fields i → ⊥)
unfolding reading
looked_apart s m row q i look =
    let f = message_sound limit no_table s m q in
    go f.parts f.is.is_fields m f.says i look
  where
    go : (p : MessageParts) → Each IsField p.fields → (m : Reading) → m ≡ cut_of p → (i : ℕ) → Looked m row i
        → Weighed m row i ⊎ (ValueByte m.fields i → ⊥)
    go p is m e i (of_value w) = inl w
    go p is m e i (of_type n h) =
        let at = ap (λ (x : Reading). looks x.frames) e ∙ looks_are p in
        let kind = ap (λ (l : Looks). l.kind) at in
        let next = ap (λ (l : Looks). l.next) at in
        let end = (header_ends p).0 in
        inr (λ v. header_apart p ((looks m.frames).kind + 5 + n) (omega arith) (subst (λ (x : Reading). ValueByte x.fields ((looks m.frames).kind + 5 + n)) e v))
    go p is m e i of_status =
        let at = ap (λ (l : Looks). l.status) (ap (λ (x : Reading). looks x.frames) e ∙ looks_are p) in
        let end = (header_ends p).1 in
        inr (λ v. header_apart p (looks m.frames).status (omega arith) (subst (λ (x : Reading). ValueByte x.fields (looks m.frames).status) e v))
    go p is m e i (of_unit j h d) =
        inr (subst (λ (x : Reading). (j < length x.fields) → ((get_or x.fields j no_field).code ≡ 25) ⊎ ((get_or x.fields j no_field).code ≡ 26) → ValueByte x.fields ((get_or x.fields j no_field).place + 1) → ⊥) (sym e)
        (λ b c. unit_apart (length (header_bytes p.header)) p.fields j is b c) h d)

pub verdict_hangs_on_few_bytes : VerdictHangsOnFewBytes
verdict_hangs_on_few_bytes s t m n p q build same =
    let alike : n ≡ m = sym ((copy_tells_only_the_build no_table s t m n p q).1 build) in
    looked_same s t m p (q ∙ ap fine alike) (λ i look. go i (looked_apart s m (row_named s m) p i look))
  where
    go : (i : ℕ) → Weighed m (row_named s m) i ⊎ (ValueByte m.fields i → ⊥) → byte s i ≡ byte t i
    go i (inl w) = same i w
    go i (inr v) = build.same i v
