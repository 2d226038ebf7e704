-- Every refusal of opening and asking is 18, 14 or 16 at 0, or a message's own at a place in the recording: a message
-- is judged only once trailer and index are right, and then it lies in the recording.
use Prim.Native.Nat.{ℕ, zero, suc, ◌+◌, ◌*◌, ◌≤◌, zero-le}
use mathlib.Core.Path.{◌≡◌, refl, ap, sym, ◌∙◌, subst}
use mathlib.Core.Bool.{Bool, true, false, cond, not, ◌||◌, or-true, false≢true}
use mathlib.Core.List.{List, [], ◌∷◌}
use native.Mathlib.Omega.{arith}
use lib.ListN.{length, take, drop, get_or, length-take, length-drop}
use lib.Dec.{leb, ltb, eqb}
use borrow.Author.Tests.{eqb-true, ltb-true}
use Rattle.sim0mq.specs.Answer.{Answer, fine, refused, ◌>>=◌, ◌>>◌, guard, part_at, big}
use Rattle.sim0mq.specs.Codes.{among}
use Rattle.sim0mq.specs.Message.{Lent, no_table, table, Reading, message}
use Rattle.sim0mq.specs.Demand1.{judging_numbers}
use Rattle.sim0mq.proofs.Rows.{all_pass, pass_among}
use Rattle.sim0mq.proofs.Refusals.{Held, message_placed}
use Rattle.dividing.specs.Run.{total}
use Rattle.dividing.proofs.RestLaws.{part_rest}
use Rattle.recordings_format.specs.Edition.{Edition, editions, edition_in, edition_of, most_messages, entry_size, trailer_size}
use Rattle.recordings_format.specs.Judge.{trailer_from, trailer, entries_from, Index, index, stretch, stretches_from, roomy, opening, placed_in, asking}
use Rattle.recordings_format.specs.Promises.{opening_numbers, asking_numbers, IsRefusal}
use Rattle.recordings_format.proofs.IndexLaws.{index_says, total_nth}

-- the numbers whose place is 0
abbrev own_numbers : List ℕ
own_numbers = 18 ∷ 14 ∷ 16 ∷ []

-- a message is refused by none of the numbers that are not for judging one
pub message_apart : (own : List ℕ) (k : ℕ) → all_pass (λ (j : ℕ). not (among j own)) judging_numbers ≡ true
    → among k judging_numbers ≡ true → among k own ≡ true → ⊥
message_apart own k others h is =
    let no : not (among k own) ≡ true = pass_among (λ (j : ℕ). not (among j own)) judging_numbers k others h in
    false≢true (sym (ap not is) ∙ no)

message_number : (k : ℕ) → among k judging_numbers ≡ true → among k own_numbers ≡ true → ⊥
unfolding among all_pass
message_number k h own = message_apart own_numbers k refl h own

-- an answer, if it is a refusal, is one of these
abbrev pub Told : {A : Type 0} → List ℕ → List ℕ → Answer A → Type 0
Told numbers s (fine a) = Unit {0}
Told numbers s (refused k p) = IsRefusal numbers s k p

module _ (numbers s : List ℕ) where
  bind_told : {A B : Type 0} (a : Answer A) (f : A → Answer B) → Told numbers s a
      → ((x : A) → a ≡ fine x → Told numbers s (f x)) → Told numbers s (a >>= f)
  bind_told (fine x) f h go = go x refl
  bind_told (refused k p) f h go = h

  guard_told : {B : Type 0} (t : Bool) (k : ℕ) (b : Answer B) → among k numbers ≡ true → (t ≡ true → Told numbers s b)
      → Told numbers s (guard t k 0 >> b)
  guard_told true k b listed h = h refl
  guard_told false k b listed h = record { numbered = listed; within = zero-le; own = λ o. refl }

  -- trailer and index are refused by 18 alone
  module _ (eighteen : among 18 numbers ≡ true) where
    edition-told : (es : List Edition) (n : ℕ) → Told numbers s (edition_in es n)
    unfolding edition_in
    edition-told [] n = record { numbered = eighteen; within = zero-le; own = λ o. refl }
    edition-told (e ∷ es) n = go (eqb n e.number) (edition-told es n)
      where
        go : (t : Bool) → Told numbers s (edition_in es n) → Told numbers s (cond t (fine e) (edition_in es n))
        go true h = tt
        go false h = h

    numbers-told : (number place entries at : ℕ) → Told numbers s (trailer_from number place entries at)
    unfolding trailer_from
    numbers-told number place entries at =
        bind_told (edition_of number) _ (edition-told editions number)
        (λ e is.
        let right = fine (record { edition = e; place = place; entries = entries }) in
        let fills = eqb (place + entry_size e * entries) at in
        guard_told (leb entries most_messages) 18 (guard fills 18 0 >> right) eighteen
        (λ few. guard_told fills 18 right eighteen (λ full. tt)))

    trailer-told : Told numbers s (trailer s)
    unfolding trailer
    trailer-told = guard_told (leb trailer_size (length s)) 18 _ eighteen (λ long. numbers-told _ _ _ _)

    entries-told : (w : ℕ) (n p at end : ℕ) → Told numbers s (entries_from s w n p at end)
    unfolding entries_from
    entries-told w zero p at end = guard_told (eqb at end) 18 _ eighteen (λ t. tt)
    entries-told w (suc n) p at end =
        bind_told (guard (eqb (big s p 4) at) 18 0) _ (start (eqb (big s p 4) at))
        (λ u is.
        bind_told (entries_from s w n (p + (4 + w)) (at + big s (p + 4) w) end) _
        (entries-told w n (p + (4 + w)) (at + big s (p + 4) w) end) (λ ns found. tt))
      where
        start : (t : Bool) → Told numbers s (guard t 18 0)
        start true = tt
        start false = record { numbered = eighteen; within = zero-le; own = λ o. refl }

    index-told : Told numbers s (index s)
    unfolding index
    index-told =
        bind_told (trailer s) _ trailer-told
        (λ t is.
        bind_told (entries_from s t.edition.length_bytes t.entries t.place 0 t.place) _
        (entries-told t.edition.length_bytes t.entries t.place 0 t.place) (λ ns found. tt))

  -- a message that lies in the recording is refused by its own number, at a place in it
  module _ (judged : (k : ℕ) → among k judging_numbers ≡ true → among k numbers ≡ true) where
    pub stretch-told : (most at n : ℕ) → at + n ≤ length s → Told numbers s (stretch most s at n)
    unfolding stretch
    stretch-told most at n within =
        go (message most no_table (take n (drop at s))) (message_placed most no_table (take n (drop at s)))
      where
        go : (a : Answer Reading) → Held judging_numbers (length (take n (drop at s))) a → Told numbers s (part_at at a)
        go (fine m) h = tt
        go (refused k p) h =
            let place = h.1 in
            record {
              numbered = judged k h.0;
              within = omega (arith, length-take n (drop at s), length-drop at s);
              own = λ o. absurd (message_number k h.0 o);
            }

    stretches-told : (most at : ℕ) (ns : List ℕ) → at + total ns ≤ length s → Told numbers s (stretches_from most s at ns)
    unfolding stretches_from total
    stretches-told most at [] h = tt
    stretches-told most at (n ∷ ns) h =
        bind_told (stretch most s at n) _ (stretch-told most at n (omega arith))
        (λ m is. stretches-told most (at + n) ns (omega arith))

    rest-told : (i : Index) → index s ≡ fine i
        → Told numbers s (stretches_from i.edition.most s 0 i.lengths >>= (λ u. fine i))
    rest-told i is =
        let fills = (index_says s i is).fills in
        bind_told (stretches_from i.edition.most s 0 i.lengths) _
        (stretches-told i.edition.most 0 i.lengths (omega arith)) (λ u found. tt)

-- a number that is listed is so in a longer list
pub listed_after : (j k : ℕ) (numbers : List ℕ) → among k numbers ≡ true → among k (j ∷ numbers) ≡ true
unfolding among
listed_after j k numbers h = rw h (or-true (eqb k j))

pub opening_told : (lent : Lent) (s : List ℕ) → Told (opening_numbers lent) s (opening lent s)
unfolding opening roomy among
opening_told no_table s =
    bind_told (opening_numbers no_table) s (index s) _ (index-told (opening_numbers no_table) s refl)
    (λ i is. rest-told (opening_numbers no_table) s (λ k h. listed_after 18 k judging_numbers h) i is)
opening_told (table r) s =
    let numbers = opening_numbers (table r) in
    bind_told numbers s (index s) _ (index-told numbers s refl)
    (λ i is.
    guard_told numbers s (roomy (table r) (length i.lengths)) 14 _ refl
    (λ room.
    rest-told numbers s (λ k h. listed_after 18 k (14 ∷ judging_numbers) (listed_after 14 k judging_numbers h)) i is))

pub asking_told : (s : List ℕ) (k : ℕ) → Told asking_numbers s (asking s k)
unfolding asking among
asking_told s k =
    bind_told asking_numbers s (index s) _ (index-told asking_numbers s refl)
    (λ i is.
    guard_told asking_numbers s (ltb k (length i.lengths)) 16 _ refl
    (λ there.
    let fills = (index_says s i is).fills in
    let inside : total (take k i.lengths) + get_or i.lengths k 0 ≤ length s
    = omega (arith, total_nth i.lengths k (ltb-true k (length i.lengths) there)) in
    bind_told asking_numbers s (stretch i.edition.most s (placed_in i.lengths k).start (placed_in i.lengths k).size) _
    (stretch-told asking_numbers s
    (λ j h. listed_after 18 j (16 ∷ judging_numbers) (listed_after 16 j judging_numbers h)) i.edition.most _ _ inside)
    (λ m found. tt)))

-- no message is refused by 16
pub stretch_not_sixteen : (most : ℕ) (s : List ℕ) (at n p : ℕ) → stretch most s at n ≡ refused 16 p → ⊥
unfolding stretch among
stretch_not_sixteen most s at n p q =
    let r = part_rest at (message most no_table (take n (drop at s))) q in
    let h
    =
    subst (λ (a : Answer Reading). Held judging_numbers (length (take n (drop at s))) a) r.1
    (message_placed most no_table (take n (drop at s))) in
    message_number 16 h.0 refl

-- entries that do not tile are refused by 18 at 0
pub entries_eighteen : (s : List ℕ) (w n p at end number place : ℕ) → entries_from s w n p at end ≡ refused number place
    → (number ≡ 18) × (place ≡ 0)
unfolding among
entries_eighteen s w n p at end number place q =
    let h : IsRefusal (18 ∷ []) s number place
    = subst (λ (a : Answer (List ℕ)). Told (18 ∷ []) s a) q (entries-told (18 ∷ []) s refl w n p at end) in
    let is : number ≡ 18 = eqb-true number 18 (only (eqb number 18) h.numbered) in
    (is, h.own (ap (λ (k : ℕ). among k own_numbers) is))
  where
    only : (b : Bool) → (b || false) ≡ true → b ≡ true
    only true e = refl
    only false e = e
