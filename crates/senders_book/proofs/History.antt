-- The promises of the book over any run of calls. At each point, for each sender: if no number was taken from it since
-- it was last closed, no place holds it; else one place holds it with the last number, and the others are smaller. A
-- call changes one place, and that place holds the sender of the call and no other.
use Prim.Native.Nat.{ℕ, ◌≤◌, ◌<◌}
use mathlib.Core.Path.{◌≡◌, refl, sym, ap, ◌∙◌, subst}
use mathlib.Core.Bool.{Bool, true, false, cond}
use mathlib.Core.Logic.{◌⊎◌, ⊎_elim, inl, inr}
use mathlib.Core.List.{List, [], ◌∷◌}
use native.Mathlib.Omega.{arith}
use lib.ListN.{length, set, length-set}
use lib.Dec.{eqb}
use lib.IntN.{ℤ}
use lib.Signed.{lt_z}
use borrow.Author.Tests.{ltb-true, eqb-true, eqb-false}
use Rattle.std.proofs.lemmas.Int.{ints}
use Rattle.sim0mq.specs.Answer.{Answer, fine, refused}
use Rattle.sim0mq.specs.Message.{no_table, reading}
use Rattle.sim0mq.proofs.Answers.{bind_fine}
use Rattle.senders_book.specs.declared.Id.{Id}
use Rattle.senders_book.specs.declared.Sender.{Sender}
use Rattle.senders_book.specs.Book.{
  id_bytes,
  book_places,
  free,
  id_of,
  holds,
  place_of,
  entry_in,
  is_held,
  closing,
}
use Rattle.senders_book.specs.Taking.{Stamp, Entry, stamping, taking, holding, book_after}
use Rattle.senders_book.specs.Promises.{Takes, Once}
use Rattle.senders_book.specs.History.{
  Call,
  takes,
  closes,
  Event,
  took,
  shut,
  Point,
  took_by,
  next,
  after_calls,
  History,
  began,
  called,
  same_sender,
  numbers_of,
  Smaller,
  Rising,
  EachSenderOnce,
  HeldWhereTaken,
  NumbersRise,
  NumberIsTheLast,
  keeps,
  NoMessageTwice,
}
use Rattle.senders_book.proofs.IdLaws.{same_both, sender_true, sender_self, sender_sym, holds_none, holds_same, holds_as, holds_own}
use Rattle.senders_book.proofs.PlaceLaws.{
  place_holds,
  free_is_the_first,
  free_not_held,
  is_held_lem,
  is_not_held,
  none_held,
  set_same,
  set_entry,
}
use Rattle.senders_book.proofs.StampLaws.{accepted_is_stamped}
use Rattle.senders_book.proofs.Promises.{
  taken_exactly,
  refused_exactly,
  settled,
  not_less,
  not_both,
  closing_cases,
  freed,
}

-- ---- the order of numbers
less_trans : (x y z : ℤ) → lt_z x y ≡ true → lt_z y z ≡ true → lt_z x z ≡ true
less_trans x y z h k = grind (arith, ints)

smaller_on : (m n : ℤ) (ms : List ℤ) → lt_z m n ≡ true → Smaller m ms → Smaller n ms
unfolding Smaller
smaller_on m n [] h s = tt
smaller_on m n (k ∷ ms) h s = (less_trans k m n s.0 h, smaller_on m n ms h s.1)

-- ---- a place and two senders
-- a place that holds two senders holds one
held_one : (e : Sender) (c d : ℕ) (l k : List ℕ) → holds e (id_of c l) ≡ true → holds e (id_of d k) ≡ true
    → same_sender c l d k ≡ true
held_one e c d l k x y =
    let w = same_both e.id c d l k (holds_same e (id_of c l) x) (holds_same e (id_of d k) y) in
    subst (λ (j : ℕ). same_sender c l j k ≡ true) w.0
    (subst (λ (j : List ℕ). same_sender c l c j ≡ true) w.1 (sender_self c l))

-- ---- what is known at each point
-- a place holds this sender with this number
record With (b : List Sender) (id : Id) (n : ℤ) : Type 0 where
  at : ℕ
  there : holds (entry_in b at) id ≡ true
  number : (entry_in b at).number ≡ n

-- what the book says of a sender from which these numbers were taken, the latest first
Tells : List Sender → Id → List ℤ → Type 0
Tells b id [] = (j : ℕ) → holds (entry_in b j) id ≡ true → ⊥
Tells b id (n ∷ ns) = With b id n × Rising (n ∷ ns)

record Known (p : Point) : Type 0 where
  once : Once p.book
  long : length p.book ≡ book_places
  tells : (c : ℕ) (l : List ℕ) → Tells p.book (id_of c l) (numbers_of c l p.events)

-- ---- a place is set
module _ (b : List Sender) (p : ℕ) (e : Sender) (h : p < length b) where
  -- what the place held by j is afterwards
  seen : (j : ℕ) (id : Id) (t : Bool) → eqb j p ≡ t → holds (entry_in (set b p e) j) id ≡ true
      → holds (cond t e (entry_in b j)) id ≡ true
  seen j id t q x =
      ap (λ (z : Bool). holds (cond z e (entry_in b j)) id) (sym q)
      ∙ (ap (λ (z : Sender). holds z id) (sym (set_entry b p e h j)) ∙ x)

  -- it holds no sender that another place holds
  set_once : Once b → ((j : ℕ) (id : Id) → (j ≡ p → ⊥) → holds (entry_in b j) id ≡ true → holds e id ≡ true → ⊥)
      → Once (set b p e)
  set_once once apart id i j x y = go (eqb i p) refl (eqb j p) refl
    where
      go : (t : Bool) → eqb i p ≡ t → (u : Bool) → eqb j p ≡ u → i ≡ j
      go true q true r = eqb-true i p q ∙ sym (eqb-true j p r)
      go true q false r = absurd (apart j id (eqb-false j p r) (seen j id false r y) (seen i id true q x))
      go false q true r = absurd (apart i id (eqb-false i p q) (seen i id false q x) (seen j id true r y))
      go false q false r = once id i j (seen i id false q x) (seen j id false r y)

  -- a sender that stands neither in the place as it was nor in the new entry is told of as before
  set_tells : (id : Id) (ns : List ℤ) → (holds (entry_in b p) id ≡ true → ⊥) → (holds e id ≡ true → ⊥)
      → Tells b id ns → Tells (set b p e) id ns
  unfolding Tells
  set_tells id [] old new tells = λ j x. go j x (eqb j p) refl
    where
      go : (j : ℕ) → holds (entry_in (set b p e) j) id ≡ true → (t : Bool) → eqb j p ≡ t → ⊥
      go j x true q = new (seen j id true q x)
      go j x false q = tells j (seen j id false q x)
  set_tells id (n ∷ ns) old new tells = (go (eqb tells.0.at p) refl, tells.1)
    where
      go : (t : Bool) → eqb tells.0.at p ≡ t → With (set b p e) id n
      go true q =
          absurd (old (subst (λ (j : ℕ). holds (entry_in b j) id ≡ true) (eqb-true _ p q) tells.0.there))
      go false q =
          let same : entry_in (set b p e) tells.0.at ≡ entry_in b tells.0.at
          = set_entry b p e h tells.0.at ∙ ap (λ (t : Bool). cond t e (entry_in b tells.0.at)) q in
          record {
            at = tells.0.at;
            there = ap (λ (x : Sender). holds x id) same ∙ tells.0.there;
            number = ap (λ (x : Sender). x.number) same ∙ tells.0.number;
          }

-- ---- a message is taken
module _ (b : List Sender) (t : Stamp) (e : Entry) (once : Once b) (w : Takes b t e) where
  abbrev own : Id
  own = id_of t.code t.id

  abbrev entry : Sender
  entry = holding e.stamp

  entry_own : holds entry own ≡ true
  entry_own = ap (λ (x : Stamp). holds (holding x) own) w.0 ∙ holds_own t w.1

  -- the place had the sender itself, or was free
  before : (holds (entry_in b e.place) own ≡ true) ⊎ ((entry_in b e.place).held ≡ false)
  before =
      ⊎_elim
      (λ x. inl (subst (λ (j : ℕ). holds (entry_in b j) own ≡ true) (sym x.2) (place_holds b own (ltb-true _ _ x.0))))
      (λ x. inr (subst (λ (j : ℕ). (entry_in b j).held ≡ false) (sym x.2) (free_is_the_first b x.1).0)) w.2

  -- so no other place holds the sender
  elsewhere : (j : ℕ) → (j ≡ e.place → ⊥) → holds (entry_in b j) own ≡ true → ⊥
  elsewhere j d x =
      ⊎_elim
      (λ y. d (once own j e.place x
      (subst (λ (i : ℕ). holds (entry_in b i) own ≡ true) (sym y.2) (place_holds b own (ltb-true _ _ y.0)))))
      (λ y. not_both (sym (is_held_lem b own j x) ∙ y.0)) w.2

  take_once : Once (set b e.place entry)
  take_once =
      set_once b e.place entry (settled b t e w).within once
      (λ j id d x y. elsewhere j d (ap (λ (z : Stamp). holds (entry_in b j) (id_of z.code z.id)) (sym w.0) ∙ holds_as (entry_in b j) entry id x y))

  -- the sender's number is the new one, which is greater than those before
  take_own : (ns : List ℤ) → Tells b own ns → Tells (set b e.place entry) own (t.number ∷ ns)
  unfolding Tells Rising Smaller
  take_own ns tells = (here, (go ns tells, older ns tells))
    where
      same : entry_in (set b e.place entry) e.place ≡ entry
      same = set_same b e.place entry (settled b t e w).within

      here : With (set b e.place entry) own t.number
      here =
          record {
            at = e.place;
            there = ap (λ (x : Sender). holds x own) same ∙ entry_own;
            number = ap (λ (x : Sender). x.number) same ∙ ap (λ (x : Stamp). x.number) w.0;
          }

      go : (ns : List ℤ) → Tells b own ns → Smaller t.number ns
      go [] tells = tt
      go (n ∷ ns) tells =
          let less : lt_z n t.number ≡ true
          = ⊎_elim
          (λ x.
          let first : place_of b own ≡ tells.0.at = once own _ _ (place_holds b own (ltb-true _ _ x.0)) tells.0.there in
          ap (λ (z : ℤ). lt_z z t.number) (sym (ap (λ (j : ℕ). (entry_in b j).number) first ∙ tells.0.number)) ∙ x.1)
          (λ x. absurd (not_both (sym (is_held_lem b own tells.0.at tells.0.there) ∙ x.0))) w.2 in
          (less, smaller_on n t.number ns less tells.1.0)

      older : (ns : List ℤ) → Tells b own ns → Rising ns
      older [] tells = tt
      older (n ∷ ns) tells = tells.1

  -- and all other senders are told of as before
  take_other : (c : ℕ) (l : List ℕ) (ns : List ℤ) → same_sender c l t.code t.id ≡ false → Tells b (id_of c l) ns
      → Tells (set b e.place entry) (id_of c l) ns
  take_other c l ns d =
      set_tells b e.place entry (settled b t e w).within (id_of c l) ns
      (λ x.
      ⊎_elim (λ y. not_both (sym (held_one (entry_in b e.place) c t.code l t.id x y) ∙ d))
      (λ y. not_both (sym (holds_none (entry_in b e.place) (id_of c l) y ∙ x))) before)
      (λ x. not_both (sym (held_one entry c t.code l t.id x entry_own) ∙ d))

-- what came of it
told_on : (c d : ℕ) (l k : List ℕ) (n : ℤ) (es : List Event) → same_sender c l d k ≡ true
    → numbers_of c l (took d k n ∷ es) ≡ n ∷ numbers_of c l es
unfolding numbers_of
told_on c d l k n es h = rw h refl

told_off : (c d : ℕ) (l k : List ℕ) (n : ℤ) (es : List Event) → same_sender c l d k ≡ false
    → numbers_of c l (took d k n ∷ es) ≡ numbers_of c l es
unfolding numbers_of
told_off c d l k n es h = rw h refl

shut_on : (c d : ℕ) (l k : List ℕ) (es : List Event) → same_sender c l d k ≡ true → numbers_of c l (shut d k ∷ es) ≡ []
unfolding numbers_of
shut_on c d l k es h = rw h refl

shut_off : (c d : ℕ) (l k : List ℕ) (es : List Event) → same_sender c l d k ≡ false
    → numbers_of c l (shut d k ∷ es) ≡ numbers_of c l es
unfolding numbers_of
shut_off c d l k es h = rw h refl

-- the sender by its own name
by_name : (b : List Sender) (c d : ℕ) (l k : List ℕ) (ns : List ℤ) → same_sender c l d k ≡ true
    → Tells b (id_of d k) ns → Tells b (id_of c l) ns
by_name b c d l k ns h =
    let w = sender_true c d l k h in
    subst (λ (x : Id). Tells b x ns) (λ i. id_of (sym w.0 i) (sym w.1 i))

-- the stamp that a message was taken by
pub taken_by : (b : List Sender) (s : List ℕ) (e : Entry) → taking b s ≡ fine e
    → Takes b e.stamp e × ((x : List Sender) → taking x s ≡ stamping x e.stamp)
unfolding taking
taken_by b s e q =
    let m = bind_fine (reading no_table s) _ q in
    let t = accepted_is_stamped s m.0 m.1 in
    let w = (taken_exactly b t.0 e).0 (sym (t.2 b) ∙ q) in (
      subst (λ (x : Stamp). Takes b x e) (sym w.0) w,
      λ x. t.2 x ∙ ap (stamping x) (sym w.0),
    )

take_known : (p : Point) (s : List ℕ) → Known p → (a : Answer Entry) → taking p.book s ≡ a
    → Known (record { book = book_after p.book a; events = took_by a p.events })
take_known p s k (refused n q) e = k
take_known p s k (fine x) e =
    let t = x.stamp in
    let w = (taken_by p.book s x e).0 in
    record {
      once = take_once p.book t x k.once w;
      long = length-set p.book x.place (holding t) ∙ k.long;
      tells = λ c l. go c l (same_sender c l t.code t.id) refl;
    }
  where
    go : (c : ℕ) (l : List ℕ) (t : Bool) → same_sender c l x.stamp.code x.stamp.id ≡ t
        → Tells (book_after p.book (fine x)) (id_of c l) (numbers_of c l (took_by (fine x) p.events))
    go c l true h =
        let w = (taken_by p.book s x e).0 in
        let own : Tells p.book (id_of x.stamp.code x.stamp.id) (numbers_of c l p.events)
        = by_name p.book x.stamp.code c x.stamp.id l (numbers_of c l p.events) (sender_sym c x.stamp.code l x.stamp.id h) (k.tells c l) in
        subst (Tells (book_after p.book (fine x)) (id_of c l)) (sym (told_on c x.stamp.code l x.stamp.id x.stamp.number p.events h))
        (by_name (book_after p.book (fine x)) c x.stamp.code l x.stamp.id (x.stamp.number ∷ numbers_of c l p.events) h
        (take_own p.book x.stamp x k.once w (numbers_of c l p.events) own))
    go c l false h =
        subst (Tells (book_after p.book (fine x)) (id_of c l)) (sym (told_off c x.stamp.code l x.stamp.id x.stamp.number p.events h))
        (take_other p.book x.stamp x k.once (taken_by p.book s x e).0 c l (numbers_of c l p.events) h (k.tells c l))

-- ---- a sender is closed
module _ (p : Point) (d : ℕ) (k : List ℕ) (known : Known p) where
  abbrev b : List Sender
  b = p.book

  abbrev place : ℕ
  place = place_of b (id_of d k)

  abbrev after : List Sender → Type 0
  after x = Known (record { book = x; events = shut d k ∷ p.events })

  -- it was held, and its place is freed
  freed_tells : place < length b → (c : ℕ) (l : List ℕ) (t : Bool) → same_sender c l d k ≡ t
      → Tells (set b place free) (id_of c l) (numbers_of c l (shut d k ∷ p.events))
  unfolding Tells
  freed_tells h c l true q =
      subst (Tells (set b place free) (id_of c l)) (sym (shut_on c d l k p.events q))
      (by_name (set b place free) c d l k [] q (freed b (id_of d k) known.once h))
  freed_tells h c l false q =
      subst (Tells (set b place free) (id_of c l)) (sym (shut_off c d l k p.events q))
      (set_tells b place free h (id_of c l) (numbers_of c l p.events)
      (λ x. not_both (sym (held_one (entry_in b place) c d l k x (place_holds b (id_of d k) h)) ∙ q))
      (free_not_held (id_of c l)) (known.tells c l))

  -- it was not held, and nothing changes
  left_tells : is_held b (id_of d k) ≡ false → (c : ℕ) (l : List ℕ) (t : Bool) → same_sender c l d k ≡ t
      → Tells b (id_of c l) (numbers_of c l (shut d k ∷ p.events))
  unfolding Tells
  left_tells none c l true q =
      subst (Tells b (id_of c l)) (sym (shut_on c d l k p.events q))
      (by_name b c d l k [] q (λ j x. not_both (sym (is_held_lem b (id_of d k) j x) ∙ none)))
  left_tells none c l false q = subst (Tells b (id_of c l)) (sym (shut_off c d l k p.events q)) (known.tells c l)

  close_known : after (closing b d k).book
  close_known =
      ⊎_elim
      (λ w.
      let h : place < length b = ltb-true _ _ w.held in
      subst after (sym w.frees)
      (record {
        once = set_once b place free h known.once (λ j id n x y. free_not_held id y);
        long = length-set b place free ∙ known.long;
        tells = λ c l. freed_tells h c l (same_sender c l d k) refl;
      }))
      (λ w.
      subst after (sym w.same)
      (record {
        once = known.once;
        long = known.long;
        tells = λ c l. left_tells w.unknown c l (same_sender c l d k) refl;
      }))
      (closing_cases b d k)

-- ---- histories
known : {p : Point} → History p → Known p
unfolding next numbers_of Tells
known began =
    record { once = λ id i j x y. absurd (none_held book_places id i x); long = refl; tells = λ c l. none_held book_places (id_of c l) }
known (called {p} h (takes s)) = take_known p s (known h) (taking p.book s) refl
known (called {p} h (closes c l)) = close_known p c l (known h)

pub each_sender_once : EachSenderOnce
each_sender_once p h = ((known h).once, (known h).long)

pub held_where_taken : HeldWhereTaken
unfolding Tells
held_where_taken p h c l = (into (numbers_of c l p.events) ((known h).tells c l), back (numbers_of c l p.events) ((known h).tells c l))
  where
    into : (ns : List ℤ) → Tells p.book (id_of c l) ns → ns ≡ [] → is_held p.book (id_of c l) ≡ false
    into [] tells e = is_not_held p.book (id_of c l) tells
    into (n ∷ ns) tells e = cc

    back : (ns : List ℤ) → Tells p.book (id_of c l) ns → is_held p.book (id_of c l) ≡ false → ns ≡ []
    back [] tells e = refl
    back (n ∷ ns) tells e = absurd (not_both (sym (is_held_lem p.book (id_of c l) tells.0.at tells.0.there) ∙ e))

pub numbers_rise : NumbersRise
unfolding Tells Rising
numbers_rise p h c l = go (numbers_of c l p.events) ((known h).tells c l)
  where
    go : (ns : List ℤ) → Tells p.book (id_of c l) ns → Rising ns
    go [] tells = tt
    go (n ∷ ns) tells = tells.1

pub number_is_the_last : NumberIsTheLast
unfolding Tells Rising
number_is_the_last p h c l n ns e =
    let tells : Tells p.book (id_of c l) (n ∷ ns) = subst (Tells p.book (id_of c l)) e ((known h).tells c l) in
    let held = is_held_lem p.book (id_of c l) tells.0.at tells.0.there in
    let first : place_of p.book (id_of c l) ≡ tells.0.at
    = (known h).once (id_of c l) _ _ (place_holds p.book (id_of c l) (ltb-true _ _ held)) tells.0.there in
    (held, ap (λ (j : ℕ). (entry_in p.book j).number) first ∙ tells.0.number, tells.1.0)

-- ---- a number that was taken stays among those taken until its sender is closed
In : ℤ → List ℤ → Type 0
In n [] = ⊥
In n (m ∷ ms) = (n ≡ m) ⊎ In n ms

smaller_in : (n m : ℤ) (ms : List ℤ) → Smaller n ms → In m ms → lt_z m n ≡ true
unfolding In Smaller
smaller_in n m [] s i = absurd i
smaller_in n m (k ∷ ms) s (inl e) = ap (λ (z : ℤ). lt_z z n) e ∙ s.0
smaller_in n m (k ∷ ms) s (inr i) = smaller_in n m ms s.1 i

stays_taking : (n : ℤ) (c : ℕ) (l : List ℕ) (a : Answer Entry) (es : List Event) → In n (numbers_of c l es)
    → In n (numbers_of c l (took_by a es))
unfolding In numbers_of
stays_taking n c l (refused k p) es i = i
stays_taking n c l (fine e) es i = go (same_sender c l e.stamp.code e.stamp.id)
  where
    go : (t : Bool) → In n (cond t (e.stamp.number ∷ numbers_of c l es) (numbers_of c l es))
    go true = inr i
    go false = i

stays : (n : ℤ) (c : ℕ) (l : List ℕ) (cs : List Call) (p : Point) → keeps c l cs ≡ true → In n (numbers_of c l p.events)
    → In n (numbers_of c l (after_calls p cs).events)
unfolding keeps after_calls next
stays n c l [] p h i = i
stays n c l (takes s ∷ cs) p h i = stays n c l cs (next p (takes s)) h (stays_taking n c l (taking p.book s) p.events i)
stays n c l (closes d k ∷ cs) p h i =
    go (stays n c l cs (next p (closes d k))) (same_sender c l d k) refl h
  where
    go : (keeps c l cs ≡ true → In n (numbers_of c l (shut d k ∷ p.events))
        → In n (numbers_of c l (after_calls (next p (closes d k)) cs).events))
        → (t : Bool) → same_sender c l d k ≡ t → cond t false (keeps c l cs) ≡ true
        → In n (numbers_of c l (after_calls (next p (closes d k)) cs).events)
    go r true q h = absurd (not_both (sym h))
    go r false q h = r h (subst (In n) (sym (shut_off c d l k p.events q)) i)

history_on : (cs : List Call) (p : Point) → History p → History (after_calls p cs)
unfolding after_calls
history_on [] p h = h
history_on (c ∷ cs) p h = history_on cs (next p c) (called h c)

-- the last number is not smaller than any that was taken
not_behind : (n m : ℤ) (ns ms : List ℤ) → ms ≡ n ∷ ns → Smaller n ns → In m ms → lt_z n m ≡ false
unfolding In
not_behind n m ns ms e s i = go (subst (In m) e i)
  where
    back : (t : Bool) → lt_z n m ≡ t → lt_z m n ≡ true → lt_z n m ≡ false
    back true q l = absurd (not_both (sym (less_trans n m n q l) ∙ not_less n))
    back false q l = q

    go : (m ≡ n) ⊎ In m ns → lt_z n m ≡ false
    go (inl q) = ap (lt_z n) q ∙ not_less n
    go (inr q) = back (lt_z n m) refl (smaller_in n m ns s q)

-- a sender of which some number was taken is held, and the number held is not smaller
behind : (q : Point) → History q → (t : Stamp) → length t.id ≤ id_bytes → (ms : List ℤ)
    → numbers_of t.code t.id q.events ≡ ms → In t.number ms → stamping q.book t ≡ refused 27 t.numbered
unfolding In
behind q h t short [] e i = absurd i
behind q h t short (n ∷ ns) e i =
    let w = number_is_the_last q h t.code t.id n ns e in
    (refused_exactly q.book t 27 t.numbered).1
    (inr (inl (refl, refl, short, w.0, ap (λ (z : ℤ). lt_z z t.number) w.1 ∙ not_behind n t.number ns (n ∷ ns) refl w.2 i)))

-- the number of a message that was just taken
now_taken : (p : Point) (s : List ℕ) (e : Entry) → taking p.book s ≡ fine e
    → In e.stamp.number (numbers_of e.stamp.code e.stamp.id (next p (takes s)).events)
unfolding In next
now_taken p s e q =
    let t = e.stamp in
    let here = told_on t.code t.code t.id t.id t.number p.events (sender_self t.code t.id) in
    subst (λ (a : Answer Entry). In t.number (numbers_of t.code t.id (took_by a p.events))) (sym q)
    (subst (In t.number) (sym here) (inl refl))

pub no_message_twice : NoMessageTwice
no_message_twice p h s e cs q k =
    let t = e.stamp in
    let w = taken_by p.book s e q in
    let point = after_calls (next p (takes s)) cs in
    w.1 point.book
    ∙ behind point (history_on cs (next p (takes s)) (called h (takes s))) t w.0.1 _ refl
    (stays t.number t.code t.id cs (next p (takes s)) k (now_taken p s e q))
