-- Ids are compared number by number: two are the same where code, length and every byte up to that length are.
use Prim.Native.Nat.{ℕ, ◌+◌, ◌≤◌, ◌<◌}
use mathlib.Core.Path.{◌≡◌, refl, sym, ap, ◌∙◌}
use mathlib.Core.Bool.{true, false}
use mathlib.Core.List.{List}
use native.Mathlib.Omega.{arith}
use native.Mathlib.Numerals.{add-one}
use lib.ListN.{length, get_or, take, drop, replicate, get_or-append}
use lib.Seq.{ext_get_or}
use lib.Dec.{leb, eqb}
use borrow.Author.Tests.{leb-true, le-leb, eqb-true, eq-eqb}
use Rattle.std.specs.Bool.{Decides}
use Rattle.std.specs.Str.{bytes_eq}
use Rattle.std.proofs.Math.Bool.{and_comm}
use Rattle.std.proofs.lemmas.Bool.{false_from_ne_true}
use Rattle.std.proofs.lemmas.Bool.Decides.{same_from_decides, Decides-eqb, Decides-below_and}
use Rattle.std.proofs.lemmas.List.{get_or-take, length-take-le}
use Rattle.std.proofs.lemmas.Slice.Eq.{bytes_eq-Decides}
use Rattle.sim0mq.specs.Table.{placed}
use Rattle.sim0mq.proofs.Answers.{and_true}
use Rattle.senders_book.specs.declared.Id.{Id}
use Rattle.senders_book.specs.declared.Sender.{Sender}
use Rattle.senders_book.specs.Book.{id_bytes, id_of, alike, same_id, holds}
use Rattle.senders_book.specs.Taking.{Stamp, holding}
use Rattle.senders_book.specs.Promises.{SameExactly}
use Rattle.senders_book.specs.History.{same_sender}

-- the first n numbers, one by one
module _ (xs ys : List ℕ) where
  alike_decides : (n : ℕ) → Decides (alike n xs ys) ((i : ℕ) → i < n → get_or xs i 0 ≡ get_or ys i 0)
  unfolding alike
  alike_decides =
      Decides-below_and
      (λ k. eqb (get_or xs k 0) (get_or ys k 0))
      (λ k. get_or xs k 0 ≡ get_or ys k 0)
      (λ n. alike n xs ys)
      (λ k. Decides-eqb (get_or xs k 0) (get_or ys k 0))
      refl
      (λ n. and_comm (alike n xs ys) (eqb (get_or xs n 0) (get_or ys n 0)))

  pub alike_start : alike 0 xs ys ≡ true
  unfolding alike
  alike_start = refl

  pub alike_more : (n : ℕ) → alike n xs ys ≡ true → get_or xs n 0 ≡ get_or ys n 0 → alike (n + 1) xs ys ≡ true
  unfolding alike
  alike_more n a e = rw (add-one n, a, eq-eqb _ _ e) refl

  pub alike_stops : (n k : ℕ) → k < n → (get_or xs k 0 ≡ get_or ys k 0 → ⊥) → alike n xs ys ≡ false
  alike_stops n k h d = false_from_ne_true (alike n xs ys) (λ e. d ((alike_decides n).0 e k h))

  -- they are the same where the slices of them are
  pub alike_slices : (n : ℕ) → n ≤ length xs → n ≤ length ys → bytes_eq (take n xs) (take n ys) ≡ alike n xs ys
  alike_slices n h k = same_from_decides _ _ (bytes_eq-Decides (take n xs) (take n ys)) (each, same)
    where
      same : take n xs ≡ take n ys → alike n xs ys ≡ true
      same e =
          (alike_decides n).1
          (λ i l. sym (get_or-take n xs i 0 l) ∙ (ap (λ (z : List ℕ). get_or z i 0) e ∙ get_or-take n ys i 0 l))

      each : alike n xs ys ≡ true → take n xs ≡ take n ys
      each e =
          let long = length-take-le n xs h in
          ext_get_or 0 (take n xs) (take n ys) (long ∙ sym (length-take-le n ys k))
          (λ i l.
          let m : i < n = omega arith in
          get_or-take n xs i 0 m ∙ ((alike_decides n).0 e i m ∙ sym (get_or-take n ys i 0 m)))

-- what two ids that are the same have in common
record Common (x y : Id) : Type 0 where
  code : x.code ≡ y.code
  size : x.length ≡ y.length
  short : y.length ≤ id_bytes
  bytes : (i : ℕ) → i < y.length → get_or x.bytes i 0 ≡ get_or y.bytes i 0

common : (x y : Id) → same_id x y ≡ true → Common x y
unfolding same_id
common x y e =
    let a = and_true (eqb x.code y.code) _ e in
    let b = and_true (eqb x.length y.length) _ a.1 in
    let c = and_true (leb y.length id_bytes) _ b.1 in
    record {
      code = eqb-true _ _ a.0;
      size = eqb-true _ _ b.0;
      short = leb-true _ _ c.0;
      bytes = (alike_decides x.bytes y.bytes y.length).0 c.1;
    }

same_by : (x y : Id) → Common x y → same_id x y ≡ true
unfolding same_id
same_by x y c =
    rw
    (eq-eqb _ _ c.code, eq-eqb _ _ c.size, le-leb _ _ c.short, (alike_decides x.bytes y.bytes y.length).1 c.bytes)
    refl

-- ids that are the same as a third are the same
pub same_as : (x y z : Id) → same_id x z ≡ true → same_id y z ≡ true → same_id x y ≡ true
same_as x y z p q =
    let a = common x z p in
    let b = common y z q in
    let n = b.size in
    let h = b.short in
    same_by x y
    (record {
      code = a.code ∙ sym b.code;
      size = a.size ∙ sym b.size;
      short = omega arith;
      bytes = λ i l. a.bytes i (omega arith) ∙ sym (b.bytes i (omega arith));
    })

-- the value bytes of an id, at the front of its zeros
bytes_at : (l : List ℕ) (i : ℕ) → i < length l → get_or (placed (replicate id_bytes 0) 0 l) i 0 ≡ get_or l i 0
unfolding placed
bytes_at l i h = get_or-append l (drop (0 + length l) (replicate id_bytes 0)) 0 i h

pub same_self : (c : ℕ) (l : List ℕ) → length l ≤ id_bytes → same_id (id_of c l) (id_of c l) ≡ true
same_self c l h = same_by (id_of c l) (id_of c l) (record { code = refl; size = refl; short = h; bytes = λ i j. refl })

-- what is the same as two senders makes them one
pub same_both : (x : Id) (c d : ℕ) (l k : List ℕ) → same_id x (id_of c l) ≡ true → same_id x (id_of d k) ≡ true
    → (c ≡ d) × (l ≡ k)
same_both x c d l k p q =
    let a = common x (id_of c l) p in
    let b = common x (id_of d k) q in
    let n : length l ≡ length k = sym a.size ∙ b.size in (
      sym a.code ∙ b.code,
      ext_get_or 0 l k n
          (λ i h. sym (bytes_at l i h) ∙ (sym (a.bytes i h) ∙ (b.bytes i (omega arith) ∙ bytes_at k i (omega arith)))),
    )

pub same_exactly : SameExactly
same_exactly c d l k hl hk = (
  same_both (id_of c l) c d l k (same_self c l hl),
  λ w. ap (λ (x : Id). same_id x (id_of d k)) (λ i. id_of (w.0 i) (w.1 i)) ∙ same_self d k hk,
)

-- an id that is somebody's is not too long
pub same_short : (x : Id) (c : ℕ) (l : List ℕ) → same_id x (id_of c l) ≡ true → length l ≤ id_bytes
same_short x c l e = (common x (id_of c l) e).short

pub same_long : (x : Id) (c : ℕ) (l : List ℕ) → id_bytes < length l → same_id x (id_of c l) ≡ true → ⊥
same_long x c l h e = let n = same_short x c l e in omega arith

-- the same sender, by type code and value bytes
pub sender_true : (c d : ℕ) (l k : List ℕ) → same_sender c l d k ≡ true → (c ≡ d) × (l ≡ k)
unfolding same_sender
sender_true c d l k e =
    let a = and_true (eqb c d) _ e in
    let b = and_true (eqb (length l) (length k)) _ a.1 in
    let n : length l ≡ length k = eqb-true _ _ b.0 in
    (eqb-true _ _ a.0, ext_get_or 0 l k n (λ i h. (alike_decides l k (length k)).0 b.1 i (omega arith)))

pub sender_self : (c : ℕ) (l : List ℕ) → same_sender c l c l ≡ true
unfolding same_sender
sender_self c l = rw (eq-eqb c c refl, eq-eqb (length l) (length l) refl, (alike_decides l l (length l)).1 (λ i h. refl)) refl

pub sender_sym : (c d : ℕ) (l k : List ℕ) → same_sender c l d k ≡ true → same_sender d k c l ≡ true
sender_sym c d l k h =
    let w = sender_true c d l k h in
    ap (λ (j : ℕ). same_sender d k j l) w.0 ∙ (ap (same_sender d k d) w.1 ∙ sender_self d k)

-- a place and an id
module _ (e : Sender) (id : Id) where
  pub holds_none : e.held ≡ false → false ≡ holds e id
  unfolding holds
  holds_none h = rw h refl

  pub holds_same : holds e id ≡ true → same_id e.id id ≡ true
  unfolding holds
  holds_same h = (and_true e.held _ h).1

pub holds_as : (e f : Sender) (id : Id) → holds e id ≡ true → holds f id ≡ true → holds e f.id ≡ true
unfolding holds
holds_as e f id p q =
    let a = and_true e.held _ p in
    let b = and_true f.held _ q in
    rw a.0 (same_as e.id f.id id a.1 b.1)

pub holds_own : (t : Stamp) → length t.id ≤ id_bytes → holds (holding t) (id_of t.code t.id) ≡ true
unfolding holds
holds_own t h = same_self t.code t.id h
