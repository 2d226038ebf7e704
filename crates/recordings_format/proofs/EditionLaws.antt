-- What each edition's row sees to: its number, its lengths and its places fit the bytes that they are written in; and
-- the number of a listed edition finds it.
use Prim.Native.Nat.{ℕ, ◌*◌, ◌<◌, ◌≤◌, ◌^◌}
use mathlib.Core.Path.{◌≡◌, refl, sym, subst}
use mathlib.Core.Bool.{Bool, true, false, cond, ◌&&◌}
use mathlib.Core.List.{List, [], ◌∷◌}
use lib.Dec.{leb, ltb, eqb}
use borrow.Author.Tests.{leb-true, ltb-true, eqb-true}
use Rattle.sim0mq.specs.Answer.{fine}
use Rattle.sim0mq.specs.Allowed.{Each, none, more}
use Rattle.sim0mq.specs.Message.{limit}
use Rattle.sim0mq.proofs.Answers.{not_fine, fine_eq, and_true}
use Rattle.recordings_format.specs.Edition.{Edition, first, second, newest, editions, Listed, here, later, edition_in, edition_of, most_messages}

pub record Row (e : Edition) : Type 0 where
  pub numbered : e.number < 2 ^ (8 * 2)
  pub narrow : e.length_bytes ≤ 4
  pub some : 0 < e.most
  pub wide : e.most < 2 ^ (8 * e.length_bytes)
  pub placed : most_messages * e.most < 2 ^ (8 * 4)
  pub within : e.most ≤ limit
  pub found : edition_of e.number ≡ fine e

-- a row sees to it where its numbers pass one test, and its number finds it
abbrev fits : Edition → Bool
fits e =
    ltb e.number (2 ^ (8 * 2))
    && leb e.length_bytes 4
    && ltb 0 e.most
    && ltb e.most (2 ^ (8 * e.length_bytes))
    && ltb (most_messages * e.most) (2 ^ (8 * 4))
    && leb e.most limit

row_by : (e : Edition) → fits e ≡ true → edition_of e.number ≡ fine e → Row e
row_by e h found =
    let a = and_true _ _ h in
    let b = and_true _ _ a.0 in
    let c = and_true _ _ b.0 in
    let d = and_true _ _ c.0 in
    let f = and_true _ _ d.0 in
    record {
      numbered = ltb-true _ _ f.0;
      narrow = leb-true _ _ f.1;
      some = ltb-true _ _ d.1;
      wide = ltb-true _ _ c.1;
      placed = ltb-true _ _ b.1;
      within = leb-true _ _ a.1;
      found = found;
    }

rows : Each Row editions
unfolding most_messages limit edition_in
rows = more (row_by first refl refl) (more (row_by second refl refl) none)

each_listed : (P : Edition → Type 0) (es : List Edition) (e : Edition) → Each P es → Listed e es → P e
each_listed P [] e _ l = elim l [ ]
each_listed P (f ∷ es) e (more p ps) here = p
each_listed P (f ∷ es) e (more p ps) (later l) = each_listed P es e ps l

pub listed_row : (e : Edition) → Listed e editions → Row e
listed_row e l = each_listed Row editions e rows l

-- what is found by a number is listed, and has that number
listed_in : (es : List Edition) (n : ℕ) (e : Edition) → edition_in es n ≡ fine e → Listed e es × (e.number ≡ n)
unfolding edition_in
listed_in [] n e q = absurd (not_fine q)
listed_in (x ∷ es) n e q = go (eqb n x.number) refl q (λ k. listed_in es n e k)
  where
    go : (t : Bool) → eqb n x.number ≡ t → cond t (fine x) (edition_in es n) ≡ fine e
        → (edition_in es n ≡ fine e → Listed e es × (e.number ≡ n)) → Listed e (x ∷ es) × (e.number ≡ n)
    go true h k others =
        subst (λ (y : Edition). Listed y (x ∷ es) × (y.number ≡ n)) (fine_eq k) (here, sym (eqb-true n x.number h))
    go false h k others = let o = others k in (later o.0, o.1)

pub found_listed : (n : ℕ) (e : Edition) → edition_of n ≡ fine e → Listed e editions × (e.number ≡ n)
found_listed n e q = listed_in editions n e q

pub found_row : (n : ℕ) (e : Edition) → edition_of n ≡ fine e → Row e
found_row n e q = listed_row e (found_listed n e q).0

-- the edition that is written is listed, and takes what reading takes
pub newest_listed : Listed newest editions
newest_listed = later here

pub newest_most : newest.most ≡ limit
unfolding limit
newest_most = refl
