-- By its last bytes a file's trailer and index are judged as the whole file's are, or more of them are wanted; and a
-- message of a known place is judged as reading judges it.
use Prim.Native.Nat.{ℕ, ◌+◌, ◌-◌, ◌≤◌, ◌<◌}
use mathlib.Core.Path.{◌≡◌, refl, ap, ap₂, sym, ◌∙◌, subst}
use mathlib.Core.Bool.{Bool, true, false}
use mathlib.Core.Logic.{◌⊎◌, inl, inr}
use mathlib.Core.List.{List}
use native.Mathlib.Omega.{arith}
use lib.Dec.{leb, ltb}
use lib.ListN.{length, length-drop}
use borrow.Author.Tests.{leb-true, leb-false, ltb-true}
use Rattle.sim0mq.specs.Answer.{Answer, fine, refused, ◌>>=◌, ◌>>◌, guard}
use Rattle.sim0mq.specs.Message.{limit, Reading}
use Rattle.sim0mq.proofs.Answers.{not_fine, fine_eq}
use Rattle.dividing.specs.Run.{total}
use Rattle.recordings_format.specs.Edition.{trailer_size}
use Rattle.recordings_format.specs.Judge.{Trailer, Index, index, stretch, Placed, placed_in, asking}
use Rattle.recordings_format.proofs.IndexLaws.{index_says, total_nth}
use Rattle.recordings_index.specs.Tail.{Reached, there, wanted, index_in}
use Rattle.recordings_index.proofs.TailLaws.{Comes, whole, stopped, short, tail_comes, tail_wants}
use Rattle.recordings.specs.Recordings.{size_of}
use Rattle.recordings.proofs.StretchCases.{stretch_read, stretch_over}
use Rattle.recordings_reaching.specs.Reaching.{on_reached, placing, asking_in}
use Rattle.recordings_reaching.proofs.ReachLaws.{not_there, wanted_same}
use Rattle.recordings_reaching.specs.Promises.{last_of, AnswersAs, TailAnswersAsTheWhole, LongestTailIsEnough, WantedIsEnough}

-- a message of a right index
module _ (s : List ℕ) (n k : ℕ) (i : Index) (q : index s ≡ fine i) where
  abbrev ns : List ℕ
  ns = i.lengths

  abbrev p : Placed
  p = placed_in ns k

  lies : k < length ns → p.start + p.size ≤ length s
  lies h =
      let fills = (index_says s i q).fills in
      let inside = total_nth ns k h in
      below (total ns) _ fills inside
    where
      below : (x y : ℕ) → x + y + trailer_size ≡ length s → p.start + p.size ≤ x → p.start + p.size ≤ length s
      below x y e f = omega arith

  within : i.edition.most ≤ limit
  within = (index_says s i q).row.within

  refused_by : (a : Answer Reading) (j v : ℕ) → refused j v ≡ size_of a → (a >>= (λ m. fine p)) ≡ refused j v
  refused_by (fine m) j v e = absurd (not_fine e)
  refused_by (refused x y) j v e = let a : x ≡ j = cc in let b : y ≡ v = cc in ap₂ refused a b

  placed_as : AnswersAs s n k (placing i k)
  unfolding placing asking
  placed_as = go (ltb k (length ns)) refl
    where
      size : k < length ns → ltb k (length ns) ≡ true → (b : Bool) → leb p.size i.edition.most ≡ b
          → AnswersAs s n k (guard b 8 p.start >> fine (there p))
      size h e true f =
          let short = leb-true p.size i.edition.most f in
          let most = within in (
            simp (q, e) (ap (λ (a : Answer Reading). a >>= (λ m. fine p)) (stretch_read i.edition.most s p.start p.size short most)),
            lies h,
            omega arith,
          )
      size h e false f =
          let over = leb-false p.size i.edition.most f in
          simp (q, e)
          (refused_by (stretch i.edition.most s p.start p.size) 8 p.start
          (stretch_over i.edition.most s p.start p.size (lies h, within) over))

      go : (b : Bool) → ltb k (length ns) ≡ b
          → AnswersAs s n k (guard b 16 0 >> (guard (leb p.size i.edition.most) 8 p.start >> fine (there p)))
      go true e = size (ltb-true k (length ns) e) e (leb p.size i.edition.most) refl
      go false e = simp (q, e)

pub tail_answers_as_the_whole : TailAnswersAsTheWhole
unfolding asking_in asking
tail_answers_as_the_whole s n k = go (tail_comes s (length s - n) (omega arith))
  where
    go : {a : Answer (Reached Index)} → Comes s (length s - (length s - n)) a
        → AnswersAs s n k (a >>= (λ r. on_reached r (λ i. placing i k)))
    go (whole {i} q) = placed_as s n k i q
    go (stopped q) = simp q
    go (short {w} a b c) = (omega arith, b, c)

pub longest_tail_is_enough : LongestTailIsEnough
longest_tail_is_enough s n k w long q = go long (subst (λ (a : Answer (Reached Placed)). AnswersAs s n k a) q (tail_answers_as_the_whole s n k))
  where
    go : (32778 ≤ n) ⊎ (length s ≤ n) → AnswersAs s n k (fine (wanted w)) → ⊥
    go (inl h) (a, b, c) = omega arith
    go (inr h) (a, b, c) = omega arith

-- what is wanted is so by the index
index_wants : (s : List ℕ) (n k w : ℕ) → asking_in (length s) (last_of n s) k ≡ fine (wanted w)
    → index_in (length s) (last_of n s) ≡ fine (wanted w)
unfolding asking_in placing
index_wants s n k w q = go (index_in (length s) (last_of n s)) q
  where
    placed : (a b : Bool) (v : ℕ) (p : Placed) → (guard a 16 0 >> (guard b 8 v >> fine (there p))) ≡ fine (wanted w) → ⊥
    placed true true v p e = not_there (sym (fine_eq e))
    placed true false v p e = not_fine e
    placed false b v p e = not_fine e

    go : (a : Answer (Reached Index)) → (a >>= (λ r. on_reached r (λ i. placing i k))) ≡ fine (wanted w) → a ≡ fine (wanted w)
    go (fine (there i)) e =
        let p = placed_in i.lengths k in
        absurd (placed (ltb k (length i.lengths)) (leb p.size i.edition.most) p.start p e)
    go (fine (wanted v)) e = ap fine (wanted_same (fine_eq e))
    go (refused j p) e = absurd (not_fine e)

pub wanted_is_enough : WantedIsEnough
wanted_is_enough s n k w v had q r =
    let a = subst (λ (x : Answer (Reached Placed)). AnswersAs s n k x) q (tail_answers_as_the_whole s n k) in
    let b = subst (λ (x : Answer (Reached Placed)). AnswersAs s w k x) r (tail_answers_as_the_whole s w k) in
    let more = a.0 in
    let fits = a.1 in
    let again = b.0 in
    let first
    =
    tail_wants s (length s - n) (omega arith) (omega (arith, length-drop (length s - n) s)) (index_wants s n k w q) in
    let second
    =
    tail_wants s (length s - w) (omega arith) (omega (arith, length-drop (length s - w) s)) (index_wants s w k v r) in
    let same : first.trailed ≡ second.trailed = fine_eq (sym first.is ∙ second.is) in
    let place = ap (λ (t : Trailer). t.place) same in
    let one = first.from-there in
    let two = second.from-there in
    omega arith
