-- How the index is judged entry by entry: what the whole index comes to is what the entries left over come to, as long
-- as each states as its start where the one before ends.
use Prim.Native.Nat.{ℕ, suc, ◌+◌, ◌-◌, ◌*◌, ◌^◌, ◌≤◌, ◌<◌}
use mathlib.Core.Path.{◌≡◌, refl, ap, sym, ◌∙◌}
use mathlib.Core.Bool.{Bool, true, false}
use mathlib.Core.List.{List, [], ◌∷◌}
use native.Mathlib.Omega.{arith}
use lib.Dec.{eqb}
use borrow.Author.Tests.{eq-eqb, ne_eqb}
use Rattle.sim0mq.specs.Answer.{Answer, fine, refused, ◌>>=◌, ◌>>◌, guard, big}
use Rattle.recordings_format.specs.Edition.{most_messages}
use Rattle.recordings_format.specs.Judge.{entries_from}
use Rattle.recordings_index.specs.Index.{first_entry, entry_place, entry_at, Trailing, taken, tiled}
use Rattle.recordings_index.proofs.EntryCases.{four_bytes, entry_there}
use Rattle.recordings_index.specs.declared.Trailer.{Trailer}
use Rattle.recordings_index.specs.declared.Placed.{Placed}

-- one entry of an index, and none
entry_right : (s : List ℕ) (w : ℕ) (n p at end : ℕ) → big s p 4 ≡ at
    → taken (entries_from s w (suc n) p at end)
    ≡ taken (entries_from s w n (p + (4 + w)) (at + big s (p + 4) w) end)
unfolding entries_from
entry_right s w n p at end h =
    simp (eq-eqb (big s p 4) at h) (go (entries_from s w n (p + (4 + w)) (at + big s (p + 4) w) end))
  where
    go : (a : Answer (List ℕ)) → taken (a >>= (λ ns. fine (big s (p + 4) w ∷ ns))) ≡ taken a
    go (fine ns) = refl
    go (refused k v) = refl

entry_wrong : (s : List ℕ) (w : ℕ) (n p at end : ℕ) → (big s p 4 ≡ at → ⊥)
    → taken (entries_from s w (suc n) p at end) ≡ false
unfolding entries_from
entry_wrong s w n p at end h = simp (ne_eqb (big s p 4) at h)

entry_end : (s : List ℕ) (w : ℕ) (p at end : ℕ) → taken (entries_from s w 0 p at end) ≡ eqb at end
unfolding entries_from
entry_end s w p at end = go (eqb at end)
  where
    go : (t : Bool) → taken {A = List ℕ} (guard t 18 0 >> fine []) ≡ t
    go true = refl
    go false = refl

-- the entries stand one after the other
next_place : (n : ℕ) (tail : List ℕ) (t : Trailer) (k : ℕ)
    → entry_place n tail t k + (4 + t.edition.wide) ≡ entry_place n tail t (k + 1)
next_place n tail t k = omega arith

-- the loop over the entries: k of them tile the bytes up to `at`
pub record Tiling (n : ℕ) (tail : List ℕ) (t : Trailer) (at k : ℕ) : Type 0 where
  pub bound : at ≤ k * 4294967296
  pub same : tiled tail t.edition.wide (first_entry n tail t) t.entries t.place
      ≡ taken (entries_from tail t.edition.wide (t.entries - k) (entry_place n tail t k) at t.place)

pub tiling_start : (n : ℕ) (tail : List ℕ) (t : Trailer) → Tiling n tail t 0 0
unfolding tiled
tiling_start n tail t =
    let all : t.entries ≡ t.entries - 0 = omega arith in
    let first : first_entry n tail t ≡ entry_place n tail t 0 = omega arith in
    record { bound = omega arith; same = λ i. taken (entries_from tail t.edition.wide (all i) (first i) 0 t.place) }

module _ {n : ℕ} {tail : List ℕ} {t : Trailer} {at k : ℕ} (r : Trailing tail t.edition.wide (first_entry n tail t) t.entries)
    (u : Tiling n tail t at k) where
  abbrev answer : Bool
  answer = tiled tail t.edition.wide (first_entry n tail t) t.entries t.place

  pub tiling_end : t.entries ≤ k → eqb at t.place ≡ answer
  tiling_end h =
      let none : t.entries - k ≡ 0 = omega arith in
      sym
      (u.same
      ∙ ap (λ (m : ℕ). taken (entries_from tail t.edition.wide m (entry_place n tail t k) at t.place)) none
      ∙ entry_end tail t.edition.wide (entry_place n tail t k) at t.place)

  module _ (h : k < t.entries) {m : Placed} (is : m ≡ entry_at n tail t k) where
    -- the sum of the lengths does not wrap
    pub tiling-sum : m.length < 256 ^ t.edition.wide → at + m.length < 18446744073709551616
    unfolding most_messages
    tiling-sum b =
        let few = r.few in let bound = u.bound in let small = four_bytes t.edition.wide m.length r.narrow b in omega arith

    here : answer ≡ taken (entries_from tail t.edition.wide (suc (t.entries - (k + 1))) (entry_place n tail t k) at t.place)
    here =
        let left : t.entries - k ≡ suc (t.entries - (k + 1)) = omega arith in
        u.same ∙ ap (λ (j : ℕ). taken (entries_from tail t.edition.wide j (entry_place n tail t k) at t.place)) left

    read : m ≡ record { start = big tail (entry_place n tail t k) 4; length = big tail (entry_place n tail t k + 4) t.edition.wide }
    read = is ∙ entry_there n tail t r h

    pub tiling-wrong : (m.start ≡ at → ⊥) → false ≡ answer
    tiling-wrong d =
        sym (here ∙ entry_wrong tail t.edition.wide (t.entries - (k + 1)) (entry_place n tail t k) at t.place
        (λ z. d (ap (λ (p : Placed). p.start) read ∙ z)))

    pub tiling-turn : m.start ≡ at → m.length < 256 ^ t.edition.wide → Tiling n tail t (at + m.length) (k + 1)
    tiling-turn d b =
        let start : big tail (entry_place n tail t k) 4 ≡ at = sym (ap (λ (p : Placed). p.start) read) ∙ d in
        let size : big tail (entry_place n tail t k + 4) t.edition.wide ≡ m.length = sym (ap (λ (p : Placed). p.length) read) in
        let bound = u.bound in
        let small = four_bytes t.edition.wide m.length r.narrow b in
        record {
          bound = omega arith;
          same =
              here
              ∙ entry_right tail t.edition.wide (t.entries - (k + 1)) (entry_place n tail t k) at t.place start
              ∙ (λ i. taken (entries_from tail t.edition.wide (t.entries - (k + 1)) (next_place n tail t k i) (at + size i) t.place));
        }
