-- How the payload that begins at a place of a message is judged, case by case: as the part that it is, with its refusal
-- moved, and past the message's end by 1.
use Prim.Native.Nat.{ℕ, ◌+◌, ◌-◌, ◌≤◌, ◌<◌, zero-le}
use mathlib.Core.Path.{◌≡◌, refl, ap, sym, ◌∙◌, subst}
use mathlib.Core.List.{List}
use native.Mathlib.Omega.{arith}
use native.Mathlib.Nat.{zero-add}
use lib.ListN.{length, take, drop, length-drop}
use lib.Seq.{take_all}
use borrow.Author.Tests.{le-leb, lt-leb}
use Rattle.sim0mq.specs.Answer.{Answer, fine, refused, ◌>>=◌, part_at}
use Rattle.sim0mq.specs.Field.{Field}
use Rattle.sim0mq.specs.Payload.{payload_from, payload, steps}
use Rattle.sim0mq.proofs.Answers.{bind_fine, fine_eq, not_fine}
use Rattle.sim0mq.proofs.Refusals.{Held, payload_placed}
use Rattle.sim0mq.specs.Demand1.{judging_numbers}
use Rattle.reading_parts.specs.Parts.{steps_from, part_steps}
use Rattle.reading_payload.specs.Parts.{payload_steps}

-- the part from a place to the end is what is left there
pub part_all : (s : List ℕ) (b : ℕ) → take (length s - b) (drop b s) ≡ drop b s
part_all s b = take_all (length s - b) (drop b s) (omega (arith, length-drop b s))

-- a refusal is its number and its place, whatever was asked
same_refusal : {A B : Type 0} {k p r w : ℕ} → ◌≡◌ {A = Answer A} (refused r w) (refused k p) → ◌≡◌ {A = Answer B} (refused r w) (refused k p)
same_refusal e = cc

-- a part's steps, and its fields
module _ (s : List ℕ) (n : ℕ) where
  pub steps_refused : (k p : ℕ) → part_steps s n ≡ refused k p → payload s n ≡ refused k p
  unfolding part_steps steps_from payload
  steps_refused k p e = go (payload_from s n 0) refl e
    where
      go : (a : Answer (List Field)) → payload_from s n 0 ≡ a → (a >>= (λ fs. fine (0 + steps fs))) ≡ refused k p → payload_from s n 0 ≡ refused k p
      go (fine fs) q e = absurd (not_fine (sym e))
      go (refused r w) q e = q ∙ same_refusal e

  pub steps_accepted : (k : ℕ) → part_steps s n ≡ fine k → (fs : List Field) × (payload s n ≡ fine fs) × (steps fs ≡ k)
  unfolding part_steps steps_from payload
  steps_accepted k e =
      let a = bind_fine (payload_from s n 0) _ e in (a.0, a.1, sym (zero-add (steps a.0)) ∙ fine_eq a.2)

  pub refused_within : (k p : ℕ) → part_steps s n ≡ refused k p → p ≤ length s
  unfolding payload
  refused_within k p e = (subst (λ (a : Answer (List Field)). Held judging_numbers (length s) a) (steps_refused k p e) (payload_placed s n 0 zero-le)).1

-- the payload that begins at a place of a message
module _ (s : List ℕ) (next n : ℕ) where
  pub at_short : length s < next → refused 1 (length s) ≡ payload_steps s next n
  unfolding payload_steps
  at_short h = simp (lt-leb (next + 0) (length s) (omega arith))

  pub at_refused : next ≤ length s → (k p : ℕ) → part_steps (drop next s) n ≡ refused k p → refused k (next + p) ≡ payload_steps s next n
  unfolding payload_steps
  at_refused h k p e = simp (le-leb (next + 0) (length s) (omega arith), steps_refused (drop next s) n k p e)

  pub at_accepted : next ≤ length s → (k : ℕ) → part_steps (drop next s) n ≡ fine k → fine k ≡ payload_steps s next n
  unfolding payload_steps
  at_accepted h k e =
      let a = steps_accepted (drop next s) n k e in
      simp (le-leb (next + 0) (length s) (omega arith), a.1, a.2)

  -- and what its steps say of its fields
  module _ (within : next ≤ length s) where
    at-is : payload_steps s next n ≡ (part_at next (payload (drop next s) n) >>= (λ fs. fine (steps fs)))
    unfolding payload_steps
    at-is = simp (le-leb (next + 0) (length s) (omega arith))

    pub at-stopped : (k w : ℕ) → payload_steps s next n ≡ refused k w → part_at next (payload (drop next s) n) ≡ refused k w
    at-stopped k w e = go (part_at next (payload (drop next s) n)) (sym at-is ∙ e)
      where
        go : (b : Answer (List Field)) → (b >>= (λ fs. fine (steps fs))) ≡ refused k w → b ≡ refused k w
        go (fine fs) e = absurd (not_fine (sym e))
        go (refused r v) e = same_refusal e

    pub at-taken : (k : ℕ) → payload_steps s next n ≡ fine k → (fs : List Field) × (payload (drop next s) n ≡ fine fs) × (steps fs ≡ k)
    at-taken k e = go (payload (drop next s) n) refl (sym at-is ∙ e)
      where
        go : (b : Answer (List Field)) → payload (drop next s) n ≡ b → (part_at next b >>= (λ fs. fine (steps fs))) ≡ fine k
            → (fs : List Field) × (payload (drop next s) n ≡ fine fs) × (steps fs ≡ k)
        go (fine fs) d e = (fs, d, fine_eq e)
        go (refused r v) d e = absurd (not_fine e)

-- a payload that begins at 0 is all there is
module _ (s : List ℕ) (n : ℕ) where
  pub alone_refused : (k p : ℕ) → payload_steps s 0 n ≡ refused k p → payload s n ≡ refused k p
  alone_refused k p e = sym (unmoved (payload s n)) ∙ at-stopped s 0 n zero-le k p e
    where
      unmoved : (a : Answer (List Field)) → part_at 0 a ≡ a
      unmoved (fine fs) = refl
      unmoved (refused k p) = ap (refused k) (zero-add p)

  pub alone_accepted : (k : ℕ) → payload_steps s 0 n ≡ fine k → (fs : List Field) × (payload s n ≡ fine fs) × (steps fs ≡ k)
  alone_accepted k e = at-taken s 0 n zero-le k e
