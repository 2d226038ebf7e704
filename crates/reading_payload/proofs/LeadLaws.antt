-- A payload that a run of fields leads is the run's fields and those that are judged after it.
use Prim.Native.Nat.{ℕ, zero, suc, ◌+◌, ◌*◌, ◌≤◌}
use mathlib.Core.Path.{◌≡◌, refl, ap, sym, ◌∙◌}
use mathlib.Core.List.{List, [], ◌∷◌, ◌++◌, map}
use native.Mathlib.Omega.{arith}
use native.Mathlib.Nat.{zero-add}
use lib.ListN.{length, drop, length-drop}
use Rattle.sim0mq.specs.Answer.{Answer, fine, refused, ◌>>=◌}
use Rattle.sim0mq.specs.Field.{Field}
use Rattle.sim0mq.specs.Message.{limit}
use Rattle.sim0mq.specs.Payload.{payload_from, payload, moved, steps}
use Rattle.sim0mq.specs.Table.{row_size, rows, stored}
use Rattle.sim0mq.proofs.Answers.{bind_fine, fine_eq, not_fine}
use Rattle.reading_runs.specs.Runs.{plain_at, alike_fields, far, run_at}
use Rattle.reading_runs.specs.declared.Run.{Run}
use Rattle.reading_runs.proofs.RunLaws.{Standing, Lead, lead}
use Rattle.reading_parts.specs.Parts.{steps_from, rest_steps, part_steps}
use Rattle.reading_parts.specs.Kept.{kept_rest}
use Rattle.reading_parts.proofs.PartCases.{rest_start}
use Rattle.reading_parts.proofs.RunCases.{after_plain, steps_run}
use Rattle.reading_payload.specs.Parts.{payload_steps}
use Rattle.reading_payload.proofs.PayloadCases.{refused_within, at_refused, at_accepted}
use Rattle.reading_payload.proofs.KeptLaws.{kept_from}

-- steps counted before are added to those from a place on
module _ (s : List ℕ) (n at k : ℕ) where
  counted_refused : (r p : ℕ) → steps_from s n at 0 ≡ refused r p → steps_from s n at k ≡ refused r p
  unfolding steps_from
  counted_refused r p e = go (payload_from s n at) refl e
    where
      go : (a : Answer (List Field)) → payload_from s n at ≡ a → (a >>= (λ fs. fine (0 + steps fs))) ≡ refused r p → (a >>= (λ fs. fine (k + steps fs))) ≡ refused r p
      go (fine fs) q e = absurd (not_fine (sym e))
      go (refused r w) q e = e

  counted_fine : (j : ℕ) → steps_from s n at 0 ≡ fine j → steps_from s n at k ≡ fine (k + j)
  unfolding steps_from
  counted_fine j e = let a = bind_fine (payload_from s n at) _ e in let same = fine_eq a.2 in simp a.1 (ap fine (omega arith))

-- fields that stand one after the other come first, and then those after them
payload_run : (s : List ℕ) (c w m n left at end : ℕ) → Standing s c w m at → far w m at ≡ end → n ≡ m + left
    → payload_from s n at ≡ (payload_from s left end >>= (λ fs. fine (alike_fields c w m at ++ fs)))
unfolding Standing far alike_fields payload_from
payload_run s c w zero n left at end st e q =
    let same : n ≡ left = omega arith in
    rw (same, e) (sym (whole (payload_from s left end)))
  where
    whole : (a : Answer (List Field)) → (a >>= (λ fs. fine ([] ++ fs))) ≡ a
    whole (fine fs) = refl
    whole (refused k p) = refl
payload_run s c w (suc m) n left at end st e q =
    let more : n ≡ suc (m + left) = omega arith in
    let rest = payload_run s c w m (m + left) left (at + (w + 1)) end st.1 e refl in
    rw more
    (simp (st.0, after_plain s 0 c w at, rest) (same (payload_from s left end)))
  where
    same : (a : Answer (List Field))
        → ((a >>= (λ fs. fine (alike_fields c w m (at + (w + 1)) ++ fs))) >>= (λ fs. fine (plain_at c w at ∷ fs)))
        ≡ (a >>= (λ fs. fine ((plain_at c w at ∷ alike_fields c w m (at + (w + 1))) ++ fs)))
    same (fine fs) = refl
    same (refused k p) = refl

-- a payload of n fields, of which a run leads it and so many are left
module _ (s : List ℕ) (next n left : ℕ) (within : next ≤ length s) (r : Run) (e : r ≡ run_at (drop next s) 0 n) (q : n ≡ r.fields + left) where
  pub run : Lead (drop next s) 0 n r
  run = lead (drop next s) 0 n r e

  from_here : part_steps (drop next s) n ≡ steps_from (drop next s) left r.end r.fields
  unfolding part_steps
  from_here = steps_run (drop next s) 0 r.code r.size r.fields n left 0 0 r.fields r.end run.stand run.ends q (sym (zero-add r.fields))

  pub lead_within : r.end ≤ length (drop next s)
  lead_within = run.within (omega arith)

  rest_here : rest_steps (drop next s) r.end left ≡ steps_from (drop next s) left r.end 0
  rest_here = rest_start (drop next s) r.end left lead_within

  pub lead_stopped : (k p : ℕ) → rest_steps (drop next s) r.end left ≡ refused k p → part_steps (drop next s) n ≡ refused k p
  lead_stopped k p a = from_here ∙ counted_refused (drop next s) left r.end r.fields k p (sym rest_here ∙ a)

  pub lead_refused : (k p : ℕ) → rest_steps (drop next s) r.end left ≡ refused k p → refused k (next + p) ≡ payload_steps s next n
  lead_refused k p a = at_refused s next n within k p (lead_stopped k p a)

  pub lead_inside : (k p : ℕ) → rest_steps (drop next s) r.end left ≡ refused k p → next + p ≤ length s
  lead_inside k p a = let inside = refused_within (drop next s) n k p (lead_stopped k p a) in omega (arith, length-drop next s)

  pub lead_accepted : (k : ℕ) → rest_steps (drop next s) r.end left ≡ fine k → fine (r.fields + k) ≡ payload_steps s next n
  lead_accepted k a = at_accepted s next n within (r.fields + k) (from_here ∙ counted_fine (drop next s) left r.end r.fields k (sym rest_here ∙ a))

  -- its fields, and the rows that are kept of those after the run
  pub lead_fields : (k : ℕ) → rest_steps (drop next s) r.end left ≡ fine k
      → (fs : List Field) × (payload_from (drop next s) left r.end ≡ fine fs)
      × (payload (drop next s) n ≡ fine (alike_fields r.code r.size r.fields 0 ++ fs))
  unfolding steps_from payload
  lead_fields k a =
      let b = bind_fine (payload_from (drop next s) left r.end) _ (sym rest_here ∙ a) in
      (b.0, b.1, payload_run (drop next s) r.code r.size r.fields n left 0 r.end run.stand run.ends q ∙ simp b.1)

  pub lead_kept : (fs : List Field) (kept : List ℕ) → payload_from (drop next s) left r.end ≡ fine fs → length s ≤ limit → row_size * left ≤ length kept
      → kept_rest (drop next s) next r.end left 0 kept ≡ stored kept (rows (map (moved next) fs))
  unfolding kept_rest
  lead_kept fs kept b short room =
      let long : next + length (drop next s) ≡ length s = omega (arith, length-drop next s) in
      rw long (kept_from (drop next s) next left r.end (length s) fs kept b short room)
