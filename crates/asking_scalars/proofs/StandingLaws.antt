-- A field that was asked for stands in the message, since its parts do: its value bytes are there, and its mark before
-- them.
use Prim.Native.Nat.{ℕ, ◌+◌, ◌≤◌}
use mathlib.Core.Path.{◌≡◌, ap, ◌∙◌}
use mathlib.Core.List.{List, []}
use native.Mathlib.Omega.{arith}
use lib.ListN.{length}
use Rattle.sim0mq.specs.Answer.{fine}
use Rattle.sim0mq.specs.Codes.{counts_of, marking_of}
use Rattle.sim0mq.specs.Field.{Field}
use Rattle.sim0mq.specs.Allowed.{IsMark, with_display, with_currency, with_both, marks_asked}
use Rattle.asking.specs.Asking.{asked}
use Rattle.asking_scalars.specs.Scalars.{Standing}
use Rattle.asking.proofs.PartLaws.{asked_inside}
use Rattle.asking_scalars.proofs.OneLaws.{asked_one}
use Rattle.asking_scalars.proofs.BackLaws.{one_mark}

-- a mark has two bytes or more
mark_long : {m : List ℕ} → IsMark m → 2 ≤ length m
mark_long (with_display k d) = omega arith
mark_long (with_currency k c) = omega arith
mark_long (with_both k c d) = omega arith

pub asked_standing : (s : List ℕ) (k : ℕ) (f : Field) → asked s k ≡ fine f → Standing s f
unfolding marks_asked
asked_standing s k f q =
    record { within = asked_inside s k f q; sized = λ z. (asked_one s k f q z).size; marked = λ z m. after-mark z m }
  where
    after-mark : counts_of f.code ≡ 0 → marking_of f.code ≡ 1 → f.place + 3 ≤ f.first
    after-mark z m =
        let one = asked_one s k f q z in
        let mark = one_mark s (f.place + 1) one.marks (one.many ∙ ap (λ (n : ℕ). marks_asked n []) m) one.are one.there in
        let two = mark_long mark.1 in
        let long = mark.3 in
        let first = one.first in
        omega arith
