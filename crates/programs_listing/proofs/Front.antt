-- Where the buffer is long enough, the pieces of text that the contracts of `listing` and `first_line` cite stand at
-- its front, in order, without a gap: each is pasted in where the one before ended. Assumes nothing.
use Prim.Native.Nat.{ℕ, ◌≤◌}
use mathlib.Core.Path.{◌≡◌, ◌∙◌, ap}
use mathlib.Core.List.{List, []}
use lib.ListN.{length, take, drop}
use lib.Seq.{take-append_seam, drop-append_seam}
use borrow.Author.Tests.{le-leb}
use Rattle.sim0mq.specs.Allowed.{joined}
use Rattle.programs_listing.specs.Put.{out_after, bytes_before, bytes_written}
use Rattle.programs_listing.proofs.PutCases.{put_fits}

-- The answer counts the bytes of the texts; so many bytes at the front are the texts, end to end; and the bytes after
-- them are as they were.
pub record AtFront (out : List ℕ) (texts : List (List ℕ)) : Type 0 where
  pub count : bytes_written out texts ≡ length (joined texts)
  pub text : take (length (joined texts)) (out_after out texts) ≡ joined texts
  pub rest : drop (length (joined texts)) (out_after out texts) ≡ drop (length (joined texts)) out

pub at_front : (out : List ℕ) (texts : List (List ℕ)) → length (joined texts) ≤ length out → AtFront out texts
unfolding out_after bytes_before bytes_written
at_front out texts h =
    let n = length (joined texts) in
    let f = put_fits [] out texts h in
    record {
      count = rw (le-leb n (length out) h);
      text = ap (take n) f ∙ take-append_seam (joined texts) (drop n out);
      rest = ap (drop n) f ∙ drop-append_seam (joined texts) (drop n out);
    }
