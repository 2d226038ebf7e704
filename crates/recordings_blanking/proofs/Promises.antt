-- Demand 3 of a message, and the tiling, give what is promised of a recording.
use Prim.Native.Nat.{ℕ}
use mathlib.Core.Path.{ap, sym, ◌∙◌}
use mathlib.Core.List.{List, []}
use native.Mathlib.Omega.{arith}
use lib.ListN.{length, get_or}
use borrow.Author.Tests.{le-leb, lt-leb}
use Rattle.dividing.specs.Run.{stretches}
use Rattle.dividing.proofs.RunLaws.{stretches_many}
use Rattle.recordings_blanking.specs.Blanking.{copy_of, blanked_recording, blanking_recording}
use Rattle.recordings_blanking.specs.Promises.{
  RecordingCopyIsBlank,
  RecordingCopyOpensAlike,
  AskedOfTheCopy,
  RecordingCopyTellsOnlyTheBuild,
  BlankedOrRefused,
}
use Rattle.recordings_blanking.proofs.CopyLaws.{nth_is, copied_nth, copy_blank, copy_cut, copy_opens, opened_asks, same_build, same_entries, same_copy}

pub recording_copy_is_blank : RecordingCopyIsBlank
recording_copy_is_blank s i q = copy_blank s i q

pub recording_copy_opens_alike : RecordingCopyOpensAlike
recording_copy_opens_alike s i q = copy_opens s i q

pub asked_of_the_copy : AskedOfTheCopy
asked_of_the_copy s i k q h =
    let ns = i.lengths in
    let copy = blanked_recording s ns in (
      opened_asks copy i (copy_opens s i q) k h ∙ sym (opened_asks s i q k h),
      sym (nth_is copy ns k h)
          ∙ ap (λ (l : List (List ℕ)). get_or l k []) (copy_cut s i q)
          ∙ copied_nth (stretches s 0 ns) k (omega (arith, stretches_many s 0 ns))
          ∙ ap copy_of (nth_is s ns k h),
    )

pub recording_copy_tells_only_the_build : RecordingCopyTellsOnlyTheBuild
recording_copy_tells_only_the_build s t i j q r = ((same_build s t i j q r, same_copy s t i j q r), same_entries s t i j q r)

pub blanked_or_refused : BlankedOrRefused
unfolding blanking_recording
blanked_or_refused room s = (λ k p q. simp q, λ i q. (λ h. simp (q, lt-leb (length s) room h), λ h. simp (q, le-leb (length s) room h)))
