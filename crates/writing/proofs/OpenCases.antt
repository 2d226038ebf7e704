-- What opening hands back, told by the answer for the header: a refusal, or its length.
use Prim.Native.Nat.{ℕ}
use mathlib.Core.Path.{◌≡◌, refl, sym, ap, ◌∙◌}
use mathlib.Core.Bool.{true, false}
use mathlib.Core.List.{List}
use lib.IntN.{ℤ}
use Rattle.std.specs.Prelude.{Option, None, Some, unwrap_or}
use Rattle.sim0mq.specs.Answer.{Answer, fine, refused, length_of}
use Rattle.sim0mq.proofs.Answers.{not_fine, fine_eq}
use Rattle.writing_opening.specs.Opening.{header_given, buffer_after}
use Rattle.writing.specs.Writing.{Opening, count_code, opening, Handed, after_opening}

-- the code of the count's type, where 2 stands for one that is not stated
pub code_given : (kind : Option ℕ) → unwrap_or kind 2 ≡ count_code kind
unfolding count_code
code_given None = refl
code_given (Some c) = refl

-- what a refused opening hands back, and a granted one of n bytes
abbrev shut : ℕ → ℕ → Handed
shut k p = record { said = refused k p; writer = record { written = 0; declared = 0; added = 0; closed = true } }

abbrev opened : Opening → ℕ → Handed
opened o n = record { said = fine n; writer = record { written = n; declared = o.fields; added = 0; closed = false } }

shut_as : (o : Opening) (k p : ℕ) (a : Answer (List ℕ)) → refused k p ≡ length_of a → shut k p ≡ after_opening o a
shut_as o k p (fine l) e = absurd (not_fine e)
shut_as o k p (refused r w) e = cc

opened_as : (o : Opening) (n : ℕ) (a : Answer (List ℕ)) → fine n ≡ length_of a → opened o n ≡ after_opening o a
opened_as o n (fine l) e = ap (opened o) (fine_eq e)
opened_as o n (refused r w) e = absurd (not_fine (sym e))

-- the header is judged and written for the code of the count's type
module _ (o : Opening) (out last : List ℕ) (room c : ℕ) (y : ℤ) (e : c ≡ count_code o.kind) (z : y ≡ o.number)
    (left : last ≡ buffer_after out 0 (header_given o.ids y o.status c o.fields room)) where
  same : header_given o.ids y o.status c o.fields room ≡ opening o room
  same = rw (e, z)

  pub opening_refused : (k p : ℕ) → refused k p ≡ length_of (header_given o.ids y o.status c o.fields room)
      → (shut k p ≡ after_opening o (opening o room)) × (last ≡ buffer_after out 0 (opening o room))
  opening_refused k p q = (shut_as o k p (opening o room) (q ∙ ap length_of same), left ∙ ap (buffer_after out 0) same)

  pub opening_granted : (n : ℕ) → fine n ≡ length_of (header_given o.ids y o.status c o.fields room)
      → (opened o n ≡ after_opening o (opening o room)) × (last ≡ buffer_after out 0 (opening o room))
  opening_granted n q = (opened_as o n (opening o room) (q ∙ ap length_of same), left ∙ ap (buffer_after out 0) same)
