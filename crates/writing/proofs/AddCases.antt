-- How adding and closing answer, case by case, in the words of the code's tests.
use Prim.Native.Nat.{ℕ, ◌+◌, ◌-◌, ◌≤◌, ◌<◌}
use mathlib.Core.Path.{◌≡◌, refl, ap, sym, ◌∙◌}
use mathlib.Core.Bool.{Bool, true, false, not}
use mathlib.Core.List.{List}
use native.Mathlib.Omega.{arith}
use lib.ListN.{length, take, drop, length-append}
use lib.Dec.{leb, ltb}
use borrow.Author.Tests.{le-leb, lt-leb, ltb-true, leb-true}
use Rattle.std.specs.Prelude.{Option, None, Some, Result, Ok, Err}
use Rattle.std.specs.Result.{IsErrAnd}
use Rattle.sim0mq.specs.declared.Refusal.{Refusal}
use Rattle.sim0mq.specs.Views.{number_of}
use Rattle.sim0mq.specs.Answer.{Answer, fine, refused}
use Rattle.sim0mq.specs.Message.{limit}
use Rattle.sim0mq.proofs.Answers.{and_true}
use Rattle.reading_payload.specs.Parts.{payload_steps}
use Rattle.reading_payload.proofs.PayloadCases.{alone_refused, alone_accepted}
use Rattle.sim0mq_kinds.specs.declared.Scalar.{Scalar}
use Rattle.writing_encoding.specs.Scalars.{scalar_text, writable, scalar_given}
use Rattle.sim0mq.specs.Table.{placed}
use Rattle.writing_opening.specs.Opening.{fitting, buffer_after}
use Rattle.writing.specs.Writing.{Given, encoded, scalar, field_given, takes, adding, Handed, after_adding, handed}
use Rattle.writing_encoding.specs.Encoded.{field_in, encoded_as}
use Rattle.writing_encoding.specs.declared.Encoded.{Encoded}
use Rattle.writing.specs.declared.Writer.{Writer}
use Rattle.sim0mq_buffers.proofs.PlaceLaws.{front_stands}

-- what a state is that takes a field
module _ (w : Writer) (room : ℕ) where
  pub takes_within : takes w room ≡ true → (w.added < w.declared) × (w.written ≤ limit) × (w.written ≤ room)
  unfolding takes
  takes_within e =
      let a = and_true (ltb w.added w.declared) _ e in
      let b = and_true (not w.closed) _ a.1 in
      let d = and_true (leb w.written limit) (leb w.written room) b.1 in
      (ltb-true _ _ a.0, leb-true _ _ d.0, leb-true _ _ d.1)

-- a text after what is written: the message is too long, there is no room, it fits
module _ (written room : ℕ) (text : List ℕ) (short : written ≤ limit) where
  pub fitting_long : limit - written < length text → fitting written room text ≡ refused 8 0
  unfolding fitting
  fitting_long h = simp (lt-leb (written + length text) limit (omega arith))

  pub fitting_full : length text ≤ limit - written → room - written < length text → fitting written room text ≡ refused 14 0
  unfolding fitting
  fitting_full h k = simp (le-leb (written + length text) limit (omega arith), lt-leb (written + length text) room (omega arith))

  pub fitting_fine : length text ≤ limit - written → length text ≤ room - written → written ≤ room → fitting written room text ≡ fine text
  unfolding fitting
  fitting_fine h k l = simp (le-leb (written + length text) limit (omega arith), le-leb (written + length text) room (omega arith))

-- adding: the state does not take a field, the field is refused, the field is to fit
module _ (w : Writer) (room : ℕ) (g : Given) where
  pub adding_state : takes w room ≡ false → adding w room g ≡ refused 15 0
  unfolding adding
  adding_state e = simp e

  pub adding_field : (k p : ℕ) → takes w room ≡ true → field_given g ≡ refused k p → adding w room g ≡ refused k p
  unfolding adding
  adding_field k p e q = simp (e, q)

  pub adding_text : (l : List ℕ) → takes w room ≡ true → field_given g ≡ fine l → adding w room g ≡ fitting w.written room l
  unfolding adding
  adding_text l e q = simp (e, q)

-- what is handed back after an answer is handed back after the one that is the same
pub told_as : (w : Writer) (out last : List ℕ) (h : Handed) (a b : Answer (List ℕ)) → a ≡ b → h ≡ after_adding w b
    → last ≡ buffer_after out w.written b → (h ≡ after_adding w a) × (last ≡ buffer_after out w.written a)
told_as w out last h a b e said left = (said ∙ sym (ap (after_adding w) e), left ∙ sym (ap (buffer_after out w.written) e))

abbrev shown : Writer → Refusal → Handed
shown w r = record { said = refused (number_of r.reason) r.place; writer = w }

-- what is refused hands back the state that was taken, also where a `?` hands the refusal on
pub handed_err : (w : Writer) (r : Result Writer Refusal) (e : Refusal) → IsErrAnd r (λ y. y ≡ e)
    → handed w r ≡ shown w e
handed_err w (Ok v) e h = absurd h
handed_err w (Err y) e h = ap (shown w) h

-- an encoded field, judged as a payload of one field
module _ (l : List ℕ) where
  pub encoded_refused : (k p : ℕ) → payload_steps l 0 1 ≡ refused k p → field_given (encoded l) ≡ refused k p
  unfolding field_given
  encoded_refused k p e = simp (alone_refused l 1 k p e)

  pub encoded_fine : (n : ℕ) → payload_steps l 0 1 ≡ fine n → field_given (encoded l) ≡ fine l
  unfolding field_given
  encoded_fine n e = simp (alone_accepted l 1 n e).1

-- a scalar, encoded where it may be written: its text is what the encoding has at the front
front_long : (out l : List ℕ) → length l ≤ length (placed out 0 l)
unfolding placed
front_long out l = omega (arith, length-append l (drop (0 + length l) out))

module _ (x : Option Encoded) (v : Scalar) (e : x ≡ encoded_as (scalar_given v)) where
  pub scalar_refused : x ≡ None → field_given (scalar v) ≡ refused 17 0
  unfolding field_given scalar_given
  scalar_refused h = go (writable v) refl
    where
      go : (t : Bool) → writable v ≡ t → field_given (scalar v) ≡ refused 17 0
      go true q = let some = rw q at e in cc
      go false q = simp q

  pub scalar_fine : (f : Encoded) → x ≡ Some f → (field_given (scalar v) ≡ fine (take f.length f.bytes)) × (f.length ≤ length f.bytes)
  unfolding field_given scalar_given
  scalar_fine f h = go (writable v) refl
    where
      go : (t : Bool) → writable v ≡ t → (field_given (scalar v) ≡ fine (take f.length f.bytes)) × (f.length ≤ length f.bytes)
      go true q =
          let some = rw q at e in
          let same : f ≡ field_in (scalar_text v) = cc in
          rw (same, q) (ap fine (sym (front_stands _ (scalar_text v))), front_long _ (scalar_text v))
      go false q = let none = rw q at e in cc
