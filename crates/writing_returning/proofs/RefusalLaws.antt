-- Every refusal of the writer is one of the judges that it goes through: of the ids or of the field, within them, or of
-- a test of its own, at 0.
use Prim.Native.Nat.{ℕ, zero, suc, ◌+◌, ◌≤◌, zero-le}
use mathlib.Core.Path.{◌≡◌, refl, sym, ◌∙◌}
use mathlib.Core.Bool.{Bool, true, false, false≢true, not, ◌&&◌}
use mathlib.Core.Logic.{inl, inr}
use mathlib.Core.List.{List, [], ◌∷◌}
use lib.Dec.{leb, eqb}
use lib.IntN.{ℤ}
use lib.ListN.{length}
use borrow.Author.Tests.{eqb-true}
use Rattle.sim0mq.specs.Answer.{Answer, fine, refused, ◌>>=◌, ◌>>◌, guard}
use Rattle.sim0mq.specs.Codes.{among, code_known, marking_of}
use Rattle.sim0mq.specs.Field.{after}
use Rattle.sim0mq.specs.Payload.{payload}
use Rattle.sim0mq.specs.Header.{id_codes, count_codes, status_taken, fields_taken, frame}
use Rattle.sim0mq.specs.Message.{limit}
use Rattle.sim0mq.proofs.Answers.{not_fine}
use Rattle.sim0mq.proofs.Refusals.{Held, bind_held, guard_held, Lists, frame_bears, payload_bears}
use Rattle.sim0mq.proofs.Rows.{all_pass, pass_among, id_not_boolean}
use Rattle.sim0mq_kinds.specs.declared.Scalar.{Scalar}
use Rattle.writing_encoding.specs.Scalars.{writable, scalar_given}
use Rattle.writing_opening.specs.Opening.{ids_from, holds, header_with, fitting, header_given}
use Rattle.writing_opening.proofs.HeaderCases.{id_goes}
use Rattle.writing.specs.Writing.{encoded, scalar, field_given, takes, adding, closing}
use Rattle.writing.specs.declared.Writer.{Writer}
use Rattle.writing_returning.specs.Promises.{PlacedIn, id_numbers, open_numbers, field_numbers, add_numbers}

-- an answer that, if it is a refusal, is placed so
abbrev pub In : {A : Type 0} → List ℕ → List ℕ → List ℕ → Answer A → Type 0
In numbers l others (fine a) = Unit {0}
In numbers l others (refused k p) = PlacedIn numbers l others k p

held_in : {A : Type 0} (numbers l others : List ℕ) (a : Answer A) → Held numbers (length l) a → In numbers l others a
held_in numbers l others (fine a) h = tt
held_in numbers l others (refused k p) h = inl h

bind_in : {A B : Type 0} (numbers l others : List ℕ) (a : Answer A) (f : A → Answer B) → In numbers l others a
    → ((x : A) → In numbers l others (f x)) → In numbers l others (a >>= f)
bind_in numbers l others (fine x) f h go = go x
bind_in numbers l others (refused k p) f h go = h

guard_in : {B : Type 0} (numbers l others : List ℕ) (t : Bool) (k : ℕ) (b : Answer B) → among k others ≡ true
    → In numbers l others b → In numbers l others (guard t k 0 >> b)
guard_in numbers l others true k b listed h = h
guard_in numbers l others false k b listed h = inr (listed, refl)

-- an id is of a known code, which has no mark and no Boolean
ids_listed : (c : ℕ) → among c id_codes ≡ true → Lists id_numbers c
unfolding among all_pass code_known marking_of
ids_listed c e =
    record {
      negative = refl;
      strange = λ f. absurd (false≢true (sym f ∙ pass_among code_known id_codes c refl e));
      marking = inl (eqb-true _ _ (pass_among (λ (k : ℕ). eqb (marking_of k) 0) id_codes c refl e));
      booleans = λ t. absurd (false≢true (sym (id_not_boolean c e) ∙ t));
    }

ids_bear : (s : List ℕ) (n at : ℕ) → at ≤ length s → Held id_numbers (length s) (ids_from s n at)
unfolding ids_from among
ids_bear s zero at h = guard_held id_numbers (length s) (leb (length s) at) 13 at _ refl h (λ t. tt)
ids_bear s (suc n) at h =
    bind_held id_numbers (length s) (frame s id_codes at) _ (frame_bears id_numbers refl s refl id_codes ids_listed at)
    (λ f e. ids_bear s n (after f) (id_goes s at f e))

-- the message's length and the buffer's room
fitting_in : (numbers l others : List ℕ) (written room : ℕ) (text : List ℕ) → among 8 others ≡ true
    → among 14 others ≡ true → In numbers l others (fitting written room text)
unfolding fitting
fitting_in numbers l others written room text eight fourteen =
    guard_in numbers l others (leb (written + length text) limit) 8 _ eight
    (guard_in numbers l others (leb (written + length text) room) 14 _ fourteen tt)

pub opening_in : (ids : List ℕ) (number : ℤ) (status c fields room : ℕ)
    → In id_numbers ids open_numbers (header_given ids number status c fields room)
unfolding header_given among
opening_in ids number status c fields room =
    bind_in id_numbers ids open_numbers (ids_from ids 4 0) _ (held_in id_numbers ids open_numbers (ids_from ids 4 0) (ids_bear ids 4 0 zero-le))
    (λ end.
    guard_in id_numbers ids open_numbers (status_taken status) 6 _ refl
    (guard_in id_numbers ids open_numbers (among c count_codes) 4 _ refl
    (guard_in id_numbers ids open_numbers (fields_taken fields && holds c fields) 7 _ refl
    (fitting_in id_numbers ids open_numbers 0 room (header_with ids number status c fields) refl refl))))

fields_listed : (c : ℕ) → Lists field_numbers c
unfolding among
fields_listed c = record { negative = refl; strange = λ f. refl; marking = inr (refl, refl, refl); booleans = λ t. refl }

pub adding_in : (w : Writer) (room : ℕ) (l : List ℕ) → In field_numbers l add_numbers (adding w room (encoded l))
unfolding adding field_given payload among
adding_in w room l =
    guard_in field_numbers l add_numbers (takes w room) 15 _ refl
    (bind_in field_numbers l add_numbers (field_given (encoded l)) _
    (bind_in field_numbers l add_numbers (payload l 1) _
    (held_in field_numbers l add_numbers (payload l 1) (payload_bears field_numbers refl l refl fields_listed 1 0 zero-le)) (λ fs. tt))
    (λ text. fitting_in field_numbers l add_numbers w.written room text refl refl))

pub scalar_in : (w : Writer) (room : ℕ) (v : Scalar) → In [] [] (17 ∷ add_numbers) (adding w room (scalar v))
unfolding adding field_given scalar_given among
scalar_in w room v =
    guard_in [] [] (17 ∷ add_numbers) (takes w room) 15 _ refl
    (bind_in [] [] (17 ∷ add_numbers) (field_given (scalar v)) _ (guard_in [] [] (17 ∷ add_numbers) (writable v) 17 _ refl tt)
    (λ text. fitting_in [] [] (17 ∷ add_numbers) w.written room text refl refl))

-- none is within no bytes
pub not_within : (others : List ℕ) (number place : ℕ) → PlacedIn [] [] others number place → (among number others ≡ true) × (place ≡ 0)
unfolding among
not_within others number place (inl h) = absurd (false≢true h.0)
not_within others number place (inr h) = h

pub closing_only : (w : Writer) (number place : ℕ) → closing w ≡ refused number place → (number ≡ 15) × (place ≡ 0)
unfolding closing
closing_only w number place q = go (not w.closed && (leb w.written limit && eqb w.added w.declared)) q
  where
    go : (t : Bool) → (guard t 15 0 >> fine w.written) ≡ refused number place → (number ≡ 15) × (place ≡ 0)
    go true e = absurd (not_fine (sym e))
    go false e = (cc, cc)
