-- Every refusal of adding and closing is 15 or 14 at 0, or the message's own at a place in it: the state and the room
-- are the only other things that they judge.
use Prim.Native.Nat.{ℕ, zero-le}
use mathlib.Core.Path.{◌≡◌, refl}
use mathlib.Core.Bool.{Bool, true, false, ◌&&◌}
use mathlib.Core.List.{List, ◌∷◌}
use lib.ListN.{length}
use lib.Dec.{leb, ltb, eqb}
use Rattle.sim0mq.specs.Answer.{Answer, fine, refused, ◌>>=◌, ◌>>◌, guard}
use Rattle.sim0mq.specs.Codes.{among}
use Rattle.sim0mq.specs.Message.{no_table, Reading, message}
use Rattle.sim0mq.specs.Demand1.{judging_numbers}
use Rattle.sim0mq.proofs.Rows.{all_pass}
use Rattle.sim0mq.proofs.Refusals.{Held, message_placed}
use Rattle.recordings_format.specs.Edition.{Edition, most_messages}
use Rattle.recordings_format.specs.Text.{tail_text}
use Rattle.recordings_format.proofs.RefusalLaws.{message_apart, listed_after}
use Rattle.recordings_tails.specs.Tails.{room_for}
use Rattle.recordings_writing.specs.declared.Recorder.{Recorder}
use Rattle.recordings_writing.specs.Recorder.{usable, adding, ended, written_run, found, closing}
use Rattle.recordings_writing.specs.Promises.{state_numbers, IsOfAdding}

-- no message is refused by 15 or 14
message_number : (k : ℕ) → among k judging_numbers ≡ true → among k state_numbers ≡ true → ⊥
unfolding among all_pass
message_number k h own = message_apart state_numbers k refl h own

-- an answer of closing, if it is a refusal, is one of these
abbrev pub ToldClosing : {A : Type 0} → Answer A → Type 0
ToldClosing (fine a) = Unit {0}
ToldClosing (refused k p) = (among k state_numbers ≡ true) × (p ≡ 0)

guard_closing : {B : Type 0} (t : Bool) (k : ℕ) (b : Answer B) → among k state_numbers ≡ true → ToldClosing b
    → ToldClosing (guard t k 0 >> b)
guard_closing true k b listed h = h
guard_closing false k b listed h = (listed, refl)

room_told : (written room : ℕ) (text : List ℕ) → ToldClosing (room_for written room text)
unfolding room_for among
room_told written room text = guard_closing (leb _ room) 14 (fine text) refl tt

pub closing_told : (e : Edition) (w : Recorder) (out : List ℕ) → ToldClosing (closing e w out)
unfolding closing found among
closing_told e w out =
    guard_closing (usable w (length out)) 15 _ refl
    (rest (found e w out)
    (guard_closing (ended (written_run e w out).stop) 15 _ refl
    (guard_closing (eqb (length (written_run e w out).lengths) w.messages) 15 _ refl tt)))
  where
    rest : (a : Answer (List ℕ)) → ToldClosing a
        → ToldClosing (a >>= (λ ns. room_for w.written (length out) (tail_text e ns)))
    rest (fine ns) h = room_told w.written (length out) (tail_text e ns)
    rest (refused k p) h = h

-- and one of adding
abbrev pub ToldAdding : List ℕ → Answer (List ℕ) → Type 0
ToldAdding m (fine text) = Unit {0}
ToldAdding m (refused k p) = IsOfAdding m k p

pub adding_told : (e : Edition) (w : Recorder) (room : ℕ) (m : List ℕ) → ToldAdding m (adding e w room m)
unfolding adding room_for among
adding_told e w room m =
    state (usable w room && ltb w.messages most_messages)
    (judged (message e.most no_table m) (message_placed e.most no_table m))
  where
    fits : (t : Bool) → ToldAdding m (guard t 14 0 >> fine m)
    fits true = tt
    fits false = record { numbered = refl; within = zero-le; own = λ o. refl }

    judged : (a : Answer Reading) → Held judging_numbers (length m) a
        → ToldAdding m (a >>= (λ r. room_for w.written room m))
    judged (fine r) h = fits (leb _ room)
    judged (refused k p) h =
        record {
          numbered = listed_after 15 k (14 ∷ judging_numbers) (listed_after 14 k judging_numbers h.0);
          within = h.1;
          own = λ o. absurd (message_number k h.0 o);
        }

    state : (t : Bool) → ToldAdding m (message e.most no_table m >>= (λ r. room_for w.written room m))
        → ToldAdding m (guard t 15 0 >> (message e.most no_table m >>= (λ r. room_for w.written room m)))
    state true h = h
    state false h = record { numbered = refl; within = zero-le; own = λ o. refl }
