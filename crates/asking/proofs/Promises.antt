-- The promises hold since asking takes field k of a reading.
use mathlib.Core.Path.{◌≡◌, sym, ◌∙◌}
use native.Mathlib.Omega.{arith}
use lib.ListN.{length, take, drop, length-take, length-drop}
use Rattle.sim0mq.proofs.Demand2.{without_table}
use Rattle.asking.specs.Promises.{AskingAgreesWithReading, ViewIsRowK}
use Rattle.asking.proofs.AskLaws.{asked_refused, asked_nth, nth_past, nth_past_only, nth_finds, nth_row}
use Rattle.asking.proofs.PartLaws.{asked_inside}

-- asking is reading, and then field k of what was read
pub asking_agrees_with_reading : AskingAgreesWithReading
asking_agrees_with_reading s k =
    record {
      refuses = λ n p q. asked_refused s k n p q;
      past = λ m q. (λ e. nth_past_only m.fields k (sym (asked_nth s k m q) ∙ e), λ h. asked_nth s k m q ∙ nth_past m.fields k h);
      finds = λ m q h. let a = nth_finds m.fields k h in (a.0, asked_nth s k m q ∙ a.1);
    }

-- row k is written off field k, and an accepted field lies in the message
pub view_is_row_k : ViewIsRowK
view_is_row_k lent s k m f q a =
    let within = asked_inside s k f a in
    let l : length (take f.size (drop f.first s)) ≡ f.size = simp (length-take, length-drop) (omega arith) in
    record { numbers = nth_row m.fields k f (sym (asked_nth s k m (without_table lent s m q)) ∙ a); bytes = l }
