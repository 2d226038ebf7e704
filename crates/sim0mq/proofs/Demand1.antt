-- Demand 1 holds of the definitions: each judge's refusals are numbered and placed (Refusals), and the room is judged
-- right after the header.
use Prim.Native.Nat.{ℕ, ◌*◌}
use mathlib.Core.Path.{◌≡◌, refl, ap, sym, subst}
use mathlib.Core.Bool.{Bool, true, false, false≢true}
use mathlib.Core.List.{List, ◌++◌}
use lib.ListN.{length}
use lib.Dec.{leb}
use borrow.Author.Tests.{le-leb, lt-leb, leb-false}
use Rattle.sim0mq.specs.Answer.{Answer, fine, refused, ◌>>=◌, ◌>>◌, guard}
use Rattle.sim0mq.specs.Table.{row_size}
use Rattle.sim0mq.specs.Header.{among}
use Rattle.sim0mq.specs.Message.{limit, no_table, Reading, enough, message, reading, table_after}
use Rattle.sim0mq.specs.Blank.{blanked, blanking, output_after}
use Rattle.sim0mq.specs.Allowed.{header_bytes}
use Rattle.sim0mq.specs.Demand1.{reading_numbers, RefusalsArePlaced, ShortTableIsRefused, BlankingAgreesWithReading, RefusalKeepsTheTable, RefusalKeepsTheOutput}
use Rattle.sim0mq.proofs.Answers.{not_fine}
use Rattle.sim0mq.proofs.MessageLaws.{front_complete}
use Rattle.sim0mq.proofs.Refusals.{Held, message_placed}

pub refusals_are_placed : RefusalsArePlaced
unfolding reading
refusals_are_placed lent s number place q =
    subst (λ (a : Answer Reading). Held (reading_numbers lent) (length s) a) q (message_placed limit lent s)

pub short_table_is_refused : ShortTableIsRefused
unfolding reading message enough
short_table_is_refused h n r rest i short room =
    simp (le-leb (length (header_bytes h ++ rest)) limit short, front_complete h rest i, lt-leb (row_size * n) r room)

-- reading with no table never answers 14
not_of_reading : (s : List ℕ) (place : ℕ) → reading no_table s ≡ refused 14 place → ⊥
unfolding among
not_of_reading s place q = false≢true (refusals_are_placed no_table s 14 place q).0

-- so that number is of the room, which is judged once reading has accepted
fourteen_of_room : (copy : Reading → List ℕ) (a : Answer Reading) (t : Bool) (place : ℕ) → ((p : ℕ) → a ≡ refused 14 p → ⊥)
    → (a >>= (λ m. guard t 14 0 >> fine (copy m))) ≡ refused 14 place → ((m : Reading) × (a ≡ fine m)) × (t ≡ false) × (place ≡ 0)
fourteen_of_room copy (fine m) true place other q = absurd (not_fine (sym q))
fourteen_of_room copy (fine m) false place other q = ((m, refl), refl, cc)
fourteen_of_room copy (refused k p) t place other q = absurd (other p (let e : k ≡ 14 = cc in ap (λ (j : ℕ). refused j p) e))

pub blanking_agrees_with_reading : BlankingAgreesWithReading
unfolding blanking
blanking_agrees_with_reading room s =
    record {
      refuses = λ number place q. rw q refl;
      fourteen =
          λ place. (
            λ q.
                let x = fourteen_of_room (λ (m : Reading). blanked s m.fields) (reading no_table s) (leb (length s) room) place (not_of_reading s) q in
                (x.0, leb-false (length s) room x.1, x.2),
            λ h. rw (h.0.1, lt-leb (length s) room h.1) (ap (λ (p : ℕ). refused 14 p) (sym h.2)),
          );
      grants = λ m q h. rw (q, le-leb (length s) room h) refl;
    }

-- a refusal stores nothing
pub refusal_keeps_the_table : RefusalKeepsTheTable
unfolding table_after
refusal_keeps_the_table lent s t number place q = rw q refl

pub refusal_keeps_the_output : RefusalKeepsTheOutput
unfolding output_after
refusal_keeps_the_output room s out number place q = rw q refl
