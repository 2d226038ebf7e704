-- The promises hold since every point of a history is known, and what reading finds in a finished message was written
-- so.
use Prim.Native.Nat.{ℕ}
use mathlib.Core.Path.{refl, sym, ◌∙◌, subst}
use mathlib.Core.Bool.{false≢true}
use mathlib.Core.List.{List, [], ◌∷◌}
use Rattle.sim0mq.specs.Answer.{Answer}
use Rattle.writing.specs.Writing.{count_code}
use Rattle.writing_returning.specs.Promises.{FinishedReadsBack, BufferHoldsWhatWasWritten, NoMessageWithoutClosing, RewritingGivesTheSame, id_numbers, open_numbers, field_numbers, add_numbers, WriterRefusalsArePlaced, RefusedCallChangesNothing}
use Rattle.writing_returning.proofs.HistoryLaws.{known}
use Rattle.writing_returning.proofs.ReadLaws.{reads_back}
use Rattle.writing_returning.proofs.RewriteLaws.{rewriting}
use Rattle.writing_returning.proofs.RefusalLaws.{In, opening_in, adding_in, scalar_in, not_within, closing_only}

pub finished_reads_back : FinishedReadsBack
finished_reads_back o out p s h end = reads_back o out p s (known h) end

pub buffer_holds_what_was_written : BufferHoldsWhatWasWritten
buffer_holds_what_was_written o out p h = (known h).holds

pub no_message_without_closing : NoMessageWithoutClosing
no_message_without_closing o out p s h none end = false≢true (sym ((known h).unclosed none) ∙ end.closed)

-- each field of an accepted message is a field that adding takes, and its header one that opening writes
pub rewriting_gives_the_same : RewritingGivesTheSame
rewriting_gives_the_same = rewriting

-- each call's refusals are those of the judges that it goes through
pub writer_refusals_are_placed : WriterRefusalsArePlaced
writer_refusals_are_placed o w room number place =
    record {
      opens =
          λ q.
          subst (λ (a : Answer (List ℕ)). In id_numbers o.ids open_numbers a) q
          (opening_in o.ids o.number o.status (count_code o.kind) o.fields room);
      adds = λ l q. subst (λ (a : Answer (List ℕ)). In field_numbers l add_numbers a) q (adding_in w room l);
      scalars =
          λ v q.
          not_within (17 ∷ add_numbers) number place
          (subst (λ (a : Answer (List ℕ)). In [] [] (17 ∷ add_numbers) a) q (scalar_in w room v));
      closes = closing_only w number place;
    }

-- a refusal writes nothing and hands back what it took
pub refused_call_changes_nothing : RefusedCallChangesNothing
refused_call_changes_nothing o w out g number place =
    record {
      opened = λ q. rw q refl;
      shut = λ q. rw q refl;
      added = λ q. rw q refl;
      kept = λ q. rw q refl;
      unclosed = λ q. rw q refl;
    }
