-- The table is written only once trailer, index, its own room and the messages are judged, and then it holds their
-- places.
use mathlib.Core.Path.{ap, ◌∙◌}
use native.Mathlib.Omega.{arith}
use Rattle.sim0mq.specs.Views.{judged}
use Rattle.sim0mq.proofs.Passing.{handed_on}
use Rattle.recordings_format.specs.Edition.{most_messages}
use Rattle.recordings_format.specs.Judge.{place_size}
use Rattle.recordings.proofs.StatedLaws.{index_stated, stated_few}
use Rattle.recordings.proofs.OpenCases.{into_wrong, into_wrong_kept, into-short, into-short-kept, into-alike, into-kept, into-stored}
use Rattle.recordings.proofs.open_into.Goals as goal

pub returns-in_err-t : goal.returns-in_err-t
returns-in_err-t c =
    let wrong = c.in_err-t.ensures in
    record {
      answer = handed_on _ _ _ c.from_residual.ensures.1 ∙ into_wrong _ wrong _;
      stored = into_wrong_kept _ wrong _ _;
    }

pub overflow_mul-t : goal.overflow_mul-t
unfolding most_messages
overflow_mul-t c = let few = stated_few (index_stated _ c.in_ok-t.ensures) in omega arith

pub returns-then-table-t : goal.returns-then-table-t
unfolding place_size
returns-then-table-t c =
    let stated = index_stated _ c.in_ok-t.ensures in
    let short = c.if-table-t.true in
    record {
      answer = ap judged c.refuse.ensures ∙ into-short stated _ short;
      stored = into-short-kept stated _ _ short;
    }

pub store-requires : goal.store-requires
unfolding place_size
store-requires c = (index_stated _ c.in_ok-t.ensures, c.if-table-t.false)

pub returns-in_err-n : goal.returns-in_err-n
unfolding place_size
returns-in_err-n c =
    let stated = index_stated _ c.in_ok-t.ensures in
    let said = c.in_err-n.ensures in
    record {
      answer = handed_on _ _ _ c.from_residual-in_err-n.ensures.1 ∙ said ∙ into-alike stated _ c.if-table-t.false;
      stored = into-kept stated _ c.if-table-t.false _ _ _ said;
    }

pub returns : goal.returns
unfolding place_size
returns c =
    let stated = index_stated _ c.in_ok-t.ensures in
    let said = c.in_ok-n.ensures in
    record {
      answer = said ∙ into-alike stated _ c.if-table-t.false;
      stored = c.store.ensures ∙ into-stored stated _ c.if-table-t.false _ _ said;
    }
