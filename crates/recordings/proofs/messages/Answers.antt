-- At each turn opening comes to what the messages left over come to.
use mathlib.Core.Path.{◌≡◌, ap, ◌∙◌}
use native.Mathlib.Omega.{arith}
use Rattle.sim0mq.specs.Answer.{fine}
use Rattle.sim0mq.proofs.Passing.{handed_on}
use Rattle.recordings.proofs.StatedLaws.{entry-stated, entry-lies}
use Rattle.recordings.proofs.OpenCases.{judging_start, judging-refused, judging-turn, judging-end}
use Rattle.recordings.proofs.messages.Goals as goal

pub loop-k-init : goal.loop-k-init
loop-k-init c = judging_start c.requires

pub stretch-requires : goal.stretch-requires
stretch-requires c =
    let more = c.loop-k-test.true in
    entry-lies c.requires more (entry-stated c.requires more c.entry-m.ensures.answer)

pub returns-in_err-_length : goal.returns-in_err-_length
returns-in_err-_length c =
    let more = c.loop-k-test.true in
    handed_on _ _ _ c.from_residual.ensures.1
    ∙ judging-refused c.requires c.loop-k.invariant more (entry-stated c.requires more c.entry-m.ensures.answer)
    c.in_err-_length.ensures

pub loop-k-preserved : goal.loop-k-preserved
loop-k-preserved c =
    let more = c.loop-k-test.true in
    judging-turn c.requires c.loop-k.invariant more (entry-stated c.requires more c.entry-m.ensures.answer) _
    c.in_ok-_length.ensures

pub returns : goal.returns
returns c =
    let all : c.args.t.entries ≡ c.loop-k.k = omega arith in
    ap fine all ∙ judging-end c.requires c.loop-k.invariant c.loop-k-test.false
