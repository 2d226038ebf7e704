-- Trailer and index are judged by the last bytes, then whether there is such a message, then its length.
use mathlib.Core.Path.{ap, ◌∙◌}
use Rattle.recordings_reaching.specs.Reaching.{reaching_as}
use Rattle.recordings_reaching.proofs.ReachLaws.{stated_in, in-none, in-over, in-there, in_wrong, in_wanted}
use Rattle.recordings_reaching.proofs.ask_tail.Goals as goal

pub returns-in-Wrong : goal.returns-in-Wrong
returns-in-Wrong c = ap reaching_as c.refuse.ensures ∙ in_wrong _ _ _ c.in-Wrong.ensures

pub returns-in-Wanted : goal.returns-in-Wanted
returns-in-Wanted c = in_wanted _ _ _ c.in-Wanted.ensures

pub returns-then-t-k : goal.returns-then-t-k
returns-then-t-k c =
    ap reaching_as c.refuse-then-t-k.ensures ∙ in-none (stated_in _ _ c.in-Found.ensures) _ c.if-t-k.true

pub returns-then-t-m : goal.returns-then-t-m
returns-then-t-m c =
    ap reaching_as c.refuse-then-t-m.ensures
    ∙ in-over (stated_in _ _ c.in-Found.ensures) _ c.if-t-k.false c.entry-m.ensures.answer c.if-t-m.true

pub returns : goal.returns
returns c =
    in-there (stated_in _ _ c.in-Found.ensures) _ c.if-t-k.false c.entry-m.ensures.answer c.if-t-m.false
