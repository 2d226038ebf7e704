-- The row's own wants, and after them those by turns.
use mathlib.Core.Path.{sym, ◌∙◌}
use Rattle.commands.proofs.TableLaws.{want_own, want_none, want_basic, want_long}
use Rattle.commands.proofs.Name.want.Goals as goal

pub returns-then-i-own : goal.returns-then-i-own
returns-then-i-own c = want_own _ _ c.wants-own.ensures _ c.if-i-own.true

pub returns-then-not-repeats : goal.returns-then-not-repeats
returns-then-not-repeats c =
    want_none _ _ c.wants-own.ensures _ c.if-i-own.false (sym c.repeats.ensures ∙ c.if-not-repeats.true)

pub returns-then-i-own-eq0 : goal.returns-then-i-own-eq0
returns-then-i-own-eq0 c =
    want_basic _ _ c.wants-own.ensures _ c.if-i-own.false (sym c.repeats.ensures ∙ c.if-not-repeats.false) c.if-i-own-eq0.true

pub returns : goal.returns
returns c =
    want_long _ _ c.wants-own.ensures _ c.if-i-own.false (sym c.repeats.ensures ∙ c.if-not-repeats.false) c.if-i-own-eq0.false
