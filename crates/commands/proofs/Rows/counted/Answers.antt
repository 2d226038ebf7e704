-- A number that is fixed; or, in FM.2, one that the sixth field tells.
use mathlib.Core.Path.{sym, ◌∙◌}
use borrow.Author.Tests.{eqb-true}
use Rattle.sim0mq.specs.Table.{row_size}
use Rattle.commands.proofs.NameLaws.{in_page}
use Rattle.commands.proofs.TableLaws.{many_own}
use Rattle.commands.proofs.NumberLaws.{fixed_other, fixed_fine, turns_few, turns-code, turns-sign, turns-many, turns-fine}
use Rattle.commands.proofs.Rows.counted.Goals as goal

pub returns-then-self-wants : goal.returns-then-self-wants
returns-then-self-wants c =
    λ fs h.
    rw c.refuse.ensures
    (fixed_other _ _ _ _ _ _ (in_page _) (sym c.repeats.ensures ∙ c.if-not-repeats.true) (many_own _ _ c.wants.ensures) fs h
    c.if-self-wants.true)

pub returns-then-not-repeats : goal.returns-then-not-repeats
returns-then-not-repeats c =
    λ fs h.
    fixed_fine _ _ _ _ _ _ (in_page _) (sym c.repeats.ensures ∙ c.if-not-repeats.true) (many_own _ _ c.wants.ensures) fs h
    c.if-self-wants.false

pub returns-then-self-lt6 : goal.returns-then-self-lt6
returns-then-self-lt6 c =
    λ fs h.
    rw c.refuse-then-self-lt6.ensures
    (turns_few _ _ _ _ _ (eqb-true _ 4 (sym c.repeats.ensures ∙ c.if-not-repeats.false)) fs h c.if-self-lt6.true)

pub returns-then-wide32-ne2 : goal.returns-then-wide32-ne2
unfolding row_size
returns-then-wide32-ne2 c =
    λ fs h.
    rw c.refuse-then-wide32-ne2.ensures
    (turns-code _ _ _ _ _ (eqb-true _ 4 (sym c.repeats.ensures ∙ c.if-not-repeats.false)) fs h c.if-self-lt6.false _
    c.wide32.ensures.0 _ c.wide32-then-wide32-ne2.ensures.0 c.if-wide32-ne2.true)

pub returns-then-byte_at-ge128 : goal.returns-then-byte_at-ge128
unfolding row_size
returns-then-byte_at-ge128 c =
    λ fs h.
    rw c.refuse-then-byte_at-ge128.ensures
    (turns-sign _ _ _ _ _ (eqb-true _ 4 (sym c.repeats.ensures ∙ c.if-not-repeats.false)) fs h c.if-self-lt6.false _
    c.wide32.ensures.0 c.if-wide32-ne2.false _ c.wide32-first.ensures.0 _ c.byte_at.ensures c.if-byte_at-ge128.true)

pub returns-then-self-four : goal.returns-then-self-four
unfolding row_size
returns-then-self-four c =
    λ fs h.
    rw c.refuse-then-self-four.ensures
    (turns-many _ _ _ _ _ (eqb-true _ 4 (sym c.repeats.ensures ∙ c.if-not-repeats.false)) fs h c.if-self-lt6.false _
    c.wide32.ensures.0 c.if-wide32-ne2.false _ c.wide32-first.ensures.0 _ _ c.byte_at.ensures c.if-byte_at-ge128.false
    c.four.ensures.0 c.if-self-four.true)

pub returns : goal.returns
unfolding row_size
returns c =
    λ fs h.
    turns-fine _ _ _ _ _ (eqb-true _ 4 (sym c.repeats.ensures ∙ c.if-not-repeats.false)) fs h c.if-self-lt6.false _
    c.wide32.ensures.0 c.if-wide32-ne2.false _ c.wide32-first.ensures.0 _ _ c.byte_at.ensures c.if-byte_at-ge128.false
    c.four.ensures.0 c.if-self-four.false
