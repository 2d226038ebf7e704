-- Each return is a case of the definition.
use mathlib.Core.Path.{ap, sym, ◌∙◌}
use Rattle.sim0mq.specs.Views.{judged}
use Rattle.reading_magic.proofs.MagicCases.{edition_fine, edition_first, edition_second}
use Rattle.reading_magic.proofs.edition.Goals as goal

pub returns-then-a-wide : goal.returns-then-a-wide
returns-then-a-wide c = ap judged c.refuse.ensures ∙ sym (edition_first _ _ (λ e. c.if-a-wide.true (e ∙ sym c.wide.ensures.0)))

pub returns-then-b-wide : goal.returns-then-b-wide
returns-then-b-wide c =
    let tens = c.if-a-wide.false ∙ c.wide.ensures.0 in
    ap judged c.refuse-then-b-wide.ensures ∙ sym (edition_second _ _ tens (λ e. c.if-b-wide.true (e ∙ sym c.wide-2.ensures.0)))

pub returns : goal.returns
returns c =
    edition_fine _ _ (c.if-a-wide.false ∙ c.wide.ensures.0) (c.if-b-wide.false ∙ c.wide-2.ensures.0)
