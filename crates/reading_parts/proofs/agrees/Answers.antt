-- Each return is a case of the definition, in the order of the tests.
use Rattle.sim0mq.specs.Message.{limit}
use Rattle.reading_parts.proofs.LeadCases.{product_small, odd_code, odd-size, odd-fields, odd_base, odd-end, end-told}
use Rattle.reading_parts.proofs.agrees.Goals as goal

pub returns-then-run-gt8 : goal.returns-then-run-gt8
returns-then-run-gt8 c = odd_code _ _ c.if-run-gt8.true

pub returns-then-run-gt8-2 : goal.returns-then-run-gt8-2
returns-then-run-gt8-2 c = odd-size _ _ c.if-run-gt8.false c.if-run-gt8-2.true

pub returns-then-run-gt-LIMIT : goal.returns-then-run-gt-LIMIT
unfolding limit
returns-then-run-gt-LIMIT c =
    odd-fields _ _ c.if-run-gt8.false c.if-run-gt8-2.false c.if-run-gt-LIMIT.true

pub returns-then-base-gt-LIMIT : goal.returns-then-base-gt-LIMIT
unfolding limit
returns-then-base-gt-LIMIT c =
    odd_base _ _ c.if-run-gt8.false c.if-run-gt8-2.false c.if-run-gt-LIMIT.false c.if-base-gt-LIMIT.true

pub returns-then-base-run : goal.returns-then-base-run
unfolding limit
returns-then-base-run c =
    odd-end _ _ c.if-run-gt8.false c.if-run-gt8-2.false c.if-run-gt-LIMIT.false c.if-base-gt-LIMIT.false c.if-base-run.true

pub overflow_mul-result : goal.overflow_mul-result
overflow_mul-result c =
    record { fits = product_small _ _ c.if-run-gt-LIMIT.false c.if-run-gt8-2.false }

pub returns : goal.returns
unfolding limit
returns c =
    end-told _ _ c.if-run-gt8.false c.if-run-gt8-2.false c.if-run-gt-LIMIT.false c.if-base-gt-LIMIT.false c.if-base-run.false
