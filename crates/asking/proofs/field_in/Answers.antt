-- Each number is that of the row.
use Rattle.asking.proofs.field_in.Goals as goal

pub returns : goal.returns
returns c =
    let code = c.wide32.ensures.0 in
    let place = c.wide32-2.ensures.0 in
    let first = c.wide32-3.ensures.0 in
    let size = c.wide32-4.ensures.0 in
    let marked = c.wide32-5.ensures.0 in
    let values = c.wide32-6.ensures.0 in
    λ i. record { code = code i; place = place i; first = first i; size = size i; marked = marked i; values = values i }
