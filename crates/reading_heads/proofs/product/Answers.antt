-- Two numbers below 2 ^ 32 have a product below 2 ^ 64.
use Rattle.reading_heads.proofs.HeadCases.{product_fits}
use Rattle.reading_heads.proofs.product.Goals as goal

pub overflow_mul-result : goal.overflow_mul-result
overflow_mul-result c = record { fits = product_fits _ _ c.requires.0 c.requires.1 }
