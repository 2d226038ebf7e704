-- Numbers as the texts of frames and fields.
use Rattle.std.specs.Prelude.{ℕ, List, ◌∷◌}
use Rattle.sim0mq_numbers.specs.Bytes.{big_bytes}

-- A frame or field that is one number of n bytes: its code, then the number.
abbrev pub number_text : ℕ → ℕ → ℕ → List ℕ
number_text c n x = c ∷ big_bytes n x
