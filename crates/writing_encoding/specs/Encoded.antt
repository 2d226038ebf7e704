-- What the encoders answer, over the definitions of the scalars' fields.
use Rattle.std.specs.Prelude.{ℕ, List, ◌∷◌, ◌++◌, length, replicate, Option, None, Some}
use Rattle.sim0mq.specs.Answer.{Answer, fine, refused, ◌>>◌, guard}
use Rattle.sim0mq.specs.Mark.{kind_of}
use Rattle.sim0mq_numbers.specs.Bytes.{big_bytes}
use Rattle.asking_scalars.specs.Bytes.{bytes_of_mark}
use Rattle.sim0mq_kinds.specs.declared.Mark.{Mark}
use Rattle.writing_encoding.specs.Scalars.{mark_taken}
use Rattle.sim0mq.specs.Table.{placed}
use Rattle.writing_encoding.specs.declared.Encoded.{Encoded}

-- A field in 13 bytes, zero after it; and no field.
abbrev pub field_in : List ℕ → Encoded
field_in l = record { bytes = placed (replicate 13 0) 0 l; length = length l }

abbrev pub encoded_as : Answer (List ℕ) → Option Encoded
encoded_as (fine l) = Some (field_in l)
encoded_as (refused k p) = None

-- A field of code c that is a mark and a number of n bytes, where the mark may be written (17).
unfoldable pub marked_given : ℕ → Mark → ℕ → ℕ → Answer (List ℕ)
marked_given c m n x = do
  guard (mark_taken m (kind_of m.unit)) 17 0
  fine (c ∷ (bytes_of_mark m (kind_of m.unit) ++ big_bytes n x))
