-- A payload: a part of a message that is read by itself, with places within it (01, "What reading returns").
use Rattle.std.specs.Prelude.{ℕ, zero, suc, ◌+◌, List, [], ◌∷◌, length, leb}
use Rattle.sim0mq.specs.Answer.{Answer, fine, ◌>>=◌, ◌>>◌, guard}
use Rattle.sim0mq.specs.Field.{Field, field, after}

-- The n fields from `at` on, each where the one before ends; after the last no byte is left (13).
unfoldable pub payload_from : List ℕ → ℕ → ℕ → Answer (List Field)
payload_from s zero at = do
  guard (leb (length s) at) 13 at
  fine []
payload_from s (suc n) at = do
  f ← field s at
  fs ← payload_from s n (after f)
  fine (f ∷ fs)

-- The payload s of n fields.
unfoldable pub payload : List ℕ → ℕ → Answer (List Field)
payload s n = payload_from s n 0

-- A field of a part, with places in the whole, where the part begins at b.
unfoldable pub moved : ℕ → Field → Field
moved b f =
    record {
      code = f.code;
      place = b + f.place;
      first = b + f.first;
      size = f.size;
      marked = f.marked;
      values = f.values;
    }

-- A step for each field and each mark (01, "What reading returns").
unfoldable pub steps : List Field → ℕ
steps [] = 0
steps (f ∷ fs) = 1 + f.marked + steps fs
