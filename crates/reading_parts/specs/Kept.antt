-- The rows that a part's reader keeps, one for each field, so that no field has to be walked twice.
use Rattle.std.specs.Prelude.{ℕ, zero, suc, ◌+◌, ◌-◌, ◌*◌, ◌/◌, ◌≤◌, ◌<◌, ◌≡◌, Bool, cond, ◌&&◌, List, [], ◌∷◌, map, leb, ltb, eqb, length}
use Rattle.std.proofs.lemmas.List.Edits.{sets}
use Rattle.sim0mq.specs.Answer.{Answer, fine, refused}
use Rattle.sim0mq.specs.Field.{Field, field, after}
use Rattle.sim0mq.specs.Payload.{moved}
use Rattle.sim0mq.specs.Table.{row, row_size}
use Rattle.sim0mq.specs.Message.{limit}
use Rattle.reading_runs.specs.Runs.{alike_fields, far}
use Rattle.reading_runs.specs.declared.Run.{Run}

-- The fields, of n from `at` on, that stand before the first fault: all of them where there is none.
unfoldable pub first : Answer Field → (Field → List Field) → List Field
first (fine f) others = f ∷ others f
first (refused k p) others = []

unfoldable pub before_fault : List ℕ → ℕ → ℕ → List Field
before_fault s zero at = []
before_fault s (suc n) at = first (field s at) (λ f. before_fault s n (after f))

-- Field i is kept in row i - k, where there are so many rows; a field before field k is not kept.
unfoldable pub kept_one : ℕ → ℕ → ℕ → Field → List ℕ → List ℕ
kept_one many k i f kept = cond (ltb i k) kept (cond (ltb (i - k) many) (sets kept (row_size * (i - k)) (row f)) kept)

-- These fields, the first of which is field i, each in its row.
unfoldable pub kept_all : ℕ → ℕ → ℕ → List Field → List ℕ → List ℕ
kept_all many k i [] kept = kept
kept_all many k i (f ∷ fs) kept = kept_all many k (i + 1) fs (kept_one many k i f kept)

-- How many rows there are in so many numbers; none for a message that is past the limit, whose places might not fit 32
-- bits.
unfoldable pub rows_in : ℕ → ℕ → ℕ
rows_in bytes numbers = cond (leb bytes limit) (numbers / row_size) 0

-- What is kept, from field k on, of n fields from place `from` on of a part s that begins at place `base` of its
-- message; and of the part's own n fields.
unfoldable pub kept_rest : List ℕ → ℕ → ℕ → ℕ → ℕ → List ℕ → List ℕ
kept_rest s base from n k kept = kept_all (rows_in (base + length s) (length kept)) k 0 (map (moved base) (before_fault s n from)) kept

unfoldable pub kept_part : List ℕ → ℕ → ℕ → ℕ → List ℕ → List ℕ
kept_part s base n k kept = kept_all (rows_in (base + length s) (length kept)) k 0 (map (moved base) (before_fault s n 0)) kept

-- A field's numbers fit 32 bits.
pub record Small (base : ℕ) (f : Field) : Type 0 where
  pub code : f.code < 4294967296
  pub place : base + f.place < 4294967296
  pub first : base + f.first < 4294967296
  pub size : f.size < 4294967296
  pub marked : f.marked < 4294967296
  pub values : f.values < 4294967296

-- A run that stands at `at` of a part, whose first field is field i: its fields can be counted, and where there are
-- rows its numbers fit 32 bits.
pub record Keepable (many i base at : ℕ) (r : Run) : Type 0 where
  pub counted : i + r.fields < 18446744073709551616
  pub ends : far r.size r.fields at ≡ r.end
  pub code : r.code ≤ 8
  pub size : r.size ≤ 8
  pub fits : r.end < 18446744073709551616
  pub small : 0 < many → base + r.end < 4294967296

-- Do the numbers of a run agree that stands at the front of a part, which begins at `base`: is its code one of the
-- codes that a run may have, its end the one of so many fields of its size, and the end within the limit?
unfoldable pub agrees_at : ℕ → Run → Bool
agrees_at base r =
    leb r.code 8 && (leb r.size 8 && (leb r.fields limit && (leb base limit && (leb r.end (limit - base) && eqb r.end (r.fields * (r.size + 1))))))

-- What is kept of such a run.
unfoldable pub kept_lead : ℕ → Run → List ℕ → List ℕ
kept_lead base r kept =
    cond (agrees_at base r)
    (kept_all (length kept / row_size) 0 0 (map (moved base) (alike_fields r.code r.size r.fields 0)) kept)
    kept
