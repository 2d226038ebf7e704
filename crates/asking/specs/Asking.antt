-- Asking (01, "What reading returns" and refusal 16): the field k of a message that is read afresh, with no table.
use Rattle.std.specs.Prelude.{ℕ, zero, suc, List, [], ◌∷◌, get_or, take, drop}
use Rattle.sim0mq.specs.Answer.{Answer, fine, refused, ◌>>=◌}
use Rattle.sim0mq.specs.Field.{Field}
use Rattle.sim0mq.specs.Message.{no_table, reading}

-- Field k of these, or 16 at 0.
unfoldable pub nth : List Field → ℕ → Answer Field
nth [] k = refused 16 0
nth (f ∷ fs) zero = fine f
nth (f ∷ fs) (suc k) = nth fs k

-- Field k of the message: reading's refusals with no table, then 16.
unfoldable pub asked : List ℕ → ℕ → Answer Field
asked s k = do
  m ← reading no_table s
  nth m.fields k

-- The part of s that holds the field's value bytes; empty where asking is refused.
abbrev pub view_of : List ℕ → Answer Field → List ℕ
view_of s (fine f) = take f.size (drop f.first s)
view_of s (refused k p) = []

-- Where the view begins in the message: at the field's first value byte; at its front where asking is refused.
abbrev pub view_place : Answer Field → ℕ
view_place (fine f) = f.first
view_place (refused k p) = 0

-- The field whose row this is.
abbrev pub field_in : List ℕ → Field
field_in r =
    record {
      code = get_or r 0 0;
      place = get_or r 1 0;
      first = get_or r 2 0;
      size = get_or r 3 0;
      marked = get_or r 4 0;
      values = get_or r 5 0;
    }
