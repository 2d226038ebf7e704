-- What the functions of a field's head answer, over the definitions of the format.
use Rattle.std.specs.Prelude.{ℕ, Result}
use Rattle.sim0mq.specs.Answer.{Answer, fine}
use Rattle.sim0mq.specs.Field as F
use Rattle.sim0mq.specs.declared.Refusal.{Refusal}
use Rattle.sim0mq.specs.Views.{said_as}
use Rattle.reading_heads.specs.declared.Asked.{Asked}

-- A head, and each case of an answer, as the definitions have them.
abbrev pub head_in : Asked → F.Head
head_in h = record { code = h.code; values = h.values; marked = h.marked; next = h.next }

abbrev pub headed : Result Asked Refusal → Answer F.Head
headed r = said_as head_in r

-- What a field of code c asks for whose counts say v values and k columns and end at p.
abbrev pub asked_for : ℕ → ℕ → ℕ → ℕ → Answer F.Head
asked_for c v k p = fine (F.head_of c (record { values = v; columns = k; next = p }))
