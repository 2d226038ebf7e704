-- What the functions of a field answer, over the definitions of the format.
use Rattle.std.specs.Prelude.{Result}
use Rattle.sim0mq.specs.Answer.{Answer}
use Rattle.sim0mq.specs.Field as F
use Rattle.sim0mq.specs.declared.Refusal.{Refusal}
use Rattle.sim0mq.specs.Views.{said_as}
use Rattle.reading_fields.specs.declared.Field.{Field}

-- A field, and each case of an answer, as the definitions have them.
abbrev pub seen : Field → F.Field
seen f = record { code = f.code; place = f.place; first = f.first; size = f.size; marked = f.marked; values = f.values }

abbrev pub fielded : Result Field Refusal → Answer F.Field
fielded r = said_as seen r
