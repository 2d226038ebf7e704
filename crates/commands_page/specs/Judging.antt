-- Is a message one of the commands (02, Ticket 11)? After all of reading's refusals: 20, 21, 22, 23.
use Rattle.std.specs.Prelude.{ℕ, ◌+◌, ◌-◌, ◌*◌, ◌%◌, Bool, true, false, cond, ◌&&◌, ◌||◌, List, [], ◌∷◌, length, get_or, leb, ltb, eqb, ◌≡◌, refl}
use Rattle.sim0mq.specs.Answer.{Answer, fine, refused, ◌>>=◌, ◌>>◌, guard, byte, big, not_negative}
use Rattle.sim0mq.specs.Field.{Field}
use Rattle.sim0mq.specs.Header.{Frame}
use Rattle.sim0mq.specs.Message.{no_table, reading}
use Rattle.commands_page.specs.Page.{Code, code, span, unit, Rule, any, filled, one_of, Want, string, Row, page, row_at}

-- Do these bytes stand from `at` on?
unfoldable pub stands_at : List ℕ → ℕ → List ℕ → Bool
stands_at s at [] = true
stands_at s at (b ∷ bs) = eqb (byte s at) b && stands_at s (at + 1) bs

-- Are the `size` bytes from `at` on this word?
unfoldable pub is_word : List ℕ → ℕ → ℕ → List ℕ → Bool
is_word s at size w = eqb size (length w) && stands_at s at w

unfoldable pub is_one_of : List ℕ → ℕ → ℕ → List (List ℕ) → Bool
is_one_of s at size [] = false
is_one_of s at size (w ∷ ws) = is_word s at size w || is_one_of s at size ws

-- Is a field of code c, and of unit type u if it has a mark, one of these?
unfoldable pub code_taken : List Code → ℕ → ℕ → Bool
code_taken [] c u = false
code_taken (code k ∷ ks) c u = eqb c k || code_taken ks c u
code_taken (span a b ∷ ks) c u = (leb a c && leb c b) || code_taken ks c u
code_taken (unit k t ∷ ks) c u = (eqb c k && eqb u t) || code_taken ks c u

-- Is the string of `size` bytes from `at` on as the rule asks?
unfoldable pub text_taken : Rule → List ℕ → ℕ → ℕ → Bool
text_taken any s at size = true
text_taken filled s at size = ltb 0 size
text_taken (one_of ws) s at size = is_one_of s at size ws

-- What a command wants of its field i: the row's, and after them what follows by turns.
unfoldable pub want_in : Row → ℕ → Want
want_in row i =
    cond (ltb i (length row.fields))
    (get_or row.fields i string)
    (get_or row.turns ((i - length row.fields) % 2) string)

-- Has a field the code that is wanted, and the string? A mark's unit type stands after the code byte (000, 2.2).
abbrev pub code_right : List ℕ → Want → Field → Bool
code_right s w f = code_taken w.codes f.code (byte s (f.place + 1))

abbrev pub text_right : List ℕ → Want → Field → Bool
text_right s w f = text_taken w.rule s f.first f.size

-- The test of refusal k: 22 the code, 23 the string.
unfoldable pub passes : ℕ → List ℕ → Want → Field → Bool
passes k s w f = cond (eqb k 22) (code_right s w f) (text_right s w f)

-- The fields from the command's field i on pass the test of refusal k, the earlier first.
unfoldable pub each : List ℕ → Row → ℕ → ℕ → List Field → Answer (Unit {0})
each s row k i [] = fine tt
each s row k i (f ∷ fs) = guard (passes k s (want_in row i) f) k f.place >>= (λ pass. each s row k (i + 1) fs)

-- A field that is none.
abbrev pub no_field : Field
no_field = record { code = 0; place = 0; first = 0; size = 0; marked = 0; values = 0 }

-- The number of fields where some follow by turns (FM.2): the row's fields are there (21), the last of them is as
-- wanted (22), and it says, not negative, how many pairs follow (21).
unfoldable pub turns_right : List ℕ → ℕ → Row → Field → ℕ → Answer (Unit {0})
turns_right s kind row last n = do
  guard (leb (length row.fields) n) 21 kind
  guard (code_right s (want_in row (length row.fields - 1)) last) 22 last.place
  guard (not_negative (byte s last.first) && eqb n (length row.fields + 2 * big s last.first 4)) 21 kind

-- The number of fields.
unfoldable pub number_right : List ℕ → ℕ → Row → List Field → Answer (Unit {0})
number_right s kind row fs =
    cond (eqb (length row.turns) 0)
    (guard (eqb (length fs) (length row.fields)) 21 kind)
    (turns_right s kind row (get_or fs (length row.fields - 1) no_field) (length fs))

-- The number of the row whose type id the `size` bytes from `at` on are, with the rows from k on; the number after the
-- last where there is none.
unfoldable pub number_from : List ℕ → ℕ → ℕ → List Row → ℕ → ℕ
number_from s at size [] k = k
number_from s at size (r ∷ rs) k = cond (is_word s at size r.id) k (number_from s at size rs (k + 1))

-- Where the judge looks in the header: the type frame's place and code, the place after it, and that of the status
-- byte.
pub record Looks : Type 0 where
  pub kind : ℕ
  pub code : ℕ
  pub next : ℕ
  pub status : ℕ

abbrev pub looks_at : ℕ → ℕ → ℕ → ℕ → Looks
looks_at kind c next status = record { kind = kind; code = c; next = next; status = status }

abbrev pub no_frame : Frame
no_frame = record { place = 0; code = 0 }

abbrev pub looks : List Frame → Looks
looks fs =
    record {
      kind = (get_or fs 4 no_frame).place;
      code = (get_or fs 4 no_frame).code;
      next = (get_or fs 5 no_frame).place;
      status = (get_or fs 6 no_frame).place + 1;
    }

-- The number of the command whose type id the type frame has; an id's bytes stand after its code and its count.
abbrev pub number_at : List ℕ → Looks → ℕ
number_at s l = number_from s (l.kind + 5) (l.next - (l.kind + 5)) page 0

-- The fields of row k's command: their number (21), codes (22), strings (23).
unfoldable pub fields_right : List ℕ → ℕ → ℕ → List Field → Answer ℕ
fields_right s kind k fs = do
  number ← number_right s kind (row_at k) fs
  codes ← each s (row_at k) 22 0 fs
  strings ← each s (row_at k) 23 0 fs
  fine k

-- The status (21), and the fields.
unfoldable pub row_right : List ℕ → Looks → ℕ → List Field → Answer ℕ
row_right s l k fs = do
  guard (eqb (byte s l.status) (row_at k).status) 21 l.kind
  fields_right s l.kind k fs

-- The type id is an 8-bit string, and is that of a command (20).
unfoldable pub command_of : List ℕ → Looks → List Field → Answer ℕ
command_of s l fs = do
  guard (eqb l.code 9) 20 l.kind
  guard (ltb (number_at s l) (length page)) 20 l.kind
  row_right s l (number_at s l) fs

-- The number of the message's command, in the order of the page.
unfoldable pub commanded : List ℕ → Answer ℕ
commanded s = do
  m ← reading no_table s
  command_of s (looks m.frames) m.fields

-- The order on the smallest cases: of two wrong codes the earlier is told, a wrong number of fields before a wrong
-- code, and FM.2's sixth field before its number of pairs. A byte is a field that MC.1 and FM.2 take nowhere.
abbrev a_byte : ℕ → Field
a_byte place = record { code = 0; place = place; first = place + 1; size = 1; marked = 0; values = 1 }

pub earlier_first : each [] (row_at 2) 22 0 (a_byte 60 ∷ a_byte 62 ∷ []) ≡ refused 22 60
unfolding page row_at code_taken want_in passes each
earlier_first = refl

pub number_before_codes : fields_right [] 25 2 (a_byte 60 ∷ []) ≡ refused 21 25
unfolding page row_at number_right fields_right code_taken want_in passes each
number_before_codes = refl

pub sixth_before_pairs :
    number_right [] 25 (row_at 4) (a_byte 60 ∷ a_byte 62 ∷ a_byte 64 ∷ a_byte 66 ∷ a_byte 68 ∷ a_byte 70 ∷ a_byte 72 ∷ [])
    ≡ refused 22 70
unfolding page row_at number_right turns_right code_taken want_in
sixth_before_pairs = refl
