-- A message is taken for a command exactly when its parts are allowed by the row.
use Prim.Native.Nat.{ℕ, suc, ◌+◌, ◌-◌, ◌*◌, ◌≤◌, ◌<◌}
use mathlib.Core.Path.{◌≡◌, refl, ap, sym, ◌∙◌, subst}
use mathlib.Core.Bool.{true}
use mathlib.Core.List.{List, [], ◌∷◌}
use native.Mathlib.Omega.{arith}
use lib.ListN.{length, get_or}
use lib.Dec.{eqb}
use borrow.Author.Tests.{eqb-true}
use Rattle.sim0mq.specs.Answer.{fine, byte, big, not_negative}
use Rattle.sim0mq.specs.Codes.{counts_of, marking_of, width_of}
use Rattle.sim0mq.specs.Field.{Field}
use Rattle.sim0mq.specs.Header.{among, status_codes}
use Rattle.sim0mq.specs.Message.{limit, no_table, enough, message, Reading, reading}
use Rattle.sim0mq.specs.Allowed as A
use Rattle.sim0mq.specs.Allowed.{number, FieldParts, header_bytes, MessageParts, message_bytes, IsMessage}
use Rattle.sim0mq.proofs.Stands.{Stands, stands_to, big_number}
use Rattle.sim0mq.proofs.HeaderLaws.{values_there}
use Rattle.sim0mq.proofs.PayloadLaws.{fields_many}
use Rattle.sim0mq.proofs.MessageLaws.{cut_of, message_complete, message_sound}
use Rattle.commands_page.specs.Page.{Want, Row, page, row_at}
use Rattle.commands_page.specs.Judging.{is_word, code_taken, text_taken, want_in, no_field, looks, Looks, commanded}
use Rattle.commands_page.specs.Places.{NumberAllowed, IsCommand}
use Rattle.commands_page.specs.Parts.{no_part, unit_in, IsWanted, ManyAllowed, IsCommandOf}
use Rattle.commands_page.specs.Promises.{AcceptsCommands}
use Rattle.commands_page.proofs.PageLaws.{page_long, turned, six_own, or_no, int_wanted}
use Rattle.commands_page.proofs.Verdict.{code_agree}
use Rattle.commands_page.proofs.Places.{accepted, allowed}
use Rattle.commands_page.proofs.PartLaws.{word_sound, word_complete, text_sound, text_complete, Part, nth_part, unit_there, string_there, plain_there, kind_at, number_at, status_at, looks_are, rest_there, kind-there, status-there}

status_code : (c : ℕ) → among c status_codes ≡ true → c ≡ 0
unfolding among
status_code c e = eqb-true c 0 (sym (or_no (eqb c 0)) ∙ e)

single : (v : List ℕ) → length v ≡ 1 → v ≡ get_or v 0 0 ∷ []
single [] e = absurd (omega arith)
single (x ∷ []) e = refl
single (x ∷ y ∷ v) e = absurd (omega arith)

module _ (s : List ℕ) (p : MessageParts) (is : IsMessage p) (whole : message_bytes p ≡ s) (k : ℕ) (h : k < 18) where
  abbrev row : Row
  row = row_at k

  abbrev fs : List Field
  fs = (cut_of p).fields

  abbrev l : Looks
  l = looks (cut_of p).frames

  abbrev f : ℕ → FieldParts
  f i = get_or p.fields i no_part

  abbrev x : ℕ → Field
  x i = get_or fs i no_field

  many : length fs ≡ length p.fields
  many = fields_many (length (header_bytes p.header)) p.fields

  part : (i : ℕ) → i < length p.fields → Part s (x i) (f i)
  part i b = nth_part s (length (header_bytes p.header)) p.fields i is.is_fields (rest_there p s whole) b

  -- a field
  code_eq : (j i : ℕ) → i < length p.fields → code_taken (want_in row j).codes (x i).code (byte s ((x i).place + 1)) ≡ code_taken (want_in row j).codes (f i).code (unit_in (f i))
  code_eq j i b =
      let y = part i b in
      ap (λ (z : Field). code_taken (want_in row j).codes z.code (byte s (z.place + 1))) y.says
      ∙ code_agree k j (f i).code (byte s (y.at + 1)) (unit_in (f i)) h (λ d. unit_there s y.at (f i) y.is y.there d)

  values_at : (i : ℕ) → i < length p.fields → Stands s (x i).first (f i).values × ((x i).size ≡ length (f i).values)
  values_at i b =
      let y = part i b in
      (stands_to (x i).first (ap (λ (z : Field). z.first) (sym y.says)) (values_there (f i) y.there), ap (λ (z : Field). z.size) y.says)

  -- the type frame
  id_eq : p.header.kind.code ≡ 9 → (w : List ℕ)
      → Stands s (kind_at p + 5) p.header.kind.values × (is_word s (l.kind + 5) (l.next - (l.kind + 5)) w ≡ is_word s (kind_at p + 5) (length p.header.kind.values) w)
  id_eq e w =
      let st = string_there s (kind_at p) p.header.kind is.is_header.is_kind.is_field e (kind-there p s whole) in
      let n = st.1 in
      let z : number_at p - (kind_at p + 5) ≡ length p.header.kind.values = omega arith in
      (st.0, ap (λ (y : Looks). is_word s (y.kind + 5) (y.next - (y.kind + 5)) w) (looks_are p) ∙ ap (λ (m : ℕ). is_word s (kind_at p + 5) m w) z)

  -- the status
  status_is : (length p.header.status.values ≡ 1) × (byte s l.status ≡ get_or p.header.status.values 0 0)
  unfolding counts_of marking_of width_of
  status_is =
      let c = status_code p.header.status.code is.is_header.is_status.allowed in
      let st = plain_there s (status_at p) p.header.status 0 is.is_header.is_status.is_field c refl refl (status-there p s whole) in
      let one = st.1 in
      let z : status_at p + 1 ≡ status_at p + 1 + 0 = omega arith in
      (one, ap (λ (y : Looks). byte s y.status) (looks_are p) ∙ ap (λ (n : ℕ). byte s n) z ∙ st.0.same 0 (omega arith))

  -- the number of pairs
  pairs_eq : (i : ℕ) → i < length p.fields → (f i).code ≡ 2
      → (byte s (x i).first ≡ get_or (f i).values 0 0) × (big s (x i).first 4 ≡ number (f i).values)
  unfolding counts_of marking_of width_of
  pairs_eq i b c =
      let y = part i b in
      let st = (values_at i b).0 in
      let four : length (f i).values ≡ 4 = (plain_there s y.at (f i) 2 y.is c refl refl y.there).1 in
      let z : (x i).first ≡ (x i).first + 0 = omega arith in (
        ap (λ (n : ℕ). byte s n) z ∙ st.same 0 (omega arith),
        ap (λ (n : ℕ). big s (x i).first n) (sym four) ∙ big_number (f i).values st,
      )

  many_sound : NumberAllowed s row row.turns fs → ManyAllowed row row.turns p.fields
  many_sound a = go row.turns refl a
    where
      go : (ts : List Want) → row.turns ≡ ts → NumberAllowed s row ts fs → ManyAllowed row ts p.fields
      go [] q a = sym many ∙ a
      go (t ∷ ts) q a =
          let four = turned k h (λ z. let n : length row.turns ≡ suc (length ts) = ap (λ (x : List Want). length x) q in omega arith) in
          let own = six_own k four in
          let n = a.many in
          let m = many in
          let b : length row.fields - 1 < length p.fields = omega arith in
          let c : (f (length row.fields - 1)).code ≡ 2
          = eqb-true _ 2 (sym (int_wanted k _ (unit_in (f (length row.fields - 1))) four) ∙ sym (code_eq (length row.fields - 1) (length row.fields - 1) b) ∙ a.code) in
          let e = pairs_eq (length row.fields - 1) b c in
          record { sign = ap not_negative (sym e.0) ∙ a.sign; many = sym m ∙ n ∙ ap (λ (y : ℕ). length row.fields + 2 * y) e.1 }

  many_complete : ((i : ℕ) → i < length p.fields → IsWanted (want_in row i) (f i)) → ManyAllowed row row.turns p.fields → NumberAllowed s row row.turns fs
  many_complete w a = go row.turns refl a
    where
      go : (ts : List Want) → row.turns ≡ ts → ManyAllowed row ts p.fields → NumberAllowed s row ts fs
      go [] q a = many ∙ a
      go (t ∷ ts) q a =
          let four = turned k h (λ z. let n : length row.turns ≡ suc (length ts) = ap (λ (x : List Want). length x) q in omega arith) in
          let own = six_own k four in
          let n = a.many in
          let b : length row.fields - 1 < length p.fields = omega arith in
          let wanted = (w (length row.fields - 1) b).code in
          let c : (f (length row.fields - 1)).code ≡ 2 = eqb-true _ 2 (sym (int_wanted k _ (unit_in (f (length row.fields - 1))) four) ∙ wanted) in
          let e = pairs_eq (length row.fields - 1) b c in
          record {
            code = code_eq (length row.fields - 1) (length row.fields - 1) b ∙ wanted;
            sign = ap not_negative e.0 ∙ a.sign;
            many = many ∙ n ∙ ap (λ (y : ℕ). length row.fields + 2 * y) (sym e.1);
          }

  -- both ways
  pub sound : IsCommand s (cut_of p) row → IsCommandOf row p
  sound a =
      let string : p.header.kind.code ≡ 9 = ap (λ (y : Looks). y.code) (sym (looks_are p)) ∙ a.string in
      let id = id_eq string row.id in
      let st = status_is in
      let m = many in
      record {
        string = string;
        id = word_sound s (kind_at p + 5) p.header.kind.values id.0 row.id (sym id.1 ∙ a.id);
        status = single p.header.status.values st.0 ∙ ap (λ (y : ℕ). y ∷ []) (sym st.1 ∙ a.status);
        many = many_sound a.number;
        fields =
            λ i b.
            let v = values_at i b in
            record {
              code = sym (code_eq i i b) ∙ a.codes i (omega arith);
              text =
                  text_sound s (x i).first (f i).values v.0 (want_in row i).rule
                  (ap (λ (n : ℕ). text_taken (want_in row i).rule s (x i).first n) (sym v.1) ∙ a.strings i (omega arith));
            };
      }

  pub complete : IsCommandOf row p → IsCommand s (cut_of p) row
  complete a =
      let id = id_eq a.string row.id in
      let st = status_is in
      let m = many in
      record {
        string = ap (λ (y : Looks). y.code) (looks_are p) ∙ a.string;
        id = id.1 ∙ word_complete s (kind_at p + 5) p.header.kind.values id.0 row.id a.id;
        status = st.1 ∙ ap (λ (v : List ℕ). get_or v 0 0) a.status;
        number = many_complete a.fields a.many;
        codes = λ i b. let c : i < length p.fields = omega arith in code_eq i i c ∙ (a.fields i c).code;
        strings =
            λ i b.
            let c : i < length p.fields = omega arith in
            let v = values_at i c in
            ap (λ (n : ℕ). text_taken (want_in row i).rule s (x i).first n) v.1
            ∙ text_complete s (x i).first (f i).values v.0 (want_in row i).rule (a.fields i c).text;
      }

-- what reading finds in a message of these parts
read_parts : (s : List ℕ) (a : A.Allowed limit s) → reading no_table s ≡ fine (cut_of a.parts)
unfolding reading enough
read_parts s a =
    subst (λ (t : List ℕ). message limit no_table t ≡ fine (cut_of a.parts)) a.whole
    (message_complete limit no_table a.parts a.is_message (subst (λ (t : List ℕ). length t ≤ limit) (sym a.whole) a.short) refl)

accepts : (s : List ℕ) (k : ℕ) → commanded s ≡ fine k → (k < length page) × ((a : A.Allowed limit s) × IsCommandOf (row_at k) a.parts)
unfolding reading
accepts s k e =
    let c = accepted s k e in
    let g = message_sound limit no_table s c.reads c.is_message in
    let below = c.listed in
    let n = page_long in
    let cut : IsCommand s (cut_of g.parts) (row_at k) = subst (λ (m : Reading). IsCommand s m (row_at k)) g.says c.is_command in
    (below, (record { parts = g.parts; is_message = g.is; whole = g.whole; short = g.short }, sound s g.parts g.is g.whole k (omega arith) cut))

allows : (s : List ℕ) (k : ℕ) → (k < length page) × ((a : A.Allowed limit s) × IsCommandOf (row_at k) a.parts) → commanded s ≡ fine k
allows s k h =
    let a = h.1.0 in
    let below = h.0 in
    let n = page_long in
    allowed s k
    (record {
      reads = cut_of a.parts;
      is_message = read_parts s a;
      listed = below;
      is_command = complete s a.parts a.is_message a.whole k (omega arith) h.1.1;
    })

pub accepts_commands : AcceptsCommands
accepts_commands s k = (accepts s k, allows s k)
