-- Rewriting an accepted message gives the same bytes: the writer opens with the message's own header, each of its
-- fields is taken as it stands and placed after what is written, and the declared number is then added, so that closing
-- is granted.
use Prim.Native.Nat.{ℕ, ◌+◌, ◌-◌, ◌<◌, ◌≤◌}
use mathlib.Core.Path.{◌≡◌, refl, ap, ap₂, sym, ◌∙◌, subst}
use mathlib.Core.Bool.{true, false}
use mathlib.Core.List.{List, [], ◌∷◌, ◌++◌, map, flat_map, append_assoc, append-nil, map-map}
use native.Mathlib.Omega.{arith}
use native.Mathlib.Nat.{zero-add}
use lib.ListN.{length, take, drop, length-append}
use borrow.Author.Tests.{le-leb, lt-ltb, eq-eqb}
use Rattle.sim0mq.specs.Answer.{fine, byte}
use Rattle.sim0mq.specs.Message.{limit, Reading, reading}
use Rattle.sim0mq.specs.Allowed.{Each, none, more, FieldParts, field_bytes, IsField, HeaderParts, frame0, header_frames, IsHeader, header_bytes, MessageParts, message_bytes, IsMessage}
use Rattle.sim0mq.specs.Demand2.{cut_frames}
use Rattle.sim0mq.proofs.Stands.{Stands, stands_to, stands_left, stands_right, stands_self, part_back}
use Rattle.sim0mq.proofs.PayloadLaws.{fields_many}
use Rattle.sim0mq.proofs.MessageLaws.{cut_of, message_sound}
use Rattle.asking_scalars.specs.Promises.{own_bytes}
use Rattle.sim0mq.specs.Table.{placed}
use Rattle.writing_opening.specs.Opening.{fitting, buffer_after}
use Rattle.writing.specs.Writing.{Opening, header_text, opening, after_opening, Given, encoded, field_given, takes, adding, after_adding, closing}
use Rattle.writing_returning.specs.History.{Point, start, adds, closes, given_after, next, after_calls}
use Rattle.writing_returning.specs.Promises.{frame_place, own_opening, own_fields, rewritten, Rewrites, RewritingGivesTheSame}
use Rattle.writing.specs.declared.Writer.{Writer}
use Rattle.sim0mq.proofs.PlaceLaws.{placed_length, placed_on}
use Rattle.sim0mq_buffers.proofs.PlaceLaws.{front_stands}
use Rattle.writing_returning.proofs.JoinLaws.{flat_append, four_long}
use Rattle.writing_returning.proofs.GivenLaws.{encoded_taken, own_fields_lem}
use Rattle.writing_returning.proofs.RewriteOpen.{ids_of, own-header, own-opening}

-- a writer, and a point, with so many fields added; and the point once closed
abbrev writer_at : List ℕ → ℕ → ℕ → Writer
writer_at text k n = record { written = length text; declared = n; added = k; closed = false }

abbrev point_at : List ℕ → List ℕ → ℕ → ℕ → List Given → Point
point_at out text k n gs = record { writer = writer_at text k n; buffer = placed out 0 text; given = gs; closings = 0 }

abbrev closed_at : List ℕ → List ℕ → ℕ → List Given → Point
closed_at out text n gs =
    record {
      writer = record { written = length text; declared = n; added = n; closed = true };
      buffer = placed out 0 text;
      given = gs;
      closings = 1;
    }

-- a field that is taken and fits is granted, and placed after what is written
module _ (out text l : List ℕ) (k n : ℕ) where
  granted : field_given (encoded l) ≡ fine l → k < n → length text + length l ≤ limit → length text + length l ≤ length out
      → adding (writer_at text k n) (length (placed out 0 text)) (encoded l) ≡ fine l
  unfolding adding takes fitting
  granted e some short fits =
      let room = placed_length out 0 text (omega arith) in
      simp (
        lt-ltb k n some,
        le-leb (length text) limit (omega arith),
        le-leb (length text) (length (placed out 0 text)) (omega arith),
        e,
        le-leb (length text + length l) limit short,
        le-leb (length text + length l) (length (placed out 0 text)) (omega arith),
      )

  added : (gs : List Given) → adding (writer_at text k n) (length (placed out 0 text)) (encoded l) ≡ fine l → length text + length l ≤ length out
      → next (point_at out text k n gs) (adds (encoded l)) ≡ point_at out (text ++ l) (k + 1) n (gs ++ (encoded l ∷ []))
  unfolding next
  added gs e fits =
      let w = writer_at text k n in
      let long : length text + length l ≡ length (text ++ l) = sym (length-append text l) in
      let all : placed (placed out 0 text) (length text) l ≡ placed out 0 (text ++ l) = placed_on out 0 text l (length text) (omega arith) fits in
      let told : next (point_at out text k n gs) (adds (encoded l))
      ≡
      record {
        writer = (after_adding w (fine l)).writer;
        buffer = buffer_after (placed out 0 text) (length text) (fine l);
        given = given_after gs (encoded l) (fine l);
        closings = 0;
      }
      =
      λ i.
      record {
        writer = (after_adding w (e i)).writer;
        buffer = buffer_after (placed out 0 text) (length text) (e i);
        given = given_after gs (encoded l) (e i);
        closings = 0;
      } in
      told
      ∙ (λ i.
      record {
        writer = record { written = long i; declared = n; added = k + 1; closed = false };
        buffer = all i;
        given = gs ++ (encoded l ∷ []);
        closings = 0;
      })

-- a message whose declared number is added is closed
closed : (out text : List ℕ) (n : ℕ) (gs : List Given) → length text ≤ limit → next (point_at out text n n gs) closes ≡ closed_at out text n gs
unfolding next closing
closed out text n gs short = simp (le-leb (length text) limit short, eq-eqb n n refl)

-- fields that are left to add are added one after the other, and the message is closed
abbrev as_given : FieldParts → Given
as_given f = encoded (field_bytes f)

all_added : (out text : List ℕ) (k n : ℕ) (gs : List Given) (fs : List FieldParts) → Each IsField fs → k + length fs ≡ n
    → length text + length (flat_map field_bytes fs) ≤ limit → length text + length (flat_map field_bytes fs) ≤ length out
    → after_calls (point_at out text k n gs) (map adds (map as_given fs) ++ (closes ∷ []))
    ≡ closed_at out (text ++ flat_map field_bytes fs) n (gs ++ map as_given fs)
unfolding after_calls flat_map
all_added out text k n gs [] none many short fits =
    let e : k ≡ n = omega arith in
    ap (λ (j : ℕ). next (point_at out text j n gs) closes) e
    ∙ closed out text n gs (omega arith)
    ∙ ap₂ (λ (t : List ℕ) (g : List Given). closed_at out t n g) (sym (append-nil text)) (sym (append-nil gs))
all_added out text k n gs (f ∷ fs) (more a b) many short fits =
    let l = field_bytes f in
    let rest = flat_map field_bytes fs in
    let both : length (l ++ rest) ≡ length l + length rest = length-append l rest in
    let here = granted out text l k n (encoded_taken f a) (omega arith) (omega arith) (omega arith) in
    ap (λ (p : Point). after_calls p (map adds (map as_given fs) ++ (closes ∷ []))) (added out text l k n gs here (omega arith))
    ∙ all_added out (text ++ l) (k + 1) n (gs ++ (encoded l ∷ [])) fs b (omega arith) (omega (arith, length-append text l))
    (omega (arith, length-append text l))
    ∙ ap₂ (λ (t : List ℕ) (g : List Given). closed_at out t n g) (append_assoc text l rest) (append_assoc gs (encoded l ∷ []) (map as_given fs))

-- the point after a granted opening
started : (o : Opening) (out text : List ℕ) → opening o (length out) ≡ fine text → start o out ≡ point_at out text 0 o.fields []
started o out text e = λ i. record { writer = (after_opening o (e i)).writer; buffer = buffer_after out 0 (e i); given = []; closings = 0 }

-- frame 5 begins after the ids
ids_end : (h : HeaderParts)
    → 10 + length (field_bytes h.run) + length (field_bytes h.sender) + length (field_bytes h.receiver) + length (field_bytes h.kind)
    ≡ 10 + length (flat_map field_bytes (ids_of h))
unfolding flat_map
ids_end h =
    omega (arith, four_long (field_bytes h.run) (field_bytes h.sender) (field_bytes h.receiver) (field_bytes h.kind))

-- a message, by its parts
module _ (p : MessageParts) (is : IsMessage p) (out : List ℕ) where
  abbrev s : List ℕ
  s = message_bytes p

  abbrev h : HeaderParts
  h = p.header

  abbrev m : Reading
  m = cut_of p

  abbrev ids : List ℕ
  ids = flat_map field_bytes (ids_of h)

  -- the ids and then frames 5 to 7 stand where the reading says
  frames_stand : Stands s 10 (ids ++ flat_map field_bytes (h.message ∷ h.status ∷ h.count ∷ []))
  frames_stand =
      subst (Stands s 10) (flat_append field_bytes (ids_of h) (h.message ∷ h.status ∷ h.count ∷ []))
      (stands_right frame0 (flat_map field_bytes (header_frames h)) (stands_left (header_bytes h) (flat_map field_bytes p.fields) (stands_self s)))

  ids_stand : take (frame_place m 5 - frame_place m 1) (drop (frame_place m 1) s) ≡ ids
  unfolding cut_frames
  ids_stand =
      let size : frame_place m 5 - 10 ≡ length ids = omega (arith, ids_end h) in
      ap (λ (n : ℕ). take n (drop 10 s)) size ∙ part_back ids (stands_left ids _ frames_stand)

  five_on : Stands s (frame_place m 5) (flat_map field_bytes (h.message ∷ h.status ∷ h.count ∷ []))
  unfolding cut_frames
  five_on = stands_to (frame_place m 5) (sym (ids_end h)) (stands_right ids _ frames_stand)

  five : Stands s (frame_place m 5) (field_bytes h.message)
  unfolding flat_map
  five = stands_left (field_bytes h.message) _ five_on

  six_on : Stands s (frame_place m 6) (flat_map field_bytes (h.status ∷ h.count ∷ []))
  unfolding flat_map cut_frames
  six_on = stands_right (field_bytes h.message) _ five_on

  six : Stands s (frame_place m 6) (field_bytes h.status)
  unfolding flat_map
  six = stands_left (field_bytes h.status) _ six_on

  seven : Stands s (frame_place m 7) (field_bytes h.count)
  unfolding flat_map cut_frames
  seven = stands_left (field_bytes h.count) [] (stands_right (field_bytes h.status) _ six_on)

  -- the fields that are given again are the message's own
  own_given : own_fields s m ≡ map as_given p.fields
  own_given =
      let at = length (header_bytes h) in
      let there : Stands s at (flat_map field_bytes p.fields)
      = stands_to at (zero-add at) (stands_right (header_bytes h) (flat_map field_bytes p.fields) (stands_self s)) in
      sym (map-map encoded (own_bytes s) m.fields) ∙ ap (map encoded) (own_fields_lem s at p.fields there) ∙ map-map encoded field_bytes p.fields

  module _ (bytes : (i : ℕ) → byte s i < 256) (short : length s ≤ limit) (room : length s ≤ length out) where
    -- the header declares as many fields as the reading found
    many : length m.fields ≡ length p.fields
    many = fields_many (length (header_bytes h)) p.fields

    header_is : IsHeader (length m.fields) h
    header_is = subst (λ (n : ℕ). IsHeader n h) (sym many) is.is_header

    -- the opening is granted, and writes the message's header
    same-header : header_text (own_opening s m) ≡ header_bytes h
    same-header = own-header s bytes (length m.fields) h header_is _ (frame_place m 5) (frame_place m 6) (frame_place m 7) ids_stand five six seven

    opens : opening (own_opening s m) (length out) ≡ fine (header_text (own_opening s m))
    opens =
        let long = length-append (header_bytes h) (flat_map field_bytes p.fields) in
        own-opening s bytes (length m.fields) h header_is _ (frame_place m 5) (frame_place m 6) (frame_place m 7) ids_stand five six seven (length out)
        (omega arith) (omega arith)

    -- the point that the calls lead to
    ends : rewritten s m out ≡ closed_at out s (length p.fields) (map as_given p.fields)
    ends =
        let long = length-append (header_bytes h) (flat_map field_bytes p.fields) in
        ap₂ (λ (x : Point) (gs : List Given). after_calls x (map adds gs ++ (closes ∷ [])))
        (started (own_opening s m) out _ opens ∙ ap₂ (λ (t : List ℕ) (n : ℕ). point_at out t 0 n []) same-header many) own_given
        ∙ all_added out (header_bytes h) 0 (length p.fields) [] p.fields is.is_fields (zero-add (length p.fields)) (omega arith) (omega arith)

    -- so all is granted and the same bytes are written
    rewrites : Rewrites s m out
    rewrites =
        record {
          opens = opens;
          adds = ap (λ (x : Point). x.given) ends ∙ sym own_given;
          closes = ap (λ (x : Point). x.closings) ends;
          same =
              record {
                closed = ap (λ (x : Point). x.writer.closed) ends;
                bytes = sym (ap (λ (x : Point). take x.writer.written x.buffer) ends ∙ front_stands out s);
              };
        }

-- an accepted message is such parts
pub rewriting : RewritingGivesTheSame
unfolding reading
rewriting lent text out found bytes q room =
    let a = message_sound limit lent text found q in
    subst (λ (x : Reading). Rewrites text x out) (sym a.says)
    (subst (λ (l : List ℕ). ((i : ℕ) → byte l i < 256) → length l ≤ limit → length l ≤ length out → Rewrites l (cut_of a.parts) out) a.whole
    (rewrites a.parts a.is out) bytes a.short room)
