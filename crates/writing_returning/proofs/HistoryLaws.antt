-- At every point of a history the buffer holds the header and the fields that were granted, by induction over the
-- calls: a granted adding places its field right after what was written, and a refused call changes nothing.
use Prim.Native.Nat.{ℕ, ◌+◌, ◌≤◌}
use mathlib.Core.Path.{◌≡◌, refl, ap, ap₂, sym, ◌∙◌, subst}
use mathlib.Core.Bool.{true, false, not, ◌&&◌, false≢true}
use mathlib.Core.List.{List, [], ◌∷◌, ◌++◌, map, flat_map, append_assoc, append-nil}
use native.Mathlib.Omega.{arith}
use native.Mathlib.Nat.{zero-add, add-zero}
use lib.Dec.{leb, ltb, eqb}
use lib.ListN.{length, take, drop, length-append, length-drop}
use lib.Seq.{take_at, drop-append-add, drop-drop}
use borrow.Author.Tests.{eqb-true, not-true}
use Rattle.sim0mq.specs.Answer.{Answer, fine, refused}
use Rattle.sim0mq.specs.Message.{limit}
use Rattle.sim0mq.specs.Allowed.{Each, none, more, FieldParts, field_bytes, IsField}
use Rattle.sim0mq.proofs.Answers.{bind_fine, guarded, and_true}
use Rattle.sim0mq.specs.Table.{placed}
use Rattle.writing_opening.specs.Opening.{buffer_after}
use Rattle.writing.specs.Writing.{Opening, header_text, opening, after_opening, Given, field_given, takes, adding, after_adding, closing, after_closing}
use Rattle.writing_returning.specs.History.{Point, adds, closes, given_after, closings_after, next, History, opened, called, bytes_of}
use Rattle.writing_returning.specs.Promises.{Holds}
use Rattle.writing.specs.declared.Writer.{Writer}
use Rattle.writing_returning.proofs.JoinLaws.{flat_append}
use Rattle.writing_returning.proofs.GivenLaws.{FoundGiven, given_sound}
use Rattle.writing_returning.proofs.OpenLaws.{fitting_sound, Opened, opening_sound}

-- a text placed where what was written ends
grown : (x l out : List ℕ) (w : ℕ) → w ≡ length x → placed (x ++ drop w out) w l ≡ x ++ (l ++ drop (w + length l) out)
unfolding placed
grown x l out w e =
    let front : take w (x ++ drop w out) ≡ x = take_at x (drop w out) w (sym e) in
    let back : drop (w + length l) (x ++ drop w out) ≡ drop (w + length l) out
    = ap (λ (k : ℕ). drop (k + length l) (x ++ drop w out)) e ∙ drop-append-add x (drop w out) (length l) ∙ drop-drop (length l) w out in
    ap₂ (λ (a b : List ℕ). a ++ (l ++ b)) front back

-- the buffer keeps its length
kept : (x out : List ℕ) (w : ℕ) → w ≡ length x → w ≤ length out → length (x ++ drop w out) ≡ length out
kept x out w e h = length-append x (drop w out) ∙ omega (arith, length-drop w out)

-- what was granted was taken, and is fields that the manual allows
abbrev pub Taken : Given → Type 0
Taken g = field_given g ≡ fine (bytes_of g)

pub record Fields (gs : List Given) : Type 0 where
  pub taken : Each Taken gs
  pub parts : List FieldParts
  pub are : Each IsField parts
  pub bytes : map field_bytes parts ≡ map bytes_of gs

-- one more
each_more : {A : Type 0} {P : A → Type 0} (xs : List A) (x : A) → Each P xs → P x → Each P (xs ++ (x ∷ []))
each_more [] x none i = more i none
each_more (y ∷ xs) x (more a b) i = more a (each_more xs x b i)

map_more : {A B : Type 0} (f : A → B) (xs : List A) (x : A) → map f (xs ++ (x ∷ [])) ≡ map f xs ++ (f x ∷ [])
map_more f [] x = refl
map_more f (y ∷ xs) x = ap (λ (l : List _). f y ∷ l) (map_more f xs x)

-- what is known of a point
pub record Known (o : Opening) (out : List ℕ) (p : Point) : Type 0 where
  pub head : Opened o (length out) (header_text o)
  pub holds : Holds o out p
  pub short : p.writer.written ≤ limit
  pub fields : Fields p.given
  pub full : p.writer.closed ≡ true → p.writer.added ≡ p.writer.declared
  pub unclosed : p.closings ≡ 0 → p.writer.closed ≡ false

-- after a granted opening
start_with : Opening → List ℕ → Answer (List ℕ) → Point
start_with o out a = record { writer = (after_opening o a).writer; buffer = buffer_after out 0 a; given = []; closings = 0 }

known_start : (o : Opening) (out : List ℕ) → Opened o (length out) (header_text o) → Known o out (start_with o out (fine (header_text o)))
unfolding placed flat_map start_with
known_start o out h =
    let fits = h.fits in
    record {
      head = h;
      holds =
          record {
            buffer = ap (λ (k : ℕ). header_text o ++ drop k out) (zero-add (length (header_text o)));
            written = sym (add-zero (length (header_text o)));
            room = fits;
            declared = refl;
            added = refl;
          };
      short = h.short;
      fields = record { taken = none; parts = []; are = none; bytes = refl };
      full = λ e. absurd (false≢true e);
      unclosed = λ e. refl;
    }

-- what is known of a granted adding
record Added (w : Writer) (room : ℕ) (g : Given) (l : List ℕ) : Type 0 where
  unclosed : w.closed ≡ false
  taken : field_given g ≡ fine l
  found : FoundGiven g l
  short : w.written + length l ≤ limit
  fits : w.written + length l ≤ room

adding_sound : (w : Writer) (room : ℕ) (g : Given) (l : List ℕ) → adding w room g ≡ fine l → Added w room g l
unfolding adding takes
adding_sound w room g l q =
    let a = guarded (ltb w.added w.declared && (not w.closed && (leb w.written limit && leb w.written room))) _ _ _ q in
    let b = and_true (ltb w.added w.declared) _ a.0 in
    let c = and_true (not w.closed) _ b.1 in
    let d = bind_fine (field_given g) _ a.1 in
    let e = fitting_sound w.written room d.0 l d.2 in
    record {
      unclosed = not-true w.closed c.0;
      taken = d.1 ∙ ap fine (sym e.0);
      found = given_sound g l (d.1 ∙ ap fine (sym e.0));
      short = subst (λ (t : List ℕ). w.written + length t ≤ limit) (sym e.0) e.1;
      fits = subst (λ (t : List ℕ). w.written + length t ≤ room) (sym e.0) e.2;
    }

-- after an adding
add_with : Point → Given → Answer (List ℕ) → Point
add_with p g a =
    record {
      writer = (after_adding p.writer a).writer;
      buffer = buffer_after p.buffer p.writer.written a;
      given = given_after p.given g a;
      closings = p.closings;
    }

-- the text of one field more
text_more : (gs : List Given) (g : Given) (l : List ℕ) → l ≡ bytes_of g → flat_map bytes_of (gs ++ (g ∷ [])) ≡ flat_map bytes_of gs ++ l
unfolding flat_map
text_more gs g l e =
    flat_append bytes_of gs (g ∷ []) ∙ ap (λ (t : List ℕ). flat_map bytes_of gs ++ t) (append-nil (bytes_of g) ∙ sym e)

known_added : (o : Opening) (out : List ℕ) (p : Point) (g : Given) → Known o out p → (a : Answer (List ℕ))
    → adding p.writer (length p.buffer) g ≡ a → Known o out (add_with p g a)
unfolding add_with
known_added o out p g k (refused n at) q = k
known_added o out p g k (fine l) q =
    let w = p.writer.written in
    let front = header_text o in
    let text = flat_map bytes_of p.given in
    let h = k.holds in
    let a = adding_sound p.writer (length p.buffer) g l q in
    let f = a.found in
    let long : w ≡ length (front ++ text) = h.written ∙ sym (length-append front text) in
    let whole : p.buffer ≡ (front ++ text) ++ drop w out = h.buffer ∙ sym (append_assoc front text (drop w out)) in
    let same : length p.buffer ≡ length out = ap length whole ∙ kept (front ++ text) out w long h.room in
    let more-text = text_more p.given g l f.same in
    let size : length (flat_map bytes_of (p.given ++ (g ∷ []))) ≡ length text + length l = ap length more-text ∙ length-append text l in
    let before = h.written in
    let fits = a.fits in
    record {
      head = k.head;
      holds =
          record {
            buffer =
                ap (λ (b : List ℕ). placed b w l) whole
                ∙ grown (front ++ text) l out w long
                ∙ append_assoc front text (l ++ drop (w + length l) out)
                ∙ ap (λ (t : List ℕ). front ++ t)
                (sym (append_assoc text l (drop (w + length l) out)) ∙ ap (λ (t : List ℕ). t ++ drop (w + length l) out) (sym more-text));
            written = omega arith;
            room = omega arith;
            declared = h.declared;
            added = ap (λ (n : ℕ). n + 1) h.added ∙ sym (length-append p.given (g ∷ []));
          };
      short = a.short;
      fields =
          record {
            taken = each_more p.given g k.fields.taken (a.taken ∙ ap fine f.same);
            parts = k.fields.parts ++ (f.parts ∷ []);
            are = each_more k.fields.parts f.parts k.fields.are f.is;
            bytes =
                map_more field_bytes k.fields.parts f.parts
                ∙ ap₂ (λ (xs : List (List ℕ)) (x : List ℕ). xs ++ (x ∷ [])) k.fields.bytes f.bytes
                ∙ sym (map_more bytes_of p.given g);
          };
      full = λ e. absurd (false≢true e);
      unclosed = λ e. refl;
    }

-- after a closing
close_with : Point → Answer ℕ → Point
close_with p a =
    record { writer = (after_closing p.writer a).writer; buffer = p.buffer; given = p.given; closings = closings_after p.closings a }

known_closed : (o : Opening) (out : List ℕ) (p : Point) → Known o out p → (a : Answer ℕ) → closing p.writer ≡ a → Known o out (close_with p a)
unfolding close_with closing
known_closed o out p k (refused n at) q = k
known_closed o out p k (fine n) q =
    let w = p.writer in
    let a = guarded (not w.closed && (leb w.written limit && eqb w.added w.declared)) _ _ _ q in
    let b = and_true (not w.closed) _ a.0 in
    let c = and_true (leb w.written limit) _ b.1 in
    let h = k.holds in
    record {
      head = k.head;
      holds = record { buffer = h.buffer; written = h.written; room = h.room; declared = h.declared; added = h.added };
      short = k.short;
      fields = k.fields;
      full = λ e. eqb-true _ _ c.1;
      unclosed = λ e. absurd (omega arith);
    }

-- every point of a history
pub known : {o : Opening} {out : List ℕ} {p : Point} → History o out p → Known o out p
unfolding next start_with add_with close_with
known {o} {out} (opened {text = text} q) =
    let h = opening_sound o (length out) text q in
    let e : opening o (length out) ≡ fine (header_text o) = q ∙ ap fine h.is_header_lem in
    subst (λ (a : Answer (List ℕ)). Known o out (start_with o out a)) (sym e)
    (known_start o out (subst (Opened o (length out)) h.is_header_lem h))
known {o} {out} (called {p = p} h (adds g)) = known_added o out p g (known h) (adding p.writer (length p.buffer) g) refl
known {o} {out} (called {p = p} h closes) = known_closed o out p (known h) (closing p.writer) refl
