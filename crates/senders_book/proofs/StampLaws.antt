-- An accepted message has a stamp: its frames 2 and 5 were judged when it was read, so their outlines are fine, and the
-- number frame is a scalar of eight bytes, which all stand in the message.
use Prim.Native.Nat.{ℕ, ◌+◌, ◌*◌, ◌≤◌}
use mathlib.Core.Path.{◌≡◌, refl, sym, ap, ◌∙◌, subst}
use mathlib.Core.Bool.{or-false, true}
use mathlib.Core.List.{List}
use native.Mathlib.Omega.{arith}
use lib.ListN.{length, take, drop}
use lib.Dec.{leb}
use borrow.Author.Tests.{eqb-true}
use Rattle.sim0mq.specs.Answer.{Answer, fine, refused, ◌>>=◌, byte, big, not_negative, part_at}
use Rattle.sim0mq.specs.Codes.{width_of, counts_of}
use Rattle.sim0mq.specs.Mark.{marks}
use Rattle.sim0mq.specs.Field.{Field, outline, field, head, booleans, booleans_of, after}
use Rattle.sim0mq.specs.Header.{
  Header,
  Frame,
  header_of,
  header,
  magic,
  frame,
  status,
  declared,
  id_codes,
  number_codes,
  status_codes,
  count_codes,
  status_taken,
  fields_taken,
  among,
}
use Rattle.sim0mq.specs.Payload.{payload}
use Rattle.sim0mq.specs.Message.{limit, enough, no_table, Reading, message_rest, message, reading}
use Rattle.sim0mq.proofs.Answers.{bind_fine, guarded, needed, needed_bind, fine_eq}
use Rattle.sim0mq.proofs.HeaderLaws.{frame_scalar}
use Rattle.sim0mq_numbers.specs.Numbers.{number_at}
use Rattle.sim0mq_numbers.proofs.NumberCases.{number_there}
use Rattle.sim0mq_signed.specs.Signed.{twos}
use Rattle.senders_book.specs.declared.Sender.{Sender}
use Rattle.senders_book.specs.Taking.{stamped, frame_place, taking_framed, taking}
use Rattle.senders_book.specs.Promises.{AcceptedIsStamped, FramesAreEnough, ReadingComesFirst}
use Rattle.senders_book.proofs.TakeCases.{stamp-there, at-stamp}

-- an outline that is fine: its place, and that it lies in s
module _ (s : List ℕ) (at : ℕ) (x : Field) (q : outline s at ≡ fine x) where
  outline_place : x.place ≡ at
  unfolding outline
  outline_place =
      let a = bind_fine (head s at) _ q in
      let b = bind_fine (marks s a.0.marked a.0.next) _ a.2 in
      let n = needed_bind s b.0 (a.0.values * width_of a.0.code) _ b.2 in
      ap (λ (y : Field). y.place) (sym (fine_eq n.1))

  pub outline_within : x.first + x.size ≤ length s
  unfolding outline
  outline_within =
      let a = bind_fine (head s at) _ q in
      let b = bind_fine (marks s a.0.marked a.0.next) _ a.2 in
      let n = needed_bind s b.0 (a.0.values * width_of a.0.code) _ b.2 in
      subst (λ (y : Field). y.first + y.size ≤ length s) (fine_eq n.1) n.0

-- a field that is fine, and a frame, has a fine outline
pub field_outline : (s : List ℕ) (at : ℕ) (x : Field) → field s at ≡ fine x → outline s at ≡ fine x
unfolding field
field_outline s at x q =
    let f = bind_fine (outline s at) _ q in
    let g = bind_fine (booleans s (booleans_of f.0.code f.0.size) f.0.first) _ f.2 in
    f.1 ∙ g.2

pub frame_outline : (s codes : List ℕ) (at : ℕ) (x : Field) → frame s codes at ≡ fine x → outline s at ≡ fine x
unfolding frame
frame_outline s codes at x q =
    let a = needed s at 1 _ q in
    let b = guarded (among (byte s at) codes) _ _ _ a.1 in
    field_outline s at x b.1

-- a frame stands at the place that is said of it
at_place : (s codes : List ℕ) (at p : ℕ) (x : Field) → frame s codes at ≡ fine x → x.place ≡ p → frame s codes p ≡ fine x
at_place s codes at p x q e =
    subst (λ (j : ℕ). frame s codes j ≡ fine x) (sym (outline_place s at x (frame_outline s codes at x q)) ∙ e) q

-- frames 6 and 7, of which more is judged
status_frame : (s : List ℕ) (at : ℕ) (x : Field) → status s at ≡ fine x → frame s status_codes at ≡ fine x
unfolding status
status_frame s at x q =
    let f = bind_fine (frame s status_codes at) _ q in
    let g = guarded (status_taken (byte s f.0.first)) _ _ _ f.2 in
    f.1 ∙ g.1

declared_frame : (s : List ℕ) (at : ℕ) (x : Field) → declared s at ≡ fine x → frame s count_codes at ≡ fine x
unfolding declared
declared_frame s at x q =
    let f = bind_fine (frame s count_codes at) _ q in
    let g = guarded (not_negative (byte s f.0.first)) _ _ _ f.2 in
    let h = guarded (fields_taken (big s f.0.first f.0.size)) _ _ _ g.1 in
    f.1 ∙ h.1

-- what is known of the frames of a header that is fine: the sender, the type, the number, the status, and the number of
-- fields, after which the fields begin at `next`
pub record Frames (s : List ℕ) (frames : List Frame) (next : ℕ) : Type 0 where
  pub from : Field
  pub kind : Field
  pub count : Field
  pub state : Field
  pub many : Field
  pub is_id : frame s id_codes (frame_place frames 2) ≡ fine from
  pub is_kind : frame s id_codes (frame_place frames 4) ≡ fine kind
  pub is_number : frame s number_codes (frame_place frames 5) ≡ fine count
  pub is_status : frame s status_codes (frame_place frames 6) ≡ fine state
  pub is_many : frame s count_codes (frame_place frames 7) ≡ fine many
  pub ends : after many ≡ next

header_frames_lem : (s : List ℕ) (h : Header) → header s ≡ fine h → Frames s h.frames h.next
unfolding header frame_place
header_frames_lem s h e =
    let m = bind_fine (magic s) _ e in
    let r = bind_fine (frame s id_codes m.0) _ m.2 in
    let t = bind_fine (frame s id_codes (after r.0)) _ r.2 in
    let v = bind_fine (frame s id_codes (after t.0)) _ t.2 in
    let k = bind_fine (frame s id_codes (after v.0)) _ v.2 in
    let n = bind_fine (frame s number_codes (after k.0)) _ k.2 in
    let u = bind_fine (status s (after n.0)) _ n.2 in
    let c = bind_fine (declared s (after u.0)) _ u.2 in
    let q : header_of s r.0 t.0 v.0 k.0 n.0 u.0 c.0 ≡ h = fine_eq c.2 in
    record {
      from = t.0;
      kind = k.0;
      count = n.0;
      state = u.0;
      many = c.0;
      is_id = at_place s id_codes _ _ t.0 t.1 (ap (λ (g : Header). frame_place g.frames 2) q);
      is_kind = at_place s id_codes _ _ k.0 k.1 (ap (λ (g : Header). frame_place g.frames 4) q);
      is_number = at_place s number_codes _ _ n.0 n.1 (ap (λ (g : Header). frame_place g.frames 5) q);
      is_status = at_place s status_codes _ _ u.0 (status_frame s _ u.0 u.1) (ap (λ (g : Header). frame_place g.frames 6) q);
      is_many = at_place s count_codes _ _ c.0 (declared_frame s _ c.0 c.1) (ap (λ (g : Header). frame_place g.frames 7) q);
      ends = ap (λ (g : Header). g.next) q;
    }

pub reading_frames : (s : List ℕ) (m : Reading) → reading no_table s ≡ fine m
    → (h : Header) × (header s ≡ fine h) × Frames s m.frames h.next
unfolding reading message message_rest
reading_frames s m e =
    let a = guarded (leb (length s) limit) _ _ _ e in
    let h = bind_fine (header s) _ a.1 in
    let g = guarded (enough no_table h.0.fields) _ _ _ h.2 in
    let p = bind_fine (part_at h.0.next (payload (drop h.0.next s) h.0.fields)) _ g.1 in (
      h.0,
      h.1,
      subst (λ (x : Reading). Frames s x.frames h.0.next) (fine_eq p.2) (header_frames_lem s h.0 h.1),
    )

-- the number frame has the one type code 3, which is a scalar's
long_scalar : (c : ℕ) → among c number_codes ≡ true → (counts_of c ≡ 0) × (1 ≤ width_of c)
unfolding among counts_of width_of
long_scalar c e =
    let q : 3 ≡ c = sym (eqb-true c 3 (rw or-false at e)) in
    (ap counts_of (sym q), subst (λ (k : ℕ). 1 ≤ width_of k) q (omega arith))

-- taking, once the message is read
framed_as : (b : List Sender) (s : List ℕ) (x : Answer Reading) (m : Reading) → x ≡ fine m
    → (x >>= (λ (m : Reading). taking_framed b s m.frames)) ≡ taking_framed b s m.frames
framed_as b s x m e = rw e refl

pub frames_are_enough : FramesAreEnough
unfolding taking
frames_are_enough b s m e = sym (framed_as b s (reading no_table s) m e)

pub reading_comes_first : ReadingComesFirst
unfolding taking
reading_comes_first b s k p e = go (reading no_table s) e
  where
    go : (x : Answer Reading) → x ≡ refused k p → (x >>= (λ (m : Reading). taking_framed b s m.frames)) ≡ refused k p
    go x e = rw e refl

pub accepted_is_stamped : AcceptedIsStamped
accepted_is_stamped s m e =
    let r = (reading_frames s m e).2 in
    let f = r.from in
    let g = r.count in
    let two = frame_place m.frames 2 in
    let five = frame_place m.frames 5 in
    let scalar = frame_scalar s number_codes five g long_scalar r.is_number in
    let n : number_at s g.first g.size ≡ big s g.first g.size
    = number_there s g.first g.size scalar.1 scalar.2 in
    let id = take f.size (drop f.first s) in
    let t = stamped two five f.code id (twos 64 (number_at s g.first g.size)) in (
      t,
      record {
        sender = refl;
        numbered = refl;
        from = f;
        is_id = r.is_id;
        code = refl;
        id = refl;
        count = g;
        is_number = r.is_number;
        number = ap (twos 64) n;
      },
      λ b.
          sym (frames_are_enough b s m e)
          ∙ sym (at-stamp b s m.frames two five refl refl _
          (stamp-there s two five f (frame_outline s id_codes two f r.is_id) g _ _ _
          (frame_outline s number_codes five g r.is_number) refl refl refl)),
    )
