-- What the ledger promises of a message: a judgement that is fine passed each of its tests, so its deed can be done;
-- and where two judgements differ in fields that the number of fields does not ask for, they are the same.
use Prim.Native.Nat.{ℕ, ◌+◌, ◌≤◌}
use mathlib.Core.Path.{◌≡◌, refl, sym, ap, ◌∙◌, subst}
use mathlib.Core.Bool.{Bool, true, false, cond, ◌||◌}
use mathlib.Core.List.{List}
use native.Mathlib.Omega.{arith}
use lib.ListN.{length}
use lib.Dec.{eqb, ltb}
use borrow.Author.Tests.{ltb-true, eqb-true, lt-ltb, eq-eqb, ne_eqb}
use Rattle.sim0mq.specs.Answer.{Answer, fine, refused, ◌>>=◌, ◌>>◌, guard, byte}
use Rattle.sim0mq.specs.Field.{Field, outline}
use Rattle.sim0mq.specs.Header.{id_codes, status_codes}
use Rattle.sim0mq.specs.Message.{no_table, Reading, reading}
use Rattle.sim0mq.proofs.Answers.{bind_fine, guarded, fine_eq}
use Rattle.sim0mq_numbers.specs.Numbers.{number_at}
use Rattle.asking.specs.Asking.{nth}
use Rattle.senders_book.specs.declared.Sender.{Sender}
use Rattle.senders_book.specs.Taking.{frame_place, Entry, taking}
use Rattle.senders_book.proofs.StampLaws as Book
use Rattle.senders_book.proofs.StampLaws.{frame_outline, reading_frames}
use Rattle.ledger_decks.specs.declared.Deed.{Deed}
use Rattle.ledger_decks.specs.declared.Deed.TheVariants.{Joins, Moves, Leaves}
use Rattle.ledger_decks.specs.Decks.{deck_count, heads_on, decks_after}
use Rattle.ledger_decks.specs.Mustering.{
  is_muster,
  value_in,
  fields_for,
  has_room,
  joining,
  moving,
  leaving,
  deed_of,
  deed_for,
  ordering_at,
  ordering,
  Order,
  entering,
  mustering,
  decks_mustered,
  book_mustered,
  ordering_framed,
  mustering_framed,
}
use Rattle.ledger_decks.specs.Promises.{
  judgement,
  AcceptedIsJudged,
  ReadingComesFirst,
  LedgerBeforeBook,
  AppliedIsTaken,
  CanBeDone,
  NewExactly,
  ChangeExactly,
  DeleteExactly,
  AppliedCanBeDone,
  FramesAreEnough,
  OneHeadMoves,
  ChangeMovesOneHead,
  ChangeToItself,
  RefusedChangesNothing,
}
use Rattle.ledger_decks.proofs.OrderCases.{fields_two, stays}
use Rattle.ledger_decks.proofs.DeckLaws.{deed_deck, deed_total}
use Rattle.ledger_decks.proofs.FrameLaws.{status_byte}
pub use Rattle.ledger_decks.proofs.FrameLaws.{deck_is_the_byte, fields_follow_the_frames}
pub use Rattle.ledger_decks.proofs.RefusedLaws.{
  new_refused_exactly,
  change_refused_exactly,
  delete_refused_exactly,
}

-- ---- mustering, once reading has answered
module _ (ds : List ℕ) (b : List Sender) (s : List ℕ) where
  musters_by : (m : Reading) → reading no_table s ≡ fine m
      → mustering ds b s ≡ (ordering ds s m >>= (λ (d : Deed). entering d (taking b s)))
  unfolding mustering
  musters_by m e = go (reading no_table s) e
    where
      go : (x : Answer Reading) → x ≡ fine m
          → (x >>= (λ (m : Reading). ordering ds s m >>= (λ (d : Deed). entering d (taking b s))))
          ≡ (ordering ds s m >>= (λ (d : Deed). entering d (taking b s)))
      go x e = rw e refl

pub reading_comes_first : ReadingComesFirst
unfolding mustering
reading_comes_first ds b s k p e = go (reading no_table s) e
  where
    go : (x : Answer Reading) → x ≡ refused k p
        → (x >>= (λ (m : Reading). ordering ds s m >>= (λ (d : Deed). entering d (taking b s)))) ≡ refused k p
    go x e = rw e refl

pub ledger_before_book : LedgerBeforeBook
ledger_before_book ds b s m k p e q =
    musters_by ds b s m e ∙ ap (λ (a : Answer Deed). a >>= (λ (d : Deed). entering d (taking b s))) q

-- ---- a deed that is granted can be done
module _ (ds s : List ℕ) where
  new_into : (f : Field) (x : Deed) → joining ds s f ≡ fine x
      → (f.code ≡ 0) × (x ≡ Joins (value_in s f)) × CanBeDone ds x
  unfolding joining
  new_into f x e =
      let a = guarded (eqb f.code 0) _ _ _ e in
      let b = guarded (ltb (value_in s f) deck_count) _ _ _ a.1 in
      let c = guarded (has_room ds (value_in s f)) _ _ _ b.1 in (
        eqb-true _ _ a.0,
        sym (fine_eq c.1),
        subst (CanBeDone ds) (fine_eq c.1) (ltb-true _ _ b.0, ltb-true _ _ c.0),
      )

  new_back : (f : Field) (x : Deed) → f.code ≡ 0 → x ≡ Joins (value_in s f) → CanBeDone ds x → joining ds s f ≡ fine x
  unfolding joining
  new_back f x c e can =
      let h : CanBeDone ds (Joins (value_in s f)) = subst (CanBeDone ds) e can in
      rw (e, eq-eqb _ _ c, lt-ltb _ _ h.0, lt-ltb _ _ h.1) refl

  delete_into : (f : Field) (x : Deed) → leaving ds s f ≡ fine x
      → (f.code ≡ 0) × (x ≡ Leaves (value_in s f)) × CanBeDone ds x
  unfolding leaving
  delete_into f x e =
      let a = guarded (eqb f.code 0) _ _ _ e in
      let b = guarded (ltb (value_in s f) deck_count) _ _ _ a.1 in
      let c = guarded (ltb 0 (heads_on ds (value_in s f))) _ _ _ b.1 in (
        eqb-true _ _ a.0,
        sym (fine_eq c.1),
        subst (CanBeDone ds) (fine_eq c.1) (ltb-true _ _ b.0, ltb-true _ _ c.0),
      )

  delete_back : (f : Field) (x : Deed) → f.code ≡ 0 → x ≡ Leaves (value_in s f) → CanBeDone ds x
      → leaving ds s f ≡ fine x
  unfolding leaving
  delete_back f x c e can =
      let h : CanBeDone ds (Leaves (value_in s f)) = subst (CanBeDone ds) e can in
      rw (e, eq-eqb _ _ c, lt-ltb _ _ h.0, lt-ltb 0 _ h.1) refl

  change_into : (f g : Field) (x : Deed) → moving ds s f g ≡ fine x
      → (f.code ≡ 0) × (g.code ≡ 0) × (x ≡ Moves (value_in s f) (value_in s g)) × CanBeDone ds x
  unfolding moving
  change_into f g x e =
      let a = guarded (eqb f.code 0) _ _ _ e in
      let b = guarded (eqb g.code 0) _ _ _ a.1 in
      let c = guarded (ltb (value_in s f) deck_count) _ _ _ b.1 in
      let d = guarded (ltb (value_in s g) deck_count) _ _ _ c.1 in
      let h = guarded (ltb 0 (heads_on ds (value_in s g))) _ _ _ d.1 in
      let r = guarded (eqb (value_in s f) (value_in s g) || has_room ds (value_in s f)) _ _ _ h.1 in (
        eqb-true _ _ a.0,
        eqb-true _ _ b.0,
        sym (fine_eq r.1),
        subst (CanBeDone ds) (fine_eq r.1) (ltb-true _ _ c.0, ltb-true _ _ d.0, ltb-true _ _ h.0, r.0),
      )

  change_back : (f g : Field) (x : Deed) → f.code ≡ 0 → g.code ≡ 0 → x ≡ Moves (value_in s f) (value_in s g)
      → CanBeDone ds x → moving ds s f g ≡ fine x
  unfolding moving
  change_back f g x c d e can =
      let h : CanBeDone ds (Moves (value_in s f) (value_in s g)) = subst (CanBeDone ds) e can in
      rw (
        e,
        eq-eqb _ _ c,
        eq-eqb _ _ d,
        lt-ltb _ _ h.0,
        lt-ltb _ _ h.1,
        lt-ltb 0 _ h.2,
        h.3,
      ) refl

  deed_can : (status : ℕ) (f : Field) (second : Answer Field) (x : Deed) → deed_of status ds s f second ≡ fine x
      → CanBeDone ds x
  unfolding deed_of
  deed_can status f second x = go (eqb status 1) (eqb status 2)
    where
      go : (t u : Bool)
          → cond t (joining ds s f) (cond u (second >>= (λ (g : Field). moving ds s f g)) (leaving ds s f)) ≡ fine x
          → CanBeDone ds x
      go true u e = (new_into f x e).2
      go false true e = let g = bind_fine second _ e in (change_into f g.0 x g.2).3
      go false false e = (delete_into f x e).2

  pub ordering_can : (kind status n : ℕ) (first second : Answer Field) (x : Deed)
      → ordering_at ds s kind status n first second ≡ fine x → CanBeDone ds x
  unfolding ordering_at deed_for
  ordering_can kind status n first second x e =
      let a = bind_fine (outline s kind) _ e in
      let b = guarded (is_muster s a.0) _ _ _ a.2 in
      let c = bind_fine (outline s status) _ b.1 in
      let d = guarded (eqb n (fields_for (value_in s c.0))) _ _ _ c.2 in
      let f = bind_fine first _ d.1 in
      deed_can (value_in s c.0) f.0 second x f.2

pub new_exactly : NewExactly
new_exactly ds s f x = (new_into ds s f x, λ h. new_back ds s f x h.0 h.1 h.2)

pub change_exactly : ChangeExactly
change_exactly ds s f g x = (change_into ds s f g x, λ h. change_back ds s f g x h.0 h.1 h.2 h.3)

pub delete_exactly : DeleteExactly
delete_exactly ds s f x = (delete_into ds s f x, λ h. delete_back ds s f x h.0 h.1 h.2)

-- ---- what is applied
record Applied (ds : List ℕ) (b : List Sender) (s : List ℕ) (o : Order) : Type 0 where
  read : Reading
  reads : reading no_table s ≡ fine read
  orders : ordering ds s read ≡ fine o.deed
  takes : taking b s ≡ fine o.entry

applied : (ds : List ℕ) (b : List Sender) (s : List ℕ) (o : Order) → mustering ds b s ≡ fine o → Applied ds b s o
unfolding mustering
applied ds b s o e =
    let m = bind_fine (reading no_table s) _ e in
    let d = bind_fine (ordering ds s m.0) _ m.2 in
    let t = bind_fine (taking b s) _ d.2 in
    subst (Applied ds b s) (fine_eq t.2) (record { read = m.0; reads = m.1; orders = d.1; takes = t.1 })

pub applied_is_taken : AppliedIsTaken
applied_is_taken ds b s o e = (applied ds b s o e).takes

pub applied_can_be_done : AppliedCanBeDone
unfolding ordering
applied_can_be_done ds b s o e = ordering_can ds s _ _ _ _ _ o.deed (applied ds b s o e).orders

-- ---- frames 4 and 6 of an accepted message
judged_so : (ds s : List ℕ) (m : Reading) (kind stat n : ℕ) (f g : Field) → outline s kind ≡ fine f
    → outline s stat ≡ fine g → number_at s g.first g.size ≡ n → kind ≡ frame_place m.frames 4
    → ordering_at ds s kind stat (length m.fields) (nth m.fields 0) (nth m.fields 1) ≡ judgement ds s m f n
unfolding ordering_at
judged_so ds s m kind stat n f g e d q w = rw (e, d, q, w) refl

pub accepted_is_judged : AcceptedIsJudged
unfolding ordering
accepted_is_judged s m e =
    let r = (reading_frames s m e).2 in
    let four = frame_place m.frames 4 in
    let six = frame_place m.frames 6 in
    record {
      kind = r.kind;
      is_id = r.is_kind;
      is_judged =
          λ ds.
          judged_so ds s m four six (byte s (six + 1)) r.kind r.state
          (frame_outline s id_codes four r.kind r.is_kind)
          (frame_outline s status_codes six r.state r.is_status)
          (status_byte s six r.state r.is_status) refl;
    }

-- ---- the fields that the number of fields asks for are all that is looked at
bind_same : {A B : Type 0} (a : Answer A) (f g : A → Answer B) → ((x : A) → f x ≡ g x) → (a >>= f) ≡ (a >>= g)
bind_same (fine x) f g h = h x
bind_same (refused k p) f g h = refl

guard_same : {B : Type 0} (t : Bool) (k p : ℕ) (a b : Answer B) → (t ≡ true → a ≡ b)
    → (guard t k p >> a) ≡ (guard t k p >> b)
guard_same true k p a b h = h refl
guard_same false k p a b h = refl

fields_some : (x : ℕ) → 1 ≤ fields_for x
unfolding fields_for
fields_some x = go (eqb x 2)
  where
    go : (t : Bool) → 1 ≤ cond t 2 1
    go true = omega arith
    go false = omega arith

module _ (ds s : List ℕ) (n : ℕ) (first first' second second' : Answer Field) (same : 1 ≤ n → first ≡ first')
    (same' : 2 ≤ n → second ≡ second') where
  second_same : (x : ℕ) → n ≡ fields_for x → (f : Field) → deed_of x ds s f second ≡ deed_of x ds s f second'
  unfolding deed_of
  second_same x e f = go (eqb x 2) refl
    where
      go : (t : Bool) → eqb x 2 ≡ t → deed_of x ds s f second ≡ deed_of x ds s f second'
      go true q =
          let two = fields_two x (eqb-true x 2 q) in
          ap (deed_of x ds s f) (same' (omega arith))
      go false q = rw q refl

  deed_same : (x : ℕ) → n ≡ fields_for x → deed_for x ds s first second ≡ deed_for x ds s first' second'
  unfolding deed_for
  deed_same x e =
      let some = fields_some x in
      ap (λ (a : Answer Field). a >>= (λ (f : Field). deed_of x ds s f second)) (same (omega arith))
      ∙ bind_same first' _ _ (second_same x e)

  order_same : (kind status : ℕ)
      → ordering_at ds s kind status n first second ≡ ordering_at ds s kind status n first' second'
  unfolding ordering_at
  order_same kind status =
      bind_same (outline s kind) _ _
      (λ f.
      guard_same (is_muster s f) 20 kind _ _
      (λ m.
      bind_same (outline s status) _ _
      (λ g.
      guard_same (eqb n (fields_for (value_in s g))) 21 kind _ _ (λ e. deed_same (value_in s g) (eqb-true _ _ e)))))

pub order_framed : (ds s : List ℕ) (m : Reading) → reading no_table s ≡ fine m
    → ordering_framed ds s m.frames (length m.fields) ≡ ordering ds s m
unfolding ordering_framed ordering
order_framed ds s m e =
    let f = fields_follow_the_frames s m e in
    order_same ds s (length m.fields) _ _ _ _ f.first f.second _ _

pub frames_are_enough : FramesAreEnough
unfolding mustering_framed
frames_are_enough ds b s m e =
    ap (λ (a : Answer Entry). ordering_framed ds s m.frames (length m.fields) >>= (λ (d : Deed). entering d a))
    (Book.frames_are_enough b s m e)
    ∙ ap (λ (a : Answer Deed). a >>= (λ (d : Deed). entering d (taking b s))) (order_framed ds s m e)
    ∙ sym (musters_by ds b s m e)

-- ---- a change
module _ (ds : List ℕ) (joined left : ℕ) (long : length ds ≡ deck_count) (can : CanBeDone ds (Moves joined left)) where
  abbrev after : List ℕ
  after = decks_after ds (Moves joined left)

  one_head_moves : OneHeadMoves ds after joined left
  one_head_moves =
      record {
        off =
            λ d.
            let e = deed_deck ds long (Moves joined left) can left in
            rw (eq-eqb left left refl, ne_eqb left joined (λ q. d (sym q))) at e ∙ omega arith;
        onto =
            λ d.
            let e = deed_deck ds long (Moves joined left) can joined in
            omega arith ∙ rw (eq-eqb joined joined refl, ne_eqb joined left d) at e;
        others =
            λ d a b.
            let e = deed_deck ds long (Moves joined left) can d in
            omega arith ∙ (rw (ne_eqb d left b, ne_eqb d joined a) at e ∙ omega arith);
        same = omega arith ∙ (deed_total ds long (Moves joined left) can ∙ omega arith);
      }

pub change_moves_one_head : ChangeMovesOneHead
change_moves_one_head ds b s o joined left long e q =
    let can = subst (CanBeDone ds) q (applied_can_be_done ds b s o e) in
    subst (λ (l : List ℕ). OneHeadMoves ds l joined left)
    (ap (decks_after ds) (sym q) ∙ ap (decks_mustered ds) (sym e)) (one_head_moves ds joined left long can)

pub change_to_itself : ChangeToItself
change_to_itself ds b s o d e q =
    let can : CanBeDone ds (Moves d d) = subst (CanBeDone ds) q (applied_can_be_done ds b s o e) in
    (can.2, ap (decks_mustered ds) e ∙ (ap (decks_after ds) q ∙ sym (stays ds d d refl)))

pub refused_changes_nothing : RefusedChangesNothing
refused_changes_nothing ds b s k p e = (ap (decks_mustered ds) e, ap (book_mustered b) e)
