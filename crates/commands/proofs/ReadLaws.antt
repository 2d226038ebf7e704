-- What reading leaves for the judge: the frames it looks at, and a table that holds the fields. A table that is too
-- short for the rows is refused by 14, and with any other the judge answers as with none.
use Prim.Native.Nat.{ℕ, suc, ◌+◌, ◌*◌, ◌≤◌}
use mathlib.Core.Path.{◌≡◌, refl, ap, sym, ◌∙◌, subst}
use mathlib.Core.Bool.{Bool, true, false}
use mathlib.Core.List.{List, map, flat_map, ◌++◌, [], ◌∷◌}
use mathlib.Core.Logic.{◌⊎◌, inl, inr}
use native.Mathlib.Omega.{arith}
use lib.ListN.{length, get_or, drop, length-append, get_or-map}
use lib.Dec.{leb}
use borrow.Author.Tests.{leb-true, le-leb}
use Rattle.sim0mq.specs.Answer as S
use Rattle.sim0mq.specs.Answer.{fine, refused}
use Rattle.sim0mq.specs.Field.{Field}
use Rattle.sim0mq.specs.Header.{Header, most_fields, fields_taken, header}
use Rattle.sim0mq.specs.Table.{row, row_size, rows, stored}
use Rattle.sim0mq.specs.Message as M
use Rattle.sim0mq.specs.Message.{limit, enough, message, reading, table_after}
use Rattle.sim0mq.specs.Allowed.{field_bytes, header_bytes, header_frames}
use Rattle.sim0mq.proofs.Answers.{not_fine}
use Rattle.sim0mq.proofs.HeaderLaws.{header_sound}
use Rattle.sim0mq.proofs.PayloadLaws.{fields_many}
use Rattle.sim0mq.proofs.MessageLaws.{message_sound}
use Rattle.reading_header.specs.declared.Frame.{Frame}
use Rattle.reading_header.specs.Frames.{framed}
use Rattle.reading.specs.declared.Found.{Found}
use Rattle.reading.specs.declared.Answer.{Answer}
use Rattle.std.specs.Prelude.{Ok, Err}
use Rattle.sim0mq.specs.declared.Refusal.{Refusal}
use Rattle.sim0mq.specs.Views.{number_of}
use Rattle.reading.specs.Answers.{Answered, answer_as, answered, found_in}
use Rattle.reading.proofs.SaidLaws.{found_at, fault_at}
use Rattle.commands_page.specs.Judging.{no_frame, looks, looks_at, Looks, command_of, commanded}
use Rattle.commands_page.proofs.PartLaws.{cut_within}
use Rattle.commands.specs.Tables.{Held, commanded_by}
use Rattle.commands.proofs.EachLaws.{held}

-- a refusal tells its number
number_eq : {k p j q : ℕ} → ◌≡◌ {A = S.Answer ℕ} (refused k p) (refused j q) → k ≡ j
number_eq e = cc

-- there are no more rows than fields
rows_fit : (n : ℕ) → n ≤ most_fields → row_size * n ≤ most_fields * row_size
unfolding row_size
rows_fit n h = omega arith

-- with a table that has no room for the rows 14 is given, and with any other what is given with none
module _ (r : ℕ) (s : List ℕ) where
  lent : (reading (M.table r) s ≡ refused 14 0) ⊎ (reading (M.table r) s ≡ reading M.no_table s)
  unfolding reading message enough
  lent = by_length (leb (length s) limit) refl
    where
      Either : Type 0
      Either = (reading (M.table r) s ≡ refused 14 0) ⊎ (reading (M.table r) s ≡ reading M.no_table s)

      by-room : leb (length s) limit ≡ true → (h : Header) → header s ≡ fine h → (b : Bool) → leb (row_size * h.fields) r ≡ b → Either
      by-room l h q true e = inr (simp (l, q, e))
      by-room l h q false e = inl (simp (l, q, e))

      by-header : leb (length s) limit ≡ true → (a : S.Answer Header) → header s ≡ a → Either
      by-header l (fine h) q = by-room l h q (leb (row_size * h.fields) r) refl
      by-header l (refused k p) q = inr (simp (l, q))

      by_length : (b : Bool) → leb (length s) limit ≡ b → Either
      by_length true l = by-header l (header s) refl
      by_length false l = inr (simp l)

  judged_alike : reading (M.table r) s ≡ reading M.no_table s → commanded_by r s ≡ commanded s
  unfolding commanded_by commanded
  judged_alike e = ap (λ (a : S.Answer M.Reading). S.◌>>=◌ a (λ m. command_of s (looks m.frames) m.fields)) e

  judged_short : reading (M.table r) s ≡ refused 14 0 → commanded_by r s ≡ refused 14 0
  unfolding commanded_by
  judged_short e = ap (λ (a : S.Answer M.Reading). S.◌>>=◌ a (λ m. command_of s (looks m.frames) m.fields)) e

  pub by_found : (k : ℕ) → fine k ≡ commanded_by r s → fine k ≡ commanded s
  by_found k q = go lent
    where
      go : (reading (M.table r) s ≡ refused 14 0) ⊎ (reading (M.table r) s ≡ reading M.no_table s) → fine k ≡ commanded s
      go (inl e) = absurd (not_fine (sym (q ∙ judged_short e)))
      go (inr e) = q ∙ judged_alike e

  pub by_refused : (k p : ℕ) → refused k p ≡ commanded_by r s → (k ≡ 14 → ⊥) → refused k p ≡ commanded s
  by_refused k p q d = go lent
    where
      go : (reading (M.table r) s ≡ refused 14 0) ⊎ (reading (M.table r) s ≡ reading M.no_table s) → refused k p ≡ commanded s
      go (inl e) = absurd (d (number_eq (q ∙ judged_short e)))
      go (inr e) = q ∙ judged_alike e

-- a table for the most fields has room for every message
pub by_all : (s : List ℕ) → commanded_by (most_fields * row_size) s ≡ commanded s
unfolding reading message enough fields_taken
by_all s = judged_alike (most_fields * row_size) s (by_length (leb (length s) limit) refl)
  where
    Same : Type 0
    Same = reading (M.table (most_fields * row_size)) s ≡ reading M.no_table s

    by-header : leb (length s) limit ≡ true → (a : S.Answer Header) → header s ≡ a → Same
    by-header l (fine h) q =
        let most = leb-true h.fields most_fields (header_sound s h q).is.taken in
        simp (l, q, le-leb (row_size * h.fields) (most_fields * row_size) (rows_fit h.fields most))
    by-header l (refused k p) q = simp (l, q)

    by_length : (b : Bool) → leb (length s) limit ≡ b → Same
    by_length true l = by-header l (header s) refl
    by_length false l = simp l

rows_long : (fs : List Field) → length (rows fs) ≡ row_size * length fs
unfolding rows row row_size
rows_long [] = refl
rows_long (f ∷ fs) = omega (arith, length-append (row f) (rows fs), rows_long fs)

-- what is known of a message that is accepted with what is lent
module _ (s : List ℕ) (m : M.Reading) (r : ℕ) (q : reading (M.table r) s ≡ fine m) where
  pub few : length m.fields ≤ most_fields
  unfolding reading fields_taken
  few =
      let f = message_sound limit (M.table r) s m q in
      let most = leb-true (length f.parts.fields) most_fields f.is.is_header.taken in
      let e : length m.fields ≡ length f.parts.fields
      = ap (λ (x : M.Reading). length x.fields) f.says ∙ fields_many _ f.parts.fields in
      omega arith

  pub frame_within : (i : ℕ) → (get_or m.frames (suc i) no_frame).place ≤ limit
  unfolding reading
  frame_within i =
      let f = message_sound limit (M.table r) s m q in
      let e = ap (λ (x : M.Reading). (get_or x.frames (suc i) no_frame).place) f.says in
      let l = cut_within 10 (header_frames f.parts.header) i in
      let short = f.short in
      let whole = ap (λ (x : List ℕ). length x) f.whole in
      omega (arith, length-append (header_bytes f.parts.header) (flat_map field_bytes f.parts.fields))

  pub judged_of : (fs : List Frame) → fs ≡ map framed m.frames → (kind c next at : ℕ) → (d : Frame) → d ≡ framed no_frame
      → kind ≡ (get_or fs 4 d).place → c ≡ (get_or fs 4 d).code → next ≡ (get_or fs 5 d).place → at ≡ (get_or fs 6 d).place + 1
      → looks_at kind c next at ≡ looks m.frames
  judged_of fs e kind c next at d z e1 e2 e3 e4 =
      let g : (k : ℕ) → get_or fs k d ≡ framed (get_or m.frames k no_frame)
      =
      λ k.
      ap (λ (l : List Frame). get_or l k d) e
      ∙ ap (λ (x : Frame). get_or (map framed m.frames) k x) z
      ∙ get_or-map framed m.frames k no_frame in
      λ i. record {
        kind = (e1 ∙ ap (λ (x : Frame). x.place) (g 4)) i;
        code = (e2 ∙ ap (λ (x : Frame). x.code) (g 4)) i;
        next = (e3 ∙ ap (λ (x : Frame). x.place) (g 5)) i;
        status = (e4 ∙ ap (λ (x : Frame). x.place + 1) (g 6)) i;
      }

  pub holds : (t u : List ℕ) (n : ℕ) → u ≡ table_after t (reading (M.table r) s) → n ≡ length m.fields → Held u n m.fields
  unfolding table_after
  holds t u n e l =
      subst (λ (x : List ℕ). Held x n m.fields) (sym (e ∙ ap (table_after t) q)) (held m.fields t n (sym l))

  pub commanded_is : commanded_by r s ≡ command_of s (looks m.frames) m.fields
  unfolding commanded_by
  commanded_is = simp q

-- where reading accepts: what the judge is given, and what it answers
abbrev none : Frame
none = record { place = 0; code = 0 }

module _
    (s t u : List ℕ) (a : Answer) (e : answer_as a ≡ answered (reading (M.table (length t)) s))
    (v : u ≡ table_after t (reading (M.table (length t)) s))
  where
    abbrev read : S.Answer M.Reading
    read = reading (M.table (length t)) s

    pub command-refused : (r : Refusal) → a.said ≡ Err r → refused (number_of r.reason) r.place ≡ commanded_by (length t) s
    unfolding commanded_by
    command-refused r g = let q : read ≡ refused (number_of r.reason) r.place = fault_at read a e r g in sym (simp q)

    module _ (f : Found) (g : a.said ≡ Ok f) where
      got : (m : M.Reading) × (read ≡ fine m) × (found_in m ≡ f)
      got = found_at read a e f g

      many : length got.0.fields ≡ f.fields
      many = ap (λ (x : Found). x.fields) got.2

      pub command-few : f.fields ≤ most_fields
      command-few = let l = few s got.0 (length t) got.1 in let n = many in omega arith

      pub command-room : row_size * f.fields ≤ length u
      unfolding table_after stored
      command-room =
          let m = got.0 in
          let w : length u ≡ length (rows m.fields ++ drop (length (rows m.fields)) t)
          = ap (λ (x : List ℕ). length x) (v ∙ ap (table_after t) got.1) in
          let long : length (rows m.fields) ≡ row_size * f.fields
          = rows_long m.fields ∙ ap (λ (n : ℕ). row_size * n) many in
          omega (arith, length-append (rows m.fields) (drop (length (rows m.fields)) t))

      frames-are : a.frames ≡ map framed got.0.frames
      frames-are = ap (λ (x : Answered). x.frames) (e ∙ ap answered got.1)

      pub command-frame : (i : ℕ) → (get_or a.frames (suc i) none).place ≤ limit
      command-frame i =
          let l = frame_within s got.0 (length t) got.1 i in
          let q
          =
          ap (λ (x : List Frame). (get_or x (suc i) none).place) frames-are
          ∙ ap (λ (x : Frame). x.place) (get_or-map framed got.0.frames (suc i) no_frame) in
          omega arith

      pub command-judged : (x : S.Answer ℕ)
          → ((fs : List Field) → Held u f.fields fs
          → x
          ≡ command_of s
          (looks_at (get_or a.frames 4 none).place (get_or a.frames 4 none).code (get_or a.frames 5 none).place
          ((get_or a.frames 6 none).place + 1))
          fs)
          → x ≡ commanded_by (length t) s
      command-judged x h =
          h got.0.fields (holds s got.0 (length t) got.1 t u f.fields v (sym many))
          ∙ ap (λ (l : Looks). command_of s l got.0.fields)
          (judged_of s got.0 (length t) got.1 a.frames frames-are _ _ _ _ none refl refl refl refl refl)
          ∙ sym (commanded_is s got.0 (length t) got.1)
