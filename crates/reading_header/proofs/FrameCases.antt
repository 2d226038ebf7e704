-- How the header judges answer, case by case, in the words of the code's tests.
use Prim.Native.Nat.{ℕ, ◌+◌, ◌*◌, ◌≤◌, ◌<◌}
use mathlib.Core.Path.{◌≡◌, refl, ap, sym, ◌∙◌}
use mathlib.Core.Bool.{Bool, true, false, cond}
use mathlib.Core.List.{List, [], ◌∷◌, ◌++◌, map, map-append}
use native.Mathlib.Omega.{arith}
use native.Mathlib.Numerals.{add-one}
use lib.ListN.{length, take, set, length-set}
use lib.Seq.{take_all, take-suc-set}
use lib.Dec.{leb, eqb}
use borrow.Author.Tests.{le-leb, lt-leb, eq-eqb, ne_eqb, lt-ltb, le-ltb, eqb-true, eqb-false}
use Rattle.std.specs.List.{list_any}
use Rattle.sim0mq.specs.Answer.{Answer, fine, refused, ◌>>=◌, byte, big, not_negative}
use Rattle.sim0mq.specs.Codes.{code_known, counts_of, width_of, boolean}
use Rattle.sim0mq.specs.Mark.{marks}
use Rattle.sim0mq.specs.Field.{counts, Head, head, head_rest, booleans, booleans_of, Field, after, outline, field}
use Rattle.sim0mq.specs.Header as H
use Rattle.sim0mq.specs.Header.{id_codes, number_codes, status_codes, count_codes, among, status_taken, most_fields, fields_taken, magic, frame, status, declared, frame_of, header_of, header}
use Rattle.sim0mq.proofs.Answers.{needed, needed_bind, guarded, bind_fine, fine_eq}
use Rattle.sim0mq.proofs.Refusals.{field_within}
use Rattle.reading_header.specs.Frames.{NoBoolean, nth_frame, Declares, declares, declared_number, header_ending, header_from, header_rest, framed, shown}
use Rattle.reading_header.specs.declared.Frame.{Frame}

-- one of these numbers, as a search of the row tells it
pub among_any : (k : ℕ) (row : List ℕ) → list_any (λ (y : ℕ). eqb y k) row ≡ among k row
unfolding among
among_any k [] = refl
among_any k (x ∷ xs) = simp (turned, among_any k xs)
  where
    turned : eqb x k ≡ eqb k x
    turned = go (eqb k x) refl
      where
        go : (b : Bool) → eqb k x ≡ b → eqb x k ≡ eqb k x
        go true e = eq-eqb x k (sym (eqb-true k x e)) ∙ sym e
        go false e = ne_eqb x k (λ q. eqb-false k x e (sym q)) ∙ sym e

-- a field whose code is no Boolean's is judged by its outline
outline_code : (s : List ℕ) (at : ℕ) (f : Field) → outline s at ≡ fine f → f.code ≡ byte s at
unfolding outline head head_rest
outline_code s at f q =
    let o = bind_fine (head s at) _ q in
    let a = needed s at 1 _ o.1 in
    let b = guarded (code_known (byte s at)) _ _ _ a.1 in
    let d = bind_fine (counts s (counts_of (byte s at)) (at + 1)) _ b.1 in
    let m = bind_fine (marks s o.0.marked o.0.next) _ o.2 in
    let v = needed_bind s m.0 (o.0.values * width_of o.0.code) _ m.2 in
    ap (λ (x : Field). x.code) (sym (fine_eq v.1)) ∙ ap (λ (x : Head). x.code) (sym (fine_eq d.2))

field_unjudged : (s : List ℕ) (at : ℕ) → boolean (byte s at) ≡ false → field s at ≡ outline s at
unfolding field booleans_of booleans
field_unjudged s at b = go (outline s at) refl
  where
    go : (a : Answer Field) → outline s at ≡ a → field s at ≡ a
    go (fine f) e = simp (e, outline_code s at f e, b)
    go (refused k p) e = simp e

-- a frame after 0
module _ (s codes : List ℕ) (at : ℕ) where
  pub frame_short : length s ≤ at → frame s codes at ≡ refused 1 (length s)
  unfolding frame
  frame_short h = simp (lt-leb (at + 1) (length s) (omega arith))

  pub frame_wrong : at < length s → among (byte s at) codes ≡ false → frame s codes at ≡ refused 4 at
  unfolding frame
  frame_wrong h e = simp (le-leb (at + 1) (length s) (omega arith), e)

  pub frame_outline : at < length s → among (byte s at) codes ≡ true → NoBoolean codes → outline s at ≡ frame s codes at
  unfolding frame
  frame_outline h e n = sym (simp (le-leb (at + 1) (length s) (omega arith), e) (field_unjudged s at (n (byte s at) e)))

-- frame 6
module _ (s : List ℕ) (at : ℕ) where
  pub status_stop : (k p : ℕ) → frame s status_codes at ≡ refused k p → status s at ≡ refused k p
  unfolding status
  status_stop k p e = simp e

  module _ (f : Field) (e : frame s status_codes at ≡ fine f) where
    pub status-low : byte s f.first < 1 → status s at ≡ refused 6 f.first
    unfolding status status_taken
    status-low h = simp (e, lt-leb 1 (byte s f.first) h)

    pub status-high : 1 ≤ byte s f.first → 3 < byte s f.first → status s at ≡ refused 6 f.first
    unfolding status status_taken
    status-high h k = simp (e, le-leb 1 (byte s f.first) h, lt-leb (byte s f.first) 3 k)

    pub status-fine : 1 ≤ byte s f.first → byte s f.first ≤ 3 → status s at ≡ fine f
    unfolding status status_taken
    status-fine h k = simp (e, le-leb 1 (byte s f.first) h, le-leb (byte s f.first) 3 k)

-- frame 7
module _ (s : List ℕ) (at : ℕ) where
  pub declared_stop : (k p : ℕ) → frame s count_codes at ≡ refused k p → declared_number s at ≡ refused k p
  unfolding declared_number declared
  declared_stop k p e = simp e

  module _ (f : Field) (e : frame s count_codes at ≡ fine f) where
    pub declared-negative : 128 ≤ byte s f.first → declared_number s at ≡ refused 5 f.first
    unfolding declared_number declared not_negative
    declared-negative h = simp (e, le-ltb (byte s f.first) 128 h)

    pub declared-over : (n : ℕ) → byte s f.first < 128 → n ≡ big s f.first f.size → most_fields < n → declared_number s at ≡ refused 7 f.first
    unfolding declared_number declared not_negative fields_taken
    declared-over n h q k = simp (e, lt-ltb (byte s f.first) 128 h, ← q, lt-leb n most_fields k)

    pub declared-fine : (n : ℕ) → byte s f.first < 128 → n ≡ big s f.first f.size → n ≤ most_fields
        → declared_number s at ≡ fine (record { field = f; number = n })
    unfolding declared_number declared not_negative fields_taken
    declared-fine n h q k = simp (e, lt-ltb (byte s f.first) 128 h, ← q, le-leb n most_fields k)

-- frame k
module _ (s : List ℕ) (k at : ℕ) where
  pub nth_id : k ≤ 4 → frame s id_codes at ≡ nth_frame s k at
  unfolding nth_frame
  nth_id h = simp (le-leb k 4 h)

  pub nth_number : (k ≤ 4 → ⊥) → k ≡ 5 → frame s number_codes at ≡ nth_frame s k at
  unfolding nth_frame
  nth_number h e = simp e

  pub nth_status : 4 < k → (k ≡ 5 → ⊥) → status s at ≡ nth_frame s k at
  unfolding nth_frame
  nth_status h e = simp (lt-leb k 4 h, ne_eqb k 5 e)

-- the frames from frame k on
module _ (s : List ℕ) (k : ℕ) (done : List H.Frame) (at : ℕ) where
  pub frames_stop : (n m r p : ℕ) → n ≡ m + 1 → nth_frame s k at ≡ refused r p → header_from s n k done at ≡ refused r p
  unfolding header_from
  frames_stop n m r p e q = simp (e, add-one m, q)

  pub frames_more : (n m : ℕ) (f : Field) → n ≡ m + 1 → nth_frame s k at ≡ fine f
      → header_from s n k done at ≡ header_from s m (k + 1) (done ++ (frame_of f ∷ [])) (after f)
  unfolding header_from
  frames_more n m f e q = simp (e, add-one m, q)

  pub frames_last_stop : (n r p : ℕ) → n ≡ 0 → declared_number s at ≡ refused r p → header_from s n k done at ≡ refused r p
  unfolding header_from
  frames_last_stop n r p e q = simp (e, q)

  pub frames_last : (n v : ℕ) (f : Field) → n ≡ 0 → declared_number s at ≡ fine (record { field = f; number = v })
      → header_from s n k done at ≡ fine (record { frames = done ++ (frame_of f ∷ []); fields = v; next = after f })
  unfolding header_from
  frames_last n v f e q = simp (e, q)

-- two judges that go on alike answer alike
bind_same : {A B : Type 0} (a : Answer A) (f g : A → Answer B) → ((x : A) → f x ≡ g x) → (a >>= f) ≡ (a >>= g)
bind_same (fine x) f g e = e x
bind_same (refused k p) f g e = refl

-- the header is frame 0, and the frames after it
module _ (s : List ℕ) where
  pub header_stop : (k p : ℕ) → magic s ≡ refused k p → header s ≡ refused k p
  unfolding header
  header_stop k p e = simp e

  pub header_rest_lem : (at : ℕ) → magic s ≡ fine at → header_rest s at ≡ header s
  unfolding header header_from nth_frame declared_number
  header_rest_lem at e =
      simp e
      (bind_same (frame s id_codes at) _ _
      (λ run.
      bind_same (frame s id_codes (after run)) _ _
      (λ sender.
      bind_same (frame s id_codes (after sender)) _ _
      (λ receiver.
      bind_same (frame s id_codes (after receiver)) _ _
      (λ kind.
      bind_same (frame s number_codes (after kind)) _ _
      (λ number. bind_same (status s (after number)) _ _ (λ stat. last run sender receiver kind number stat (declared s (after stat)))))))))
    where
      last : (run sender receiver kind number stat : Field) (a : Answer Field)
          → ((a >>= (λ f. fine (declares s f)))
          >>= (λ d.
          fine
          (header_ending
          (record { place = 0; code = 9 } ∷ frame_of run ∷ frame_of sender ∷ frame_of receiver ∷ frame_of kind ∷ frame_of number ∷ frame_of stat ∷ []) d)))
          ≡ (a >>= (λ f. fine (header_of s run sender receiver kind number stat f)))
      last run sender receiver kind number stat (fine f) = refl
      last run sender receiver kind number stat (refused k p) = refl

-- how far each frame goes
module _ (s : List ℕ) where
  frame_goes : (codes : List ℕ) (at : ℕ) (f : Field) → frame s codes at ≡ fine f → after f ≤ length s
  unfolding frame
  frame_goes codes at f q =
      let a = needed s at 1 _ q in let b = guarded (among (byte s at) codes) _ _ _ a.1 in (field_within s at f b.1).1

  status_goes : (at : ℕ) (f : Field) → status s at ≡ fine f → after f ≤ length s
  unfolding status
  status_goes at f q =
      let a = bind_fine (frame s status_codes at) _ q in
      let b = guarded (status_taken (byte s a.0.first)) _ _ _ a.2 in
      frame_goes status_codes at f (a.1 ∙ b.1)

  pub nth_goes : (k at : ℕ) (f : Field) → nth_frame s k at ≡ fine f → after f ≤ length s
  unfolding nth_frame
  nth_goes k at f q = go (leb k 4) (eqb k 5) q
    where
      go : (a b : Bool) → cond a (frame s id_codes at) (cond b (frame s number_codes at) (status s at)) ≡ fine f → after f ≤ length s
      go true b q = frame_goes id_codes at f q
      go false true q = frame_goes number_codes at f q
      go false false q = status_goes at f q

  pub declared_goes : (at : ℕ) (d : Declares) → declared_number s at ≡ fine d → after d.field ≤ length s
  unfolding declared_number declared
  declared_goes at d q =
      let a = bind_fine (declared s at) _ q in
      let b = bind_fine (frame s count_codes at) _ a.1 in
      let e = guarded (not_negative (byte s b.0.first)) _ _ _ b.2 in
      let g = guarded (fields_taken (big s b.0.first b.0.size)) _ _ _ e.1 in
      let same : a.0 ≡ d.field = ap (λ (x : Declares). x.field) (fine_eq a.2) in
      frame_goes count_codes at d.field (b.1 ∙ g.1 ∙ ap fine same)

-- the frames that are stored so far, as the definition has them
frames_back_lem : (l : List Frame) → map framed (map shown l) ≡ l
frames_back_lem [] = refl
frames_back_lem (x ∷ xs) = ap (λ (l : List Frame). x ∷ l) (frames_back_lem xs)

pub frames_stored : (fs : List Frame) (k : ℕ) (f : Frame) → k < length fs
    → map shown (take k fs) ++ (shown f ∷ []) ≡ map shown (take (k + 1) (set fs k f))
frames_stored fs k f h = sym (rw (add-one k, take-suc-set fs k f h) (map-append shown (take k fs) (f ∷ [])))

pub frames_all : (fs : List Frame) (f : Frame) → length fs ≡ 8 → map framed (map shown (take 7 fs) ++ (shown f ∷ [])) ≡ set fs 7 f
frames_all fs f e =
    let long : length (set fs 7 f) ≤ 8 = rw (length-set fs 7 f) (omega arith) in
    ap (map framed) (frames_stored fs 7 f (omega arith)) ∙ frames_back_lem (take 8 (set fs 7 f)) ∙ take_all 8 (set fs 7 f) long
