-- Of an accepted payload all that was asked for is kept: its fields are those before the first fault, and rows stored
-- one after the other are all stored.
use Prim.Native.Nat.{ℕ, zero, suc, ◌+◌, ◌*◌, ◌-◌, ◌/◌, ◌≤◌, zero-le}
use mathlib.Core.Path.{◌≡◌, refl, ap, sym, ◌∙◌}
use mathlib.Core.Bool.{Bool, true, false}
use mathlib.Core.List.{List, [], ◌∷◌, ◌++◌, append_assoc, map}
use native.Mathlib.Omega.{arith}
use native.Mathlib.Nat.{add-zero, zero-add, le-div_iff_mul-le}
use lib.ListN.{length, take, drop, length-append, length-map, take-append-drop}
use lib.Seq.{length-take-le, take_at, drop-drop, drop-append-add, sets, sets-eq}
use lib.Dec.{leb, lit<}
use Rattle.sim0mq.specs.Answer.{fine, ◌>>=◌, ◌>>◌, guard}
use Rattle.sim0mq.specs.Field.{Field, field, after}
use Rattle.sim0mq.specs.Payload.{payload_from, payload, moved}
use Rattle.sim0mq.specs.Table.{row, row_size, rows, stored}
use Rattle.sim0mq.specs.Message.{limit}
use Rattle.sim0mq.proofs.Answers.{bind_fine, guarded, fine_eq}
use borrow.Author.Tests.{leb-true}
use Rattle.reading_parts.specs.Kept.{before_fault, kept_one, kept_all, rows_in}
use Rattle.reading_payload.specs.Kept.{kept_of}
use Rattle.reading_parts.proofs.KeptCases.{rows_within, front_more, kept_here, kept_long}

-- the table with these numbers from place i on
unfoldable stored_from : List ℕ → ℕ → List ℕ → List ℕ
stored_from table i numbers = take i table ++ (numbers ++ drop (i + length numbers) table)

stored_start : (table numbers : List ℕ) → stored table numbers ≡ stored_from table 0 numbers
unfolding stored stored_from
stored_start table numbers = ap (λ (k : ℕ). numbers ++ drop k table) (sym (zero-add (length numbers)))

stored_done : (table : List ℕ) (i : ℕ) → stored_from table i [] ≡ table
unfolding stored_from
stored_done table i = ap (λ (k : ℕ). take i table ++ drop k table) (add-zero i) ∙ take-append-drop i table

stored_turn : (table next some rest : List ℕ) (i : ℕ) → i + length some ≤ length table → next ≡ sets table i some
    → stored_from table i (some ++ rest) ≡ stored_from next (i + length some) rest
unfolding stored_from
stored_turn table next some rest i h e =
    let before_fault = take i table ++ some in
    let tail = drop (i + length some) table in
    let split : next ≡ before_fault ++ tail = e ∙ sets-eq some table i h in
    let long : length before_fault ≡ i + length some
    = length-append (take i table) some ∙ ap (λ (k : ℕ). k + length some) (length-take-le i table (omega arith)) in
    let before : take (i + length some) next ≡ before_fault = rw split (take_at before_fault tail (i + length some) long) in
    let place : i + length some + length rest ≡ length before_fault + length rest = ap (λ (k : ℕ). k + length rest) (sym long) in
    let past : drop (i + length some + length rest) next ≡ drop (i + length some + length rest) table
    =
    ap (λ (k : ℕ). drop k next) place
    ∙ rw split (drop-append-add before_fault tail (length rest))
    ∙ drop-drop (length rest) (i + length some) table in
    let all : i + length (some ++ rest) ≡ i + length some + length rest = omega (arith, length-append some rest) in
    rw (before, past, all) (rw (append_assoc some rest, append_assoc (take i table) some) refl)

-- as many fields as declared, and they are those before the first fault
module _ (s : List ℕ) where
  pub many_from : (n at : ℕ) (fs : List Field) → payload_from s n at ≡ fine fs → length fs ≡ n
  unfolding payload_from
  many_from zero at fs q = let g = bind_fine (guard (leb (length s) at) 13 at) _ (as-bind (leb (length s) at) q) in ap length (sym (fine_eq g.2))
    where
      as-bind : (t : Bool) → (guard t 13 at >> fine []) ≡ fine fs → (guard t 13 at >>= (λ pass. fine [])) ≡ fine fs
      as-bind true e = e
      as-bind false e = e
  many_from (suc n) at fs q =
      let a = bind_fine (field s at) _ q in
      let b = bind_fine (payload_from s n (after a.0)) _ a.2 in
      ap length (sym (fine_eq b.2)) ∙ ap suc (many_from n (after a.0) b.0 b.1)

  front_from : (n at : ℕ) (fs : List Field) → payload_from s n at ≡ fine fs → before_fault s n at ≡ fs
  unfolding payload_from before_fault
  front_from zero at fs q = none fs (many_from zero at fs q)
    where
      none : (fs : List Field) → length fs ≡ 0 → [] ≡ fs
      none [] e = refl
      none (f ∷ fs) e = absurd (omega arith)
  front_from (suc n) at fs q =
      let a = bind_fine (field s at) _ q in
      let b = bind_fine (payload_from s n (after a.0)) _ a.2 in
      front_more s at (suc n) n a.0 (omega arith) a.1
      ∙ ap (λ (l : List Field). a.0 ∷ l) (front_from n (after a.0) b.0 b.1)
      ∙ fine_eq b.2

  pub payload_many : (n : ℕ) (fs : List Field) → payload s n ≡ fine fs → length fs ≡ n
  unfolding payload
  payload_many n fs q = many_from n 0 fs q

  pub front_accepted : (n : ℕ) (fs : List Field) → payload s n ≡ fine fs → before_fault s n 0 ≡ fs
  unfolding payload
  front_accepted n fs q = front_from n 0 fs q

-- an accepted payload has a first field, and after it an accepted rest; or no field, and no byte left
module _ (s : List ℕ) where
  pub taken_more : (n at : ℕ) (f : Field) (fs : List Field) → payload_from s n at ≡ fine (f ∷ fs)
      → (m : ℕ) × (field s at ≡ fine f) × (payload_from s m (after f) ≡ fine fs)
  unfolding payload_from
  taken_more zero at f fs q = absurd (none (many_from s zero at (f ∷ fs) q))
    where
      none : suc (length fs) ≡ 0 → ⊥
      none e = omega arith
  taken_more (suc n) at f fs q =
      let a = bind_fine (field s at) _ q in
      let b = bind_fine (payload_from s n (after a.0)) _ a.2 in
      let same : a.0 ∷ b.0 ≡ f ∷ fs = fine_eq b.2 in
      let here : a.0 ≡ f = cc in
      let rest : b.0 ≡ fs = cc in
      (n, a.1 ∙ ap fine here, ap (λ (x : Field). payload_from s n (after x)) (sym here) ∙ b.1 ∙ ap fine rest)

  pub taken_none : (n at : ℕ) → payload_from s n at ≡ fine [] → length s ≤ at
  unfolding payload_from
  taken_none zero at q = leb-true (length s) at (guarded (leb (length s) at) 13 at _ q).0
  taken_none (suc n) at q = absurd (none (many_from s (suc n) at [] q))
    where
      none : 0 ≡ suc n → ⊥
      none e = omega arith

-- fields from field i on, each of which has a row
kept_all_lem : (many i : ℕ) (fs : List Field) (kept : List ℕ) → i + length fs ≤ many → row_size * many ≤ length kept
    → kept_all many 0 i fs kept ≡ stored_from kept (row_size * i) (rows fs)
unfolding kept_all rows row row_size
kept_all_lem many i [] kept h room = sym (stored_done kept (row_size * i))
kept_all_lem many i (f ∷ fs) kept h room =
    let next = kept_one many 0 i f kept in
    let at : row_size * (i - 0) ≡ row_size * i = omega arith in
    let here : next ≡ sets kept (row_size * i) (row f) = sym (kept_here many 0 i f kept zero-le (omega arith)) ∙ ap (λ (p : ℕ). sets kept p (row f)) at in
    let long : length next ≡ length kept = kept_long many 0 i f kept in
    let turn : stored_from kept (row_size * i) (row f ++ rows fs) ≡ stored_from next (row_size * i + row_size) (rows fs)
    = stored_turn kept next (row f) (rows fs) (row_size * i) (omega arith) here in
    let place : row_size * (i + 1) ≡ row_size * i + row_size = omega arith in
    kept_all_lem many (i + 1) fs next (omega arith) (omega arith) ∙ ap (λ (k : ℕ). stored_from next k (rows fs)) place ∙ sym turn

-- the rows of any fields, where there is room for all of them
pub kept_whole : (many : ℕ) (fs : List Field) (kept : List ℕ) → length fs ≤ many → row_size * many ≤ length kept → kept_all many 0 0 fs kept ≡ stored kept (rows fs)
unfolding row_size
kept_whole many fs kept h room = kept_all_lem many 0 fs kept (omega arith) room ∙ sym (stored_start kept (rows fs))

-- the rows of accepted fields from a place of a part on, where there is room for all of them
pub kept_from : (s : List ℕ) (next n at bytes : ℕ) (fs : List Field) (kept : List ℕ) → payload_from s n at ≡ fine fs → bytes ≤ limit
    → row_size * n ≤ length kept
    → kept_all (rows_in bytes (length kept)) 0 0 (map (moved next) (before_fault s n at)) kept ≡ stored kept (rows (map (moved next) fs))
unfolding row_size
kept_from s next n at bytes fs kept q short room =
    let many : n ≤ length kept / row_size = (le-div_iff_mul-le (lit< tt)).1 (omega arith) in
    let rowed = rows_within bytes (length kept) short in
    let count : length (map (moved next) fs) ≡ n = length-map fs (moved next) ∙ many_from s n at fs q in
    let within : row_size * rows_in bytes (length kept) ≤ length kept = omega arith in
    ap (λ (l : List Field). kept_all (rows_in bytes (length kept)) 0 0 (map (moved next) l) kept) (front_from s n at fs q)
    ∙ kept_whole (rows_in bytes (length kept)) (map (moved next) fs) kept (omega arith) within

-- and those of an accepted payload
pub kept_rows : (s : List ℕ) (next n : ℕ) (fs : List Field) (kept : List ℕ) → payload (drop next s) n ≡ fine fs → length s ≤ limit
    → row_size * n ≤ length kept → kept_of s next n 0 kept ≡ stored kept (rows (map (moved next) fs))
unfolding kept_of payload
kept_rows s next n fs kept q short room = kept_from (drop next s) next n 0 (length s) fs kept q short room
