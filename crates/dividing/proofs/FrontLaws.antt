-- The message at the front is found whatever follows it, and what is found is a message.
use Prim.Native.Nat.{ℕ, ◌+◌, ◌-◌, ◌≤◌, ◌<◌}
use mathlib.Core.Path.{◌≡◌, refl, ap, sym, ◌∙◌, subst}
use mathlib.Core.Bool.{Bool, true, false, cond}
use mathlib.Core.List.{List, [], ◌∷◌, ◌++◌, append-nil}
use native.Mathlib.Omega.{arith}
use lib.ListN.{length, drop, take, length-append, length-take, length-drop, take-append-drop}
use lib.Seq.{take_at, take-take, take-append-add, length-take-le}
use lib.Dec.{eqb}
use borrow.Author.Tests.{eqb-true}
use Rattle.sim0mq.specs.Answer.{Answer, fine, refused}
use Rattle.sim0mq.specs.Message.{no_table, enough, Reading, message}
use Rattle.sim0mq.specs.Allowed.{MessageParts, message_bytes, IsMessage}
use Rattle.sim0mq.proofs.Answers.{not_fine, fine_eq}
use Rattle.sim0mq.proofs.MessageLaws.{cut_of, message_complete, FoundMessage, message_sound}
use Rattle.dividing.specs.Front.{Taken, front_of, front_length}
use Rattle.dividing.proofs.RestLaws.{message_then, message_rest_lem}

-- accepted messages are the messages' bytes within the limit
pub parts_taken : (most : ℕ) (p : MessageParts) → IsMessage p → length (message_bytes p) ≤ most → Taken most (message_bytes p)
unfolding enough
parts_taken most p i short = (cut_of p, message_complete most no_table p i short refl)

pub taken_parts : (most : ℕ) (s : List ℕ) (t : Taken most s) → FoundMessage most s t.0
taken_parts most s t = message_sound most no_table s t.0 t.1

pub taken_short : (most : ℕ) (s : List ℕ) → Taken most s → length s ≤ most
taken_short most s t = (taken_parts most s t).short

pub taken_long : (most : ℕ) (s : List ℕ) → Taken most s → 0 < length s
taken_long most s t = let f = taken_parts most s t in omega (arith, ap length f.whole)

-- a limit that is wider takes it too
pub taken_wider : (least most : ℕ) (s : List ℕ) → least ≤ most → Taken least s → Taken most s
taken_wider least most s h t =
    let f = taken_parts least s t in
    let short = f.short in
    let e = ap length f.whole in
    subst (λ (l : List ℕ). Taken most l) f.whole (parts_taken most f.parts f.is (omega arith))

-- what reading finds is as long as what was read
taken_bytes : (most : ℕ) (s : List ℕ) (m : Reading) → message most no_table s ≡ fine m → m.bytes ≡ length s
taken_bytes most s m q = let f = message_sound most no_table s m q in ap (λ (r : Reading). r.bytes) f.says ∙ ap length f.whole

-- refused by 13 at p: the first p bytes are a message, and something follows them
pub thirteen_there : (most : ℕ) (s : List ℕ) (p : ℕ) → message most no_table s ≡ refused 13 p
    → (length s ≤ most) × (p < length s) × Taken most (take p s)
thirteen_there most s p q =
    let f = message_rest_lem most s p q in
    let short = f.short in
    let left = f.left in
    let fits : length (message_bytes f.parts) ≤ most = omega (arith, ap length f.whole, length-take p s) in
    (short, left, subst (λ (l : List ℕ). Taken most l) f.whole (parts_taken most f.parts f.is fits))

pub thirteen_found : (most : ℕ) (s : List ℕ) (p : ℕ) → (length s ≤ most) × (p < length s) × Taken most (take p s)
    → message most no_table s ≡ refused 13 p
thirteen_found most s p t =
    let short = t.0 in
    let left = t.1 in
    let f = taken_parts most (take p s) t.2 in
    let rest = drop p s in
    let more : 0 < length rest = omega (arith, length-drop p s) in
    let whole : message_bytes f.parts ++ rest ≡ s = ap (λ (l : List ℕ). l ++ rest) f.whole ∙ take-append-drop p s in
    let long : length (message_bytes f.parts) ≡ p = ap length f.whole ∙ length-take-le p s (omega arith) in
    let fits : length (message_bytes f.parts ++ rest) ≤ most = omega (arith, ap length whole) in
    ap (message most no_table) (sym whole) ∙ message_then most f.parts rest f.is more fits ∙ ap (refused 13) long

-- a message and what follows it, within the limit
front_before : (most : ℕ) (p : MessageParts) (rest : List ℕ) → IsMessage p → length (message_bytes p ++ rest) ≤ most
    → front_of (message most no_table (message_bytes p ++ rest)) ≡ fine (length (message_bytes p))
unfolding enough
front_before most p [] i short =
    rw (append-nil, message_complete most no_table p i (omega (arith, length-append (message_bytes p) [])) refl)
front_before most p (x ∷ rest) i short = rw (message_then most p (x ∷ rest) i (omega arith) short)

pub front_after : (most : ℕ) (m rest : List ℕ) → Taken most m → front_length most (m ++ rest) ≡ fine (length m)
unfolding front_length
front_after most m rest t =
    let f = taken_parts most m t in
    let short = f.short in
    let d = most - length m in
    let k : most ≡ length m + d = omega arith in
    let cut : take most (m ++ rest) ≡ m ++ take d rest = ap (λ (n : ℕ). take n (m ++ rest)) k ∙ take-append-add m rest d in
    let fits : length (m ++ take d rest) ≤ most = omega (arith, length-append m (take d rest), length-take d rest) in
    ap (λ (l : List ℕ). front_of (message most no_table l)) cut
    ∙ subst
    (λ (l : List ℕ). length (l ++ take d rest) ≤ most → front_of (message most no_table (l ++ take d rest)) ≡ fine (length l))
    f.whole (front_before most f.parts (take d rest) f.is) fits

-- as many bytes as a front has are that front
take_front : (n k : ℕ) (s : List ℕ) → length (take k s) ≡ n → take n s ≡ take k s
take_front n k s e = ap (take n) (sym (take-append-drop k s)) ∙ take_at (take k s) (drop k s) n e

pub front_there : (most : ℕ) (s : List ℕ) (n : ℕ) → front_length most s ≡ fine n → (n ≤ length s) × Taken most (take n s)
unfolding front_length
front_there most s n q = go (message most no_table (take most s)) refl q
  where
    found : (p : ℕ) → p ≡ n → message most no_table (take most s) ≡ refused 13 p → (n ≤ length s) × Taken most (take n s)
    found p e q =
        let f = thirteen_there most (take most s) p q in
        let left = f.1 in
        let whole : take p (take most s) ≡ take n s
        = take-take p most s (omega (arith, length-take most s)) ∙ ap (λ (i : ℕ). take i s) e in
        (omega (arith, length-take most s), subst (λ (l : List ℕ). Taken most l) whole f.2)

    tested : (k p : ℕ) (t : Bool) → eqb k 13 ≡ t → message most no_table (take most s) ≡ refused k p → cond t (fine p) (refused k p) ≡ fine n
        → (n ≤ length s) × Taken most (take n s)
    tested k p true is e r =
        found p (fine_eq r) (e ∙ ap (λ (j : ℕ). refused j p) (eqb-true k 13 is))
    tested k p false is e r = absurd (not_fine r)

    go : (a : Answer Reading) → message most no_table (take most s) ≡ a → front_of a ≡ fine n → (n ≤ length s) × Taken most (take n s)
    go (fine m) e r =
        let long : length (take most s) ≡ n = sym (taken_bytes most (take most s) m e) ∙ fine_eq r in
        (omega (arith, length-take most s), subst (λ (l : List ℕ). Taken most l) (sym (take_front n most s long)) (m, e))
    go (refused k p) e r = tested k p (eqb k 13) refl e r

pub front_fault : (most : ℕ) (s : List ℕ) (k p : ℕ) → front_length most s ≡ refused k p → message most no_table (take most s) ≡ refused k p
unfolding front_length
front_fault most s k p q = go (message most no_table (take most s)) refl q
  where
    tested : (j i : ℕ) (t : Bool) → ◌≡◌ {A = Answer ℕ} (cond t (fine i) (refused j i)) (refused k p)
        → ◌≡◌ {A = Answer Reading} (refused j i) (refused k p)
    tested j i true r = absurd (not_fine (sym r))
    tested j i false r = cc

    go : (a : Answer Reading) → message most no_table (take most s) ≡ a → front_of a ≡ refused k p → message most no_table (take most s) ≡ refused k p
    go (fine m) e r = absurd (not_fine (sym r))
    go (refused j i) e r = e ∙ tested j i (eqb j 13) r

pub found_taken : (most : ℕ) (s : List ℕ) (n : ℕ) → (n ≤ length s) × Taken most (take n s) → front_length most s ≡ fine n
found_taken most s n t =
    ap (front_length most) (sym (take-append-drop n s)) ∙ front_after most (take n s) (drop n s) t.1 ∙ ap fine (length-take-le n s t.0)
