-- What a run of texts leaves in a buffer: the laws by which the code's calls, one after the other, come to the whole
-- run. Assumes nothing.
use Prim.Native.Nat.{ℕ, ◌+◌, ◌<◌, ◌≤◌, min}
use native.Mathlib.Omega.{arith}
use mathlib.Core.Path.{◌≡◌, refl, sym, ◌∙◌, ap}
use mathlib.Core.Bool.{Bool, true, false, cond}
use mathlib.Core.List.{List, [], ◌∷◌, ◌++◌, append_assoc, flat_map}
use lib.Dec.{leb}
use lib.ListN.{length, drop, length-append, length-drop}
use lib.Seq.{take-append_seam, take-length, drop-append-add, drop-drop}
use borrow.Author.Tests.{lt-leb, leb-true, leb-false}
use Rattle.sim0mq.specs.Allowed.{joined}
use Rattle.programs_pieces.specs.Put.{place_after, with_text}
use Rattle.programs_pieces.proofs.PutCases.{with_fits, with_length}
use Rattle.programs_listing.specs.Put.{Buffer, buffer, put_all, out_after, bytes_before, bytes_written}

-- no text; and a text that was put, then others
pub put_none : (b : Buffer) → b ≡ put_all b []
unfolding put_all
put_none b = refl

pub put_then : (out : List ℕ) (from : ℕ) (t : List ℕ) (ts : List (List ℕ)) (out' : List ℕ) (at : ℕ) (b : Buffer)
    → at ≡ place_after out from t → out' ≡ with_text out from t → b ≡ put_all (buffer out' at) ts → b ≡ put_all (buffer out from) (t ∷ ts)
unfolding put_all
put_then out from t ts out' at b e f g = g ∙ rw (e, f)

-- texts, and texts after them
pub put_append : (b : Buffer) (ss ts : List (List ℕ)) → put_all b (ss ++ ts) ≡ put_all (put_all b ss) ts
unfolding put_all
put_append b [] ts = refl
put_append b (s ∷ ss) ts = put_append (buffer (with_text b.out b.place s) (place_after b.out b.place s)) ss ts

-- the buffer keeps its length
put_length : (out : List ℕ) (from : ℕ) (ts : List (List ℕ)) → length (put_all (buffer out from) ts).out ≡ length out
unfolding put_all
put_length out from [] = refl
put_length out from (t ∷ ts) = put_length (with_text out from t) (place_after out from t) ts ∙ with_length out from t

-- the place after a run is that after its texts end to end
put_place : (out : List ℕ) (from : ℕ) (ts : List (List ℕ)) → from ≤ length out + 1
    → (put_all (buffer out from) ts).place ≡ min (from + length (joined ts)) (length out + 1)
unfolding put_all place_after flat_map
put_place out from [] h = omega arith
put_place out from (t ∷ ts) h =
    let e = with_length out from t in
    put_place (with_text out from t) (place_after out from t) ts (omega (arith, e))
    ∙ omega (arith, e, length-append t (joined ts))

-- a text that fits, put where p ends and q begins
with_seam : (p q t : List ℕ) → length t ≤ length q → with_text (p ++ q) (length p) t ≡ (p ++ t) ++ drop (length t) q
with_seam p q t h =
    with_fits (p ++ q) (length p) t (omega (arith, length-append p q))
    ∙ simp (take-append_seam, take-length, drop-append-add)

-- a run that fits, put where p ends and q begins, stands there end to end
pub put_fits : (p q : List ℕ) (ts : List (List ℕ)) → length (joined ts) ≤ length q
    → (put_all (buffer (p ++ q) (length p)) ts).out ≡ p ++ (joined ts ++ drop (length (joined ts)) q)
unfolding put_all place_after flat_map
put_fits p q [] h = refl
put_fits p q (t ∷ ts) h =
    let l = length-append t (joined ts) in
    let e : length (p ++ t) ≡ place_after (p ++ q) (length p) t = omega (arith, l, length-append p t, length-append p q) in
    let f = with_seam p q t (omega (arith, l)) in
    let b = put_then (p ++ q) (length p) t ts ((p ++ t) ++ drop (length t) q) (length (p ++ t)) _ e (sym f) refl in
    sym (ap (λ (x : Buffer). x.out) b)
    ∙ (put_fits (p ++ t) (drop (length t) q) ts (omega (arith, l, length-drop (length t) q))
    ∙ simp (append_assoc, drop-drop, length-append))

-- the place after n bytes put at the front of m counts them, or is past the end
counted : (n m : ℕ) → cond (leb (min (0 + n) (m + 1)) m) (min (0 + n) (m + 1)) 0 ≡ cond (leb n m) n 0
counted n m = go (leb n m) refl
  where
    go : (b : Bool) → leb n m ≡ b → cond (leb (min (0 + n) (m + 1)) m) (min (0 + n) (m + 1)) 0 ≡ cond (leb n m) n 0
    go true e =
        let h : n ≤ m = leb-true n m e in
        let k : min (0 + n) (m + 1) ≡ n = omega arith in
        rw k
    go false e =
        let h : m < n = leb-false n m e in
        let k : min (0 + n) (m + 1) ≡ m + 1 = omega arith in
        rw (k, lt-leb (m + 1) m (omega arith), e)

-- a run put at the front leaves what it should and, once the bytes before its end are counted, has as many bytes as it
-- should
pub put_told : (out : List ℕ) (ts : List (List ℕ)) (out' : List ℕ) (at r : ℕ) (text : List (List ℕ)) → text ≡ ts
    → buffer out' at ≡ put_all (buffer out 0) ts → r ≡ bytes_before out' at → (r ≡ bytes_written out text) × (out' ≡ out_after out text)
unfolding bytes_before bytes_written out_after
put_told out ts out' at r text e p q =
    let a : at ≡ min (0 + length (joined ts)) (length out + 1) = ap (λ (x : Buffer). x.place) p ∙ put_place out 0 ts (omega arith) in
    let o : out' ≡ (put_all (buffer out 0) ts).out = ap (λ (x : Buffer). x.out) p in
    let l : length out' ≡ length out = ap length o ∙ put_length out 0 ts in
    rw e (q ∙ rw (a, l) (counted (length (joined ts)) (length out)), o)
