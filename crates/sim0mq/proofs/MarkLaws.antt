-- The mark judge takes exactly the marks: each item that it asks for is one that the mark has, in the mark's own order.
use Prim.Native.Nat.{ℕ, zero, suc, ◌+◌, ◌≤◌}
use mathlib.Core.Path.{◌≡◌, refl, ap, sym, ◌∙◌, subst}
use mathlib.Core.Bool.{true}
use mathlib.Core.List.{List, [], ◌∷◌, flat_map}
use native.Mathlib.Omega.{arith}
use lib.ListN.{length, length-append}
use borrow.Author.Tests.{le-leb}
use Rattle.sim0mq.specs.Answer.{fine, byte, big}
use Rattle.sim0mq.specs.Mark.{Kind, plain, money, money_per, unknown, kind_of, currency_taken, display_taken, currency, display, mark_rest, mark, marks}
use Rattle.sim0mq.specs.Allowed.{number, Each, none, more, IsMark, with_display, with_currency, with_both, joined}
use Rattle.sim0mq.proofs.Answers.{needed, guarded, bind_fine, not_fine, fine_eq}
use Rattle.sim0mq.proofs.Stands.{Stands, stands_to, stands_head, stands_tail, stands_left, stands_right, stands_nil, stands_cons, stands_join, big_number}

-- what a judge found from `at` to e, as a string
pub record Found (P : List ℕ → Type 0) (s : List ℕ) (at e : ℕ) : Type 0 where
  pub bytes : List ℕ
  pub is : P bytes
  pub there : Stands s at bytes
  pub ends : e ≡ at + length bytes

-- and as n strings, one after the other
pub record FoundStrings (P : List ℕ → Type 0) (n : ℕ) (s : List ℕ) (at e : ℕ) : Type 0 where
  pub strings : List (List ℕ)
  pub many : length strings ≡ n
  pub are : Each P strings
  pub there : Stands s at (joined strings)
  pub ends : e ≡ at + length (joined strings)

-- no string; one string more in front
pub found_none : {P : List ℕ → Type 0} {s : List ℕ} {at : ℕ} → at ≤ length s → FoundStrings P 0 s at at
unfolding flat_map
found_none h = record { strings = []; many = refl; are = none; there = stands_nil h; ends = omega arith }

pub found_more : {P : List ℕ → Type 0} {n : ℕ} {s : List ℕ} {at p e : ℕ} → Found P s at p → FoundStrings P n s p e
    → FoundStrings P (suc n) s at e
unfolding flat_map
found_more {at = at} a b =
    let i = a.ends in
    let j = b.ends in
    let rest = joined b.strings in
    record {
      strings = a.bytes ∷ b.strings;
      many = ap suc b.many;
      are = more a.is b.are;
      there = stands_join a.bytes rest a.there (stands_to (at + length a.bytes) i b.there);
      ends = omega (arith, length-append a.bytes rest);
    }

-- every mark is taken
display_complete : {s : List ℕ} {at : ℕ} (t d : ℕ) → display_taken t d ≡ true → Stands s at (d ∷ []) → display s t at ≡ fine (at + 1)
unfolding display
display_complete {s} {at} t d k st = let h = st.fits in simp (le-leb (at + 1) (length s) (omega arith), stands_head st, k)

currency_complete : {s : List ℕ} {at : ℕ} (h l : ℕ) → currency_taken (number (h ∷ l ∷ [])) ≡ true → Stands s at (h ∷ l ∷ [])
    → currency s at ≡ fine (at + 2)
unfolding currency
currency_complete {s} {at} h l k st =
    let f = st.fits in simp (le-leb (at + 2) (length s) (omega arith), big_number (h ∷ l ∷ []) st, k)

pub mark_complete : {s m : List ℕ} {at : ℕ} → IsMark m → Stands s at m → mark s at ≡ fine (at + length m)
unfolding mark mark_rest
mark_complete {s} {at} (with_display {u = u} {t = t} {d = d} k e) st =
    let f = st.fits in
    simp (le-leb (at + 1) (length s) (omega arith), stands_head st, k, display_complete t d e (stands_tail st)) (ap fine (omega arith))
mark_complete {s} {at} (with_currency {u = u} {h = h} {l = l} k e) st =
    let f = st.fits in
    simp (le-leb (at + 1) (length s) (omega arith), stands_head st, k, currency_complete h l e (stands_tail st)) (ap fine (omega arith))
mark_complete {s} {at} (with_both {u = u} {t = t} {h = h} {l = l} {d = d} k e g) st =
    let f = st.fits in
    let tail = stands_tail st in
    simp (
      le-leb (at + 1) (length s) (omega arith),
      stands_head st,
      k,
      currency_complete h l e (stands_left (h ∷ l ∷ []) (d ∷ []) tail),
      display_complete t d g (stands_right (h ∷ l ∷ []) (d ∷ []) tail),
    )
    (ap fine (omega arith))

pub marks_complete : {s : List ℕ} {at : ℕ} (ms : List (List ℕ)) → Each IsMark ms → Stands s at (joined ms)
    → marks s (length ms) at ≡ fine (at + length (joined ms))
unfolding marks flat_map
marks_complete [] none st = ap fine (omega arith)
marks_complete {at = at} (m ∷ ms) (more a b) st =
    rw (mark_complete a (stands_left m (joined ms) st))
    (marks_complete {at = at + length m} ms b (stands_right m (joined ms) st) ∙ ap fine (omega (arith, length-append m (joined ms))))

-- whatever is taken is a mark
display_sound : (s : List ℕ) (t at e : ℕ) → display s t at ≡ fine e
    → (display_taken t (byte s at) ≡ true) × (at + 1 ≤ length s) × (e ≡ at + 1)
unfolding display
display_sound s t at e q =
    let a = needed s at 1 _ q in
    let b = guarded _ _ _ _ a.1 in
    (b.0, a.0, sym (fine_eq b.1))

currency_sound : (s : List ℕ) (at e : ℕ) → currency s at ≡ fine e
    → (currency_taken (number (byte s at ∷ byte s (at + 1) ∷ [])) ≡ true) × (at + 2 ≤ length s) × (e ≡ at + 2)
unfolding currency
currency_sound s at e q =
    let a = needed s at 2 _ q in
    let b = guarded (currency_taken (big s at 2)) _ _ _ a.1 in
    let h = a.0 in
    let there : Stands s at (byte s at ∷ byte s (at + 1) ∷ []) = stands_cons refl (stands_cons refl (stands_nil (omega arith))) in
    (subst (λ (c : ℕ). currency_taken c ≡ true) (big_number (byte s at ∷ byte s (at + 1) ∷ []) there) b.0, a.0, sym (fine_eq b.1))

mark_rest_sound : (s : List ℕ) (at e : ℕ) → at + 1 ≤ length s → (k : Kind) → kind_of (byte s at) ≡ k → mark_rest s at k ≡ fine e → Found IsMark s at e
unfolding mark_rest
mark_rest_sound s at e h (plain t) u q =
    let d = display_sound s t (at + 1) e q in
    let l = d.1 in
    let n = d.2 in
    record {
      bytes = byte s at ∷ byte s (at + 1) ∷ [];
      is = with_display u d.0;
      there = stands_cons refl (stands_cons refl (stands_nil l));
      ends = omega arith;
    }
mark_rest_sound s at e h money u q =
    let d = currency_sound s (at + 1) e q in
    let l = d.1 in
    let n = d.2 in
    record {
      bytes = byte s at ∷ byte s (at + 1) ∷ byte s (at + 1 + 1) ∷ [];
      is = with_currency u d.0;
      there = stands_cons refl (stands_cons refl (stands_cons refl (stands_nil (omega arith))));
      ends = omega arith;
    }
mark_rest_sound s at e h (money_per t) u q =
    let r = bind_fine (currency s (at + 1)) _ q in
    let c = currency_sound s (at + 1) r.0 r.1 in
    let n = c.2 in
    let d = display_sound s t r.0 e r.2 in
    let m = d.2 in
    let l = d.1 in
    let p : r.0 ≡ at + 1 + 1 + 1 = omega arith in
    record {
      bytes = byte s at ∷ byte s (at + 1) ∷ byte s (at + 1 + 1) ∷ byte s (at + 1 + 1 + 1) ∷ [];
      is = with_both u c.0 (subst (λ (x : ℕ). display_taken t (byte s x) ≡ true) p d.0);
      there = stands_cons refl (stands_cons refl (stands_cons refl (stands_cons refl (stands_nil (omega arith)))));
      ends = omega arith;
    }
mark_rest_sound s at e h unknown u q = absurd (not_fine q)

pub mark_sound : (s : List ℕ) (at e : ℕ) → mark s at ≡ fine e → Found IsMark s at e
unfolding mark
mark_sound s at e q = let a = needed s at 1 _ q in mark_rest_sound s at e a.0 (kind_of (byte s at)) refl a.1

pub marks_sound : (n : ℕ) (s : List ℕ) (at e : ℕ) → at ≤ length s → marks s n at ≡ fine e → FoundStrings IsMark n s at e
unfolding marks
marks_sound zero s at e h q = subst (λ (p : ℕ). FoundStrings IsMark 0 s at p) (fine_eq q) (found_none h)
marks_sound (suc n) s at e h q =
    let r = bind_fine (mark s at) _ q in
    let a = mark_sound s at r.0 r.1 in
    let i = a.ends in
    let f = a.there.fits in
    found_more a (marks_sound n s r.0 e (omega arith) r.2)
