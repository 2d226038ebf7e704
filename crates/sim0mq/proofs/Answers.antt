-- Taking an answer apart: a judge that came to a value passed each of its steps, since a refusal is no value.
use Prim.Native.Nat.{ℕ, ◌+◌, ◌≤◌}
use mathlib.Core.Path.{◌≡◌, refl, sym, subst}
use mathlib.Core.Bool.{Bool, true, false, ◌&&◌, false≢true}
use mathlib.Core.List.{List}
use lib.ListN.{length}
use lib.Dec.{leb}
use borrow.Author.Tests.{leb-true}
use Rattle.sim0mq.specs.Answer.{Answer, fine, refused, ◌>>=◌, ◌>>◌, guard, need, part_at}

abbrev is_fine : {A : Type 0} → Answer A → Type 0
is_fine (fine a) = Unit {0}
is_fine (refused k p) = ⊥

pub not_fine : {A : Type 0} {k p : ℕ} {a : A} → refused k p ≡ fine a → ⊥
not_fine {A} e = subst (λ (x : Answer A). is_fine x) (sym e) tt

pub fine_eq : {A : Type 0} {a b : A} → fine a ≡ fine b → a ≡ b
fine_eq e = cc

pub bind_fine : {A B : Type 0} (a : Answer A) (f : A → Answer B) {v : B} → (a >>= f) ≡ fine v → (x : A) × (a ≡ fine x) × (f x ≡ fine v)
bind_fine (fine x) f e = (x, refl, e)
bind_fine (refused k p) f e = absurd (not_fine e)

pub guarded : {B : Type 0} (t : Bool) (k p : ℕ) (b : Answer B) {v : B} → (guard t k p >> b) ≡ fine v → (t ≡ true) × (b ≡ fine v)
guarded true k p b e = (refl, e)
guarded false k p b e = absurd (not_fine e)

-- the same of a step whose rest stands under a name
pub guarded_bind : {B : Type 0} (t : Bool) (k p : ℕ) (f : Unit {0} → Answer B) {v : B} → (guard t k p >>= f) ≡ fine v
    → (t ≡ true) × (f tt ≡ fine v)
guarded_bind true k p f e = (refl, e)
guarded_bind false k p f e = absurd (not_fine e)

pub needed : {B : Type 0} (s : List ℕ) (at n : ℕ) (b : Answer B) {v : B} → (need s at n >> b) ≡ fine v → (at + n ≤ length s) × (b ≡ fine v)
needed s at n b e = let r = guarded (leb (at + n) (length s)) 1 (length s) b e in (leb-true _ _ r.0, r.1)

pub needed_bind : {B : Type 0} (s : List ℕ) (at n : ℕ) (f : Unit {0} → Answer B) {v : B} → (need s at n >>= f) ≡ fine v
    → (at + n ≤ length s) × (f tt ≡ fine v)
needed_bind s at n f e = let r = guarded_bind (leb (at + n) (length s)) 1 (length s) f e in (leb-true _ _ r.0, r.1)

pub part_fine : {A : Type 0} (b : ℕ) (a : Answer A) {v : A} → part_at b a ≡ fine v → a ≡ fine v
part_fine b (fine a) e = e
part_fine b (refused k p) e = absurd (not_fine e)

pub and_true : (a b : Bool) → (a && b) ≡ true → (a ≡ true) × (b ≡ true)
and_true true b e = (refl, e)
and_true false b e = absurd (false≢true e)
