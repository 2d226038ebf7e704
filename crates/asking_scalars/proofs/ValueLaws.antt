-- Asking for a value is asking for the field, and then the tests of its code: 17 is the answer of the last test alone.
use Prim.Native.Nat.{ℕ}
use mathlib.Core.Path.{◌≡◌, refl, ap, sym, ◌∙◌, subst}
use mathlib.Core.Bool.{Bool, true, false, cond, ◌||◌, false≢true}
use mathlib.Core.List.{List}
use native.Mathlib.Omega.{arith}
use lib.ListN.{length}
use lib.Dec.{leb, eqb}
use borrow.Author.Tests.{leb-true, leb-false}
use Rattle.sim0mq.specs.Answer.{Answer, fine, refused, ◌>>=◌}
use Rattle.sim0mq.specs.Codes.{among}
use Rattle.sim0mq.specs.Field.{Field}
use Rattle.sim0mq.specs.Message.{no_table, Reading, reading}
use Rattle.sim0mq.specs.Demand1.{judging_numbers}
use Rattle.sim0mq.proofs.Answers.{not_fine}
use Rattle.sim0mq.proofs.Demand1.{refusals_are_placed}
use Rattle.asking.specs.Asking.{asked}
use Rattle.asking.proofs.Promises.{asking_agrees_with_reading}
use Rattle.asking_scalars.specs.Scalars.{scalar_of, value}
use Rattle.asking_scalars.specs.Promises.{scalar_codes}
use Rattle.sim0mq_kinds.specs.declared.Scalar.{Scalar}

-- the tests say that the code is a scalar's, and a value is found; or that it is not, and 17 is
pub data Tells (b : Bool) (a : Answer Scalar) : Type 0 where
  scalar : b ≡ true → (v : Scalar) → a ≡ fine v → Tells b a
  other : b ≡ false → a ≡ refused 17 0 → Tells b a

test : (t : Bool) (x : Scalar) (b : Bool) (y : Answer Scalar) → Tells b y → Tells (t || b) (cond t (fine x) y)
test true x b y h = scalar refl x refl
test false x b y h = h

pub tells : (s : List ℕ) (f : Field) → Tells (among f.code scalar_codes) (scalar_of s f)
unfolding scalar_of among
tells s f =
    let c = f.code in
    test (eqb c 0) _ _ _ (test (eqb c 1) _ _ _ (test (eqb c 2) _ _ _ (test (eqb c 3) _ _ _
    (test (eqb c 4) _ _ _ (test (eqb c 5) _ _ _ (test (eqb c 6) _ _ _ (test (eqb c 7) _ _ _
    (test (eqb c 8) _ _ _ (test (eqb c 25) _ _ _ (test (eqb c 26) _ _ _ (other refl refl)))))))))))

-- asking for a field answers reading's numbers and 16, and 17 is none of them
seventeen_of : (a : Answer Reading) (s : List ℕ) (k place : ℕ) → reading no_table s ≡ a → asked s k ≡ refused 17 place → ⊥
unfolding among
seventeen_of (refused n p) s k place e q =
    let same : ◌≡◌ {A = Answer Field} (refused n p) (refused 17 place) = sym ((asking_agrees_with_reading s k).refuses n p e) ∙ q in
    let n17 : n ≡ 17 = cc in
    false≢true (subst (λ (j : ℕ). among j judging_numbers ≡ true) n17 (refusals_are_placed no_table s n p e).0)
seventeen_of (fine m) s k place e q = go (leb (length m.fields) k) refl
  where
    go : (b : Bool) → leb (length m.fields) k ≡ b → ⊥
    go true h =
        let same : ◌≡◌ {A = Answer Field} (refused 16 0) (refused 17 place)
        = sym (((asking_agrees_with_reading s k).past m e).1 (leb-true _ _ h)) ∙ q in
        let z : ◌≡◌ {A = ℕ} 16 17 = cc in omega arith
    go false h = not_fine (sym q ∙ ((asking_agrees_with_reading s k).finds m e (leb-false _ _ h)).1)

not_scalar : (b : Bool) (a : Answer Scalar) (place : ℕ) → Tells b a → a ≡ refused 17 place → (b ≡ false) × (place ≡ 0)
not_scalar b a place (scalar t v e) q = absurd (not_fine (sym q ∙ e))
not_scalar b a place (other t e) q =
    let same : ◌≡◌ {A = Answer Scalar} (refused 17 0) (refused 17 place) = sym e ∙ q in (t, cc)

-- so 17 is of a field that was found
found_of : (a : Answer Field) (s : List ℕ) (place : ℕ) → ((p : ℕ) → a ≡ refused 17 p → ⊥) → (a >>= scalar_of s) ≡ refused 17 place
    → ((f : Field) × (a ≡ fine f) × (among f.code scalar_codes ≡ false)) × (place ≡ 0)
found_of (fine f) s place none q =
    let x = not_scalar (among f.code scalar_codes) (scalar_of s f) place (tells s f) q in ((f, refl, x.0), x.1)
found_of (refused n p) s place none q = let e : n ≡ 17 = cc in absurd (none p (ap (λ (j : ℕ). refused j p) e))

pub seventeen_only : (s : List ℕ) (k place : ℕ) → value s k ≡ refused 17 place
    → ((f : Field) × (asked s k ≡ fine f) × (among f.code scalar_codes ≡ false)) × (place ≡ 0)
unfolding value
seventeen_only s k place q = found_of (asked s k) s place (λ p e. seventeen_of (reading no_table s) s k p refl e) q

pub seventeen_always : (s : List ℕ) (k : ℕ) (f : Field) → asked s k ≡ fine f → among f.code scalar_codes ≡ false → value s k ≡ refused 17 0
unfolding value
seventeen_always s k f q c = rw q (go (tells s f))
  where
    go : Tells (among f.code scalar_codes) (scalar_of s f) → scalar_of s f ≡ refused 17 0
    go (scalar t v e) = absurd (false≢true (sym c ∙ t))
    go (other t e) = e

pub value_found : (s : List ℕ) (k : ℕ) (f : Field) → asked s k ≡ fine f → among f.code scalar_codes ≡ true → (v : Scalar) × (value s k ≡ fine v)
unfolding value
value_found s k f q c = rw q (go (tells s f))
  where
    go : Tells (among f.code scalar_codes) (scalar_of s f) → (v : Scalar) × (scalar_of s f ≡ fine v)
    go (scalar t v e) = (v, e)
    go (other t e) = absurd (false≢true (sym t ∙ c))
