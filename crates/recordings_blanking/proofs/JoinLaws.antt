-- Two strings end to end: a place of the whole lies in the one or in the other, so what is blank of each is blank of
-- both, and what is alike in the whole is alike in each.
use Prim.Native.Nat.{ℕ, ◌+◌, ◌-◌, ◌<◌}
use mathlib.Core.Path.{◌≡◌, refl, ap, sym, ◌∙◌, subst}
use mathlib.Core.Bool.{Bool, true, false}
use mathlib.Core.List.{List, [], ◌∷◌, ◌++◌, map}
use native.Mathlib.Omega.{arith}
use native.Mathlib.Nat.{not-suc-le-zero}
use lib.ListN.{length, length-append, get_or-append, get_or-eq_default}
use lib.Seq.{get_or-append-add}
use lib.Dec.{ltb}
use borrow.Author.Tests.{ltb-true, ltb-false}
use Rattle.sim0mq.specs.Answer.{byte}
use Rattle.sim0mq.specs.Field.{Field}
use Rattle.sim0mq.specs.Payload.{moved}
use Rattle.sim0mq.specs.Allowed.{Each, more}
use Rattle.sim0mq.specs.Demand3.{ValueByte, here, later, IsBlank, SameBuild}
use Rattle.sim0mq.proofs.BlankLaws.{Inside, some_field}

-- a value byte of fields that were moved is one of theirs, moved
moved_back : (gs : List Field) (n i : ℕ) → ValueByte (map (moved n) gs) i → (j : ℕ) × (i ≡ n + j) × ValueByte gs j
unfolding moved
moved_back [] n i v = absurd (not-suc-le-zero (some_field v))
moved_back (g ∷ gs) n i (here h k) = (i - n, omega arith, here {f = g} {i = i - n} (omega arith) (omega arith))
moved_back (g ∷ gs) n i (later v) = let r = moved_back gs n i v in (r.0, r.1, later r.2)

moved_on : (gs : List Field) (n j : ℕ) → ValueByte gs j → ValueByte (map (moved n) gs) (n + j)
unfolding moved
moved_on [] n j v = absurd (not-suc-le-zero (some_field v))
moved_on (g ∷ gs) n j (here h k) = here {f = moved n g} {i = n + j} (omega arith) (omega arith)
moved_on (g ∷ gs) n j (later v) = later (moved_on gs n j v)

-- a value byte of the first fields or of the others, which were moved past n bytes
pub data Side (fs gs : List Field) (n i : ℕ) : Type 0 where
  first : ValueByte fs i → Side fs gs n i
  second : (j : ℕ) → i ≡ n + j → ValueByte gs j → Side fs gs n i

pub side : (fs gs : List Field) (n i : ℕ) → ValueByte (fs ++ map (moved n) gs) i → Side fs gs n i
side [] gs n i v = let r = moved_back gs n i v in second r.0 r.1 r.2
side (f ∷ fs) gs n i (here h k) = first (here h k)
side (f ∷ fs) gs n i (later v) = go (side fs gs n i v)
  where
    go : Side fs gs n i → Side (f ∷ fs) gs n i
    go (first w) = first (later w)
    go (second j e w) = second j e w

left : (fs gs : List Field) (i : ℕ) → ValueByte fs i → ValueByte (fs ++ gs) i
left [] gs i v = absurd (not-suc-le-zero (some_field v))
left (f ∷ fs) gs i (here h k) = here h k
left (f ∷ fs) gs i (later v) = later (left fs gs i v)

right : (fs gs : List Field) (i : ℕ) → ValueByte gs i → ValueByte (fs ++ gs) i
right [] gs i v = v
right (f ∷ fs) gs i v = later (right fs gs i v)

-- a value byte of fields inside of n bytes is one of these
pub value_inside : (fs : List Field) (n i : ℕ) → Each (Inside n) fs → ValueByte fs i → i < n
value_inside [] n i _ v = absurd (not-suc-le-zero (some_field v))
value_inside (f ∷ fs) n i (more a b) (here h k) = omega arith
value_inside (f ∷ fs) n i (more a b) (later v) = value_inside fs n i b v

-- a byte of the first string, and of the second
byte_first : (a b : List ℕ) (i : ℕ) → i < length a → byte (a ++ b) i ≡ byte a i
byte_first a b i h = get_or-append a b 0 i h

byte_second : (a b : List ℕ) (n j : ℕ) → length a ≡ n → byte (a ++ b) (n + j) ≡ byte b j
byte_second a b n j e = ap (λ (k : ℕ). byte (a ++ b) (k + j)) (sym e) ∙ get_or-append-add a b j 0

-- blank of each, so blank of both
module _ (a b c d : List ℕ) (fs gs : List Field) (inside : Each (Inside (length a)) fs) (x : IsBlank a fs c) (y : IsBlank b gs d) where
  abbrev both : List Field
  both = fs ++ map (moved (length a)) gs

  blank_zeros : (i : ℕ) → ValueByte both i → byte (c ++ d) i ≡ 0
  blank_zeros i v = go (side fs gs (length a) i v)
    where
      go : Side fs gs (length a) i → byte (c ++ d) i ≡ 0
      go (first w) =
          let within = value_inside fs (length a) i inside w in
          byte_first c d i (omega (arith, x.long)) ∙ x.zeros i w
      go (second j e w) = ap (byte (c ++ d)) e ∙ byte_second c d (length a) j x.long ∙ y.zeros j w

  blank_elsewhere : (i : ℕ) → (ValueByte both i → ⊥) → byte (c ++ d) i ≡ byte (a ++ b) i
  blank_elsewhere i v = go (ltb i (length a)) refl
    where
      go : (t : Bool) → ltb i (length a) ≡ t → byte (c ++ d) i ≡ byte (a ++ b) i
      go true e =
          let within = ltb-true i (length a) e in
          byte_first c d i (omega (arith, x.long))
          ∙ x.same i (λ w. v (left fs (map (moved (length a)) gs) i w))
          ∙ sym (byte_first a b i within)
      go false e =
          let past = ltb-false i (length a) e in
          let j = i - length a in
          let there : i ≡ length a + j = omega arith in
          let other : ValueByte gs j → ⊥
          =
          λ w.
          v
          (subst (λ (k : ℕ). ValueByte both k) (sym there)
          (right fs (map (moved (length a)) gs) (length a + j) (moved_on gs (length a) j w))) in
          ap (byte (c ++ d)) there
          ∙ byte_second c d (length a) j x.long
          ∙ y.same j other
          ∙ sym (ap (byte (a ++ b)) there ∙ byte_second a b (length a) j refl)

  pub blank_join : IsBlank (a ++ b) both (c ++ d)
  blank_join =
      record {
        long = length-append c d ∙ (λ k. x.long k + y.long k) ∙ sym (length-append a b);
        zeros = blank_zeros;
        same = blank_elsewhere;
      }

-- alike in the whole, so alike in each
module _ (a b c d : List ℕ) (fs gs : List Field) (long : length a ≡ length c)
    (x : SameBuild (fs ++ map (moved (length a)) gs) (a ++ b) (c ++ d)) where
  pub build_first : SameBuild fs a c
  build_first = record { long = long; same = λ i v. go i v (ltb i (length a)) refl }
    where
      apart : (i : ℕ) → i < length a → (ValueByte fs i → ⊥) → Side fs gs (length a) i → ⊥
      apart i h v (first w) = v w
      apart i h v (second j e w) = omega arith

      go : (i : ℕ) → (ValueByte fs i → ⊥) → (t : Bool) → ltb i (length a) ≡ t → byte a i ≡ byte c i
      go i v true e =
          let within = ltb-true i (length a) e in
          sym (byte_first a b i within)
          ∙ x.same i (λ w. apart i within v (side fs gs (length a) i w))
          ∙ byte_first c d i (omega arith)
      go i v false e =
          let past = ltb-false i (length a) e in
          get_or-eq_default a 0 past ∙ sym (get_or-eq_default c 0 {n = i} (omega arith))

  pub build_second : Each (Inside (length a)) fs → SameBuild gs b d
  build_second inside =
      record {
        long = omega (arith, x.long, length-append a b, length-append c d);
        same =
            λ j v.
            sym (byte_second a b (length a) j refl)
            ∙ x.same (length a + j) (λ w. apart j v (side fs gs (length a) (length a + j) w))
            ∙ byte_second c d (length a) j (sym long);
      }
    where
      apart : (j : ℕ) → (ValueByte gs j → ⊥) → Side fs gs (length a) (length a + j) → ⊥
      apart j v (first w) = let within = value_inside fs (length a) (length a + j) inside w in omega arith
      apart j v (second k e w) = let same : k ≡ j = omega arith in v (subst (λ (n : ℕ). ValueByte gs n) same w)
