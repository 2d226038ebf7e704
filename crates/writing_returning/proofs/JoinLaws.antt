-- Strings end to end: two runs joined are the one and then the other, and equal strings join to the same.
use Prim.Native.Nat.{ℕ, ◌+◌}
use mathlib.Core.Path.{◌≡◌, refl, ap, sym, ◌∙◌}
use mathlib.Core.List.{List, [], ◌∷◌, ◌++◌, map, flat_map, append_assoc}
use native.Mathlib.Omega.{arith}
use lib.ListN.{length, length-append}
use Rattle.sim0mq.specs.Allowed.{joined}

pub flat_append : {A : Type 0} (f : A → List ℕ) (xs ys : List A) → flat_map f (xs ++ ys) ≡ flat_map f xs ++ flat_map f ys
unfolding flat_map
flat_append f [] ys = refl
flat_append f (x ∷ xs) ys = ap (λ (l : List ℕ). f x ++ l) (flat_append f xs ys) ∙ sym (append_assoc (f x) (flat_map f xs) (flat_map f ys))

flat_joined : {A : Type 0} (f : A → List ℕ) (xs : List A) → flat_map f xs ≡ joined (map f xs)
unfolding flat_map
flat_joined f [] = refl
flat_joined f (x ∷ xs) = ap (λ (l : List ℕ). f x ++ l) (flat_joined f xs)

-- so what is given as equal strings is the same text
pub flat_same : {A B : Type 0} (f : A → List ℕ) (g : B → List ℕ) (xs : List A) (ys : List B) → map f xs ≡ map g ys → flat_map f xs ≡ flat_map g ys
flat_same f g xs ys e = flat_joined f xs ∙ ap joined e ∙ sym (flat_joined g ys)

-- four strings end to end
pub four_long : (a b c d : List ℕ) → length (a ++ (b ++ (c ++ (d ++ [])))) ≡ length a + length b + length c + length d
four_long a b c d =
    omega (
      arith,
      length-append a (b ++ (c ++ (d ++ []))),
      length-append b (c ++ (d ++ [])),
      length-append c (d ++ []),
      length-append d [],
    )
