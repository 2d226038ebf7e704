-- A contract that equates what is seen with a definition of the arguments determines it.
use mathlib.Core.Path.{◌≡◌, sym, ◌∙◌}
use Rattle.determining.specs.Outcomes.{Determines}

-- It does so where it equates a view of what is seen, which tells all of it apart, with a definition of the arguments.
pub determined : {K : Type 0} {A Z E X Y : K → Type 0} {contract : (κs : K) → A κs → Z κs → E κs → Type 0} {seen : (κs : K) → Z κs → E κs → X κs}
    (view : (κs : K) → X κs → Y κs) → ((κs : K) (x y : X κs) → view κs x ≡ view κs y → x ≡ y) → (means : (κs : K) → A κs → Y κs)
    → ((κs : K) (a : A κs) (z : Z κs) (e : E κs) → contract κs a z e → view κs (seen κs z e) ≡ means κs a) → Determines contract seen
determined view apart means told κs a z z' e e' p p' = apart κs _ _ (told κs a z e p ∙ sym (told κs a z' e' p'))

-- Most contracts equate the thing itself.
pub equated : {K : Type 0} {A Z E X : K → Type 0} {contract : (κs : K) → A κs → Z κs → E κs → Type 0} {seen : (κs : K) → Z κs → E κs → X κs}
    (means : (κs : K) → A κs → X κs)
    → ((κs : K) (a : A κs) (z : Z κs) (e : E κs) → contract κs a z e → seen κs z e ≡ means κs a) → Determines contract seen
equated {contract = contract} {seen = seen} means told = determined {contract = contract} {seen = seen} (λ κs x. x) (λ κs x y q. q) means told
