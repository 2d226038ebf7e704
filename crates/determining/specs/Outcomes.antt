-- What a contract determines of a call's outcome.
use Rattle.std.specs.Prelude.{◌≡◌}

-- A contract says of an outcome, the result z and the parameters e at exit, whether it is allowed at the arguments a
-- and the lifetimes κs. It determines what is seen of an outcome where any two that it allows at the same arguments
-- look the same.
abbrev pub Determines : {K : Type 0} {A Z E X : K → Type 0} → ((κs : K) → A κs → Z κs → E κs → Type 0) → ((κs : K) → Z κs → E κs → X κs) → Type 0
Determines {K} {A} {Z} {E} contract seen =
    (κs : K) (a : A κs) (z z' : Z κs) (e e' : E κs) → contract κs a z e → contract κs a z' e' → seen κs z e ≡ seen κs z' e'
