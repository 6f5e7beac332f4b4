-- What a handle owns, and what a call makes of it.
use Rattle.std.specs.Prelude.{Option, None, Some, ⊤}
use base.Fml.{Fml, ftrue}

-- what is owned where there is something
abbrev pub owns_some : {X : Type 0} → (X → Fml) → Option X → Fml
owns_some owns None = ftrue
owns_some owns (Some x) = owns x

-- there is something
abbrev pub IsThere : {X : Type 0} → Option X → Type 0
IsThere None = ⊥
IsThere (Some x) = ⊤

-- there was something and there is, and between the two it is so
abbrev pub Between : {X : Type 0} → Option X → Option X → (X → X → Type 0) → Type 0
Between None new is = ⊥
Between (Some old) None is = ⊥
Between (Some old) (Some new) is = is old new
