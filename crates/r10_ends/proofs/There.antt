-- What is there.
use Rattle.std.proofs.Common.{◌≡◌, Option, None, Some, is_some, true, refl, sym, true≢false}
use Rattle.r10_ends.specs.Owning.{IsThere}

pub there : {X : Type 0} (o : Option X) → is_some o ≡ true → IsThere o
there None e = absurd (true≢false (sym e))
there (Some x) e = tt

-- and what it is
pub the_some : {X : Type 0} (o : Option X) → IsThere o → (x : X) × (o ≡ Some x)
the_some None is = absurd is
the_some (Some x) is = (x, refl)
