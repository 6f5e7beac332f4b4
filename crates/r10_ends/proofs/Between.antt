-- What is between what a handle held and what it holds.
use Rattle.std.proofs.Common.{◌≡◌, Option, Some, sym, subst}
use Rattle.r10_ends.specs.Owning.{Between}

-- a was taken out of it and lent as m, and b was put in
pub between : {X : Type 0} (old new : Option X) (is : X → X → Type 0) (a m b : X) → old ≡ Some a → m ≡ a → new ≡ Some b → is m b → Between old new is
between {X = X} old new is a m b e s f p = subst (λ (x : Option X). Between x new is) (sym e) (subst (λ (y : Option X). Between (Some a) y is) (sym f) (subst (λ (z : X). is z b) s p))
