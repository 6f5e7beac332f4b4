-- Ordered rules, part by part.
use Rattle.std.proofs.Common.{◌≡◌, Bool, true, false, List, [], ◌∷◌, ◌++◌, Some, None, refl}
use Rattle.r10_count.specs.Checks.{first_broken}

-- rules that hold pass on to those after them
pub rules_pass : {F : Type 0} (xs ys : List (Bool × F)) → first_broken xs ≡ None → first_broken (xs ++ ys) ≡ first_broken ys
rules_pass [] ys all = refl
rules_pass ((true, f) ∷ xs) ys all = rules_pass xs ys all
rules_pass ((false, f) ∷ xs) ys all = cc

-- the first that doesn't decides
pub rules_stop : {F : Type 0} (xs ys : List (Bool × F)) (f : F) → first_broken xs ≡ Some f → first_broken (xs ++ ys) ≡ Some f
rules_stop [] ys f is = cc
rules_stop ((true, g) ∷ xs) ys f is = rules_stop xs ys f is
rules_stop ((false, g) ∷ xs) ys f is = is

-- the first of those that hold, and the others
pub none_broken : {F : Type 0} (b : Bool) (f : F) (rest : List (Bool × F)) → first_broken ((b, f) ∷ rest) ≡ None → (b ≡ true) × (first_broken rest ≡ None)
none_broken true f rest none = (refl, none)
none_broken false f rest none = absurd (cc)

-- the front of those that hold, and what is after it
pub rules_parts : {F : Type 0} (xs ys : List (Bool × F)) → first_broken (xs ++ ys) ≡ None → (first_broken xs ≡ None) × (first_broken ys ≡ None)
rules_parts [] ys all = (refl, all)
rules_parts ((true, f) ∷ xs) ys all = rules_parts xs ys all
rules_parts ((false, f) ∷ xs) ys all = cc
