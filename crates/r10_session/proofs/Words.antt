-- Words that ask for one thing alone.
use Rattle.std.specs.Prelude.{ℕ, List, [], ◌∷◌}
use Rattle.r10_arguments.specs.Words.{AsksRun, AsksRunImage}

pub not_both : (words : List (List ℕ)) → AsksRun words → AsksRunImage words → ⊥
not_both [] run image = image
not_both (name ∷ []) run image = image
not_both (name ∷ word ∷ []) run image = image
not_both (name ∷ word ∷ other ∷ words) run image = run
