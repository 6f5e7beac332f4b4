-- The items of an array, in a list and as the reader sees them.
use Rattle.std.proofs.Common.{◌≡◌, List, [], ◌∷◌, refl, ap}
use Rattle.toml.specs.Data.{Data}
use Rattle.toml.specs.View.{items_of}
use Rattle.r10_script.specs.Keys.{list_of_items}

pub listed-items_of : (ds : List Data) → list_of_items (items_of ds) ≡ ds
listed-items_of [] = refl
listed-items_of (d ∷ ds) = ap (λ t. d ∷ t) (listed-items_of ds)
