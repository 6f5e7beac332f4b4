-- Blocks written one after the other.
use Rattle.std.proofs.Common.{◌≡◌, ℕ, ◌+◌, ◌<◌, [], ◌∷◌, ◌++◌, length, take, ap, ◌∙◌}
use Rattle.std.specs.List.{concat}
use Rattle.std.proofs.lemmas.List.{append-nil, take_more}
use Rattle.std.proofs.lemmas.List.Folds.{concat-append}
use Rattle.r10_medium.specs.Disk.{Image, block_at}

-- one block more
pub blocks_more : (image : Image) (n : ℕ) → n < length image → concat (take (n + 1) image) ≡ concat (take n image) ++ block_at image n
blocks_more image n lt =
    ap concat (take_more image n [] lt) ∙ concat-append (take n image) (block_at image n ∷ []) ∙ ap (λ t. concat (take n image) ++ t) (append-nil (block_at image n))
