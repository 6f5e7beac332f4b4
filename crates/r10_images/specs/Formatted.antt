-- The image of a formatted medium, and its limits.
use Rattle.std.specs.Prelude.{ℕ, ◌+◌, ◌-◌, Bool, List, [], ◌∷◌, replicate}
use Rattle.r10_count.specs.Names.{is_within, is_volume}
use Rattle.r10_medium.specs.Disk.{Block, Image}
use Rattle.r10_medium.specs.Memory.{zeros}
use Rattle.r10_dirblock.specs.Block.{block_bytes}
use Rattle.r10_dirchain.specs.Chain.{at}
use Rattle.r10_dirchain.specs.Steps.{formatted}
use Rattle.r10_images.specs.declared.limits.Limit.{Limit}
use Rattle.r10_images.specs.declared.limits.Limit.TheVariants as limits

-- what must hold, in order, and the limit that is broken where it doesn't
abbrev pub format_rules : ℕ → ℕ → List ℕ → List (Bool × Limit)
format_rules blocks directory volume =
    (is_within (directory + 2) 16777216 blocks, limits.Blocks)
    ∷ (is_within 1 64 directory, limits.Directory)
    ∷ (is_volume volume, limits.Volume)
    ∷ []

-- the block of a directory without files
abbrev pub formatted_block : List ℕ → Block
formatted_block volume = block_bytes (at (formatted volume) 0).block

-- block 1 is the directory's, and every other one is zeros
abbrev pub formatted_image : ℕ → List ℕ → Image
formatted_image blocks volume = zeros ∷ formatted_block volume ∷ replicate (blocks - 2) zeros
