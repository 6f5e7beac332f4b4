-- A chain of directory blocks, and the medium that has it.
use Rattle.std.specs.Prelude.{◌≡◌, ◌≢◌, ℕ, ◌<◌, List, [], ◌∷◌, map, length, replicate, slice_index_or}
use Rattle.std.specs.List.{All, flat_map}
use Rattle.r10_medium.specs.Disk.{Image, block_at}
use Rattle.r10_dirblock.specs.Block.{IsBlock}
use Rattle.r10_dirblock.specs.declared.entry.Entry.{Entry}
use Rattle.r10_dirchain.specs.declared.chain.ChainBlock.{ChainBlock}

-- the number of a block, and its two links
pub record Link : Type 0 where
  pub number : ℕ
  pub forward : ℕ
  pub back : ℕ

abbrev pub link : ChainBlock → Link
link b = record { number = b.number; forward = b.block.forward; back = b.block.reverse }

-- Block n is the first of these. It links back to block `back`, each links forward to the next, which links back to it,
-- and the last links forward to itself.
abbrev pub Linked : ℕ → ℕ → List Link → Type 0
Linked back n [] = ⊥
Linked back n (l ∷ []) = (l.number ≡ n) × (l.back ≡ back) × (l.forward ≡ n)
Linked back n (l ∷ m ∷ more) = (l.number ≡ n) × (l.back ≡ back) × (l.forward ≢ n) × Linked n l.forward (m ∷ more)

-- the medium has this directory block at its number
pub record HoldsBlock (image : Image) (b : ChainBlock) : Type 0 where
  pub within : b.number < length image
  pub is : IsBlock (block_at image b.number) b.block

-- The medium's directory is this chain, from block 1 on, which links back to itself.
pub record IsDirectory (image : Image) (chain : List ChainBlock) : Type 0 where
  pub linked : Linked 1 1 (map link chain)
  pub holds : All (HoldsBlock image) chain

-- the entries of all files, in order
abbrev pub listed_files : List ChainBlock → List Entry
listed_files chain = flat_map (λ b. b.block.entries) chain

-- the block at a place of the chain, from 0 on
abbrev pub blank_block : ChainBlock
blank_block =
    record { number = 0; block = record { shutdown = 0; volume = replicate 32 0; forward = 0; reverse = 0; entries = [] } }

abbrev pub at : List ChainBlock → ℕ → ChainBlock
at chain i = slice_index_or chain i blank_block
