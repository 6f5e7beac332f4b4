-- Which block of a chain can't be taken.
use Rattle.std.specs.Prelude.{◌≡◌, ◌≢◌, ◌⊎◌, ℕ, ◌<◌, ◌≤◌, List, [], ◌∷◌, map, length, Err, Contains}
use Rattle.std.specs.List.{All, AllPairs}
use Rattle.r10_medium.specs.Disk.{Image, block_at}
use Rattle.r10_dirblock.specs.declared.block.DirBlock.{DirBlock}
use Rattle.r10_dirblock.specs.declared.read.DirFault.{DirFault}
use Rattle.r10_dirblock.specs.Block.{read_block, IsBlock}
use Rattle.r10_dirchain.specs.declared.chain.ChainBlock.{ChainBlock}
use Rattle.r10_dirchain.specs.declared.read.ChainError.{ChainError}
use Rattle.r10_dirchain.specs.declared.read.ChainError.TheVariants.{BadDirectory, Medium, OutOfMemory}
use Rattle.r10_dirchain.specs.Chain.{Link, link, HoldsBlock}

-- block n is a directory block, which links back to `back`
pub record LinksBack (image : Image) (back n : ℕ) (block : DirBlock) : Type 0 where
  pub within : n < length image
  pub is : IsBlock (block_at image n) block
  pub links_back : block.reverse ≡ back

-- block n is outside the medium, no directory block, or one that doesn't link back to `back`
abbrev pub IsUnfit : Image → ℕ → ℕ → Type 0
IsUnfit image back n =
    (length image ≤ n)
    ⊎ (((fault : DirFault) × (read_block (block_at image n) ≡ Err fault))
    ⊎ ((block : DirBlock) × IsBlock (block_at image n) block × (block.reverse ≢ back)))

-- these blocks, of which the first links back to `back`, lead from block n on to block `next`, and `last` is the one before it
abbrev pub LinksLead : ℕ → ℕ → List Link → ℕ → ℕ → Type 0
LinksLead back n [] last next = (back ≡ last) × (n ≡ next)
LinksLead back n (l ∷ more) last next = (l.number ≡ n) × (l.back ≡ back) × (l.forward ≢ n) × LinksLead n l.forward more last next

-- no two blocks have the same number
abbrev pub BlocksAreApart : List ChainBlock → Type 0
BlocksAreApart chain = AllPairs (λ (a b : ChainBlock). a.number ≢ b.number) chain

abbrev pub numbers : List ChainBlock → List ℕ
numbers chain = map (λ (b : ChainBlock). b.number) chain

-- The chain from block 1 passes some blocks, none of them twice, reaches block n and can't take it: it is unfit, or one of those.
pub record IsBad (image : Image) (n : ℕ) : Type 0 where
  pub passed : List ChainBlock
  pub last : ℕ
  pub holds : All (HoldsBlock image) passed
  pub apart : BlocksAreApart passed
  pub leads : LinksLead 1 1 (map link passed) last n
  pub cannot : IsUnfit image last n ⊎ Contains (numbers passed) n

-- what an error says of the block that was looked at, and of the whole chain
abbrev pub IsTakeError : Image → ℕ → ℕ → ChainError → Type 0
IsTakeError image back n (BadDirectory m) = (m ≡ n) × IsUnfit image back n
IsTakeError image back n Medium = Unit {0}
IsTakeError image back n OutOfMemory = Unit {0}

abbrev pub IsChainError : Image → ChainError → Type 0
IsChainError image (BadDirectory n) = IsBad image n
IsChainError image Medium = Unit {0}
IsChainError image OutOfMemory = Unit {0}

-- the chain may be taken: only the medium or memory can have failed
abbrev pub IsNoFault : ChainError → Type 0
IsNoFault (BadDirectory n) = ⊥
IsNoFault Medium = Unit {0}
IsNoFault OutOfMemory = Unit {0}
