-- A directory that is turned into another at once, whatever files the medium has.
use Rattle.std.specs.Prelude.{◌≡◌, ◌≢◌, ◌⊎◌, ℕ, ◌<◌, List, [], ◌∷◌, length}
use Rattle.std.specs.List.{All}
use Rattle.r10_count.specs.declared.civil.Parts.{Parts}
use Rattle.r10_dirblock.specs.Block.{begun_entry, sized}
use Rattle.r10_dirchain.specs.Chain.{IsDirectory}
use Rattle.r10_dirchain.specs.Steps.{added, last_block, spare}
use Rattle.r10_dirchain.specs.declared.chain.ChainBlock.{ChainBlock}
use Rattle.r10_medium.specs.Disk.{Disk, Image, block_at}
use Rattle.r10_medium.specs.PowerLoss.{ComesBy, Leaves}

-- as long, and blocks in front of this one, but for those of these numbers, are as they were
pub record SameFront (first : ℕ) (numbers : List ℕ) (old new : Image) : Type 0 where
  pub size : length new ≡ length old
  pub blocks : (k : ℕ) → k < first → All (λ (n : ℕ). k ≢ n) numbers → block_at new k ≡ block_at old k

-- the directory is this one; its blocks of these numbers may be others, and in front of this block nothing else is
pub record HasTurned (first : ℕ) (made : List ChainBlock) (numbers : List ℕ) (old new : Image) : Type 0 where
  pub directory : IsDirectory new made
  pub front : SameFront first numbers old new

-- at a moment: in front of this block is what a power loss could leave before, but in blocks that nothing links to; or what was
-- read, with this directory
abbrev pub IsTurning : ℕ → List ChainBlock → List ℕ → List ℕ → Disk → Image → Type 0
IsTurning first made unlinked changed old image =
    ComesBy (SameFront first unlinked) old image ⊎ HasTurned first made changed old.blocks image

-- in front of this block the directory alone is changed, into this one and at once, at every moment and in what is read then
pub record TurnsAtOnce (first : ℕ) (made : List ChainBlock) (unlinked changed : List ℕ) (old new : Disk) : Type 0 where
  pub moments : Leaves (IsTurning first made unlinked changed old) old new
  pub reads : SameFront first unlinked old.blocks new.blocks ⊎ HasTurned first made changed old.blocks new.blocks

-- in front of this block nothing is changed, at no moment
pub record SparesFront (first : ℕ) (old new : Disk) : Type 0 where
  pub moments : Leaves (ComesBy (SameFront first []) old) old new
  pub reads : SameFront first [] old.blocks new.blocks

-- a file that begins at this block is listed at once after the others, by some size
abbrev pub BeginsAtOnce : List ℕ → Parts → ℕ → List ChainBlock → Disk → Disk → Type 0
BeginsAtOnce name civil first chain old new =
    (size : ℕ) × TurnsAtOnce first (added (sized size (begun_entry name first civil)) chain) (spare chain)
    ((last_block chain).number ∷ spare chain) old new
