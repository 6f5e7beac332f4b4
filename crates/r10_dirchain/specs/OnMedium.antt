-- What a step of the directory does to the medium, and what a power loss leaves of it.
use Rattle.std.specs.Prelude.{◌≡◌, ◌≢◌, ◌⊎◌, ℕ, ◌+◌, ◌<◌, ◌≤◌, List, [], ◌∷◌, length, Result, OnOk, IsErrOf}
use Rattle.std.specs.List.{All}
use Rattle.r10_medium.specs.Disk.{Disk, Image, IsSynced, Rose, block_at}
use Rattle.r10_medium.specs.PowerLoss.{Settled, Leaves, ComesBy, SameBut}
use Rattle.r10_dirblock.specs.Block.{block_bytes}
use Rattle.r10_dirchain.specs.declared.chain.ChainBlock.{ChainBlock}
use Rattle.r10_dirchain.specs.declared.formatting.FormatError.{FormatError}
use Rattle.r10_dirchain.specs.declared.formatting.FormatError.TheVariants as format_errors
use Rattle.r10_dirchain.specs.Chain.{IsDirectory, HoldsBlock, at}

-- the same but in blocks of these numbers
pub record SameButIn (numbers : List ℕ) (old new : Image) : Type 0 where
  pub size : length new ≡ length old
  pub others : (k : ℕ) → All (λ n. k ≢ n) numbers → block_at new k ≡ block_at old k

-- this directory block was put at its number, and nothing else was changed
pub record Put (old : Image) (b : ChainBlock) (new : Image) : Type 0 where
  pub others : SameBut b.number old new
  pub holds : HoldsBlock new b
  pub bytes : block_at new b.number ≡ block_bytes b.block

-- these two blocks were put at their numbers, and nothing else was changed
pub record PutTwo (old : Image) (next linking : ChainBlock) (new : Image) : Type 0 where
  pub others : SameButIn (linking.number ∷ next.number ∷ []) old new
  pub next_holds : HoldsBlock new next
  pub linking_holds : HoldsBlock new linking
  pub next_bytes : block_at new next.number ≡ block_bytes next.block
  pub linking_bytes : block_at new linking.number ≡ block_bytes linking.block

-- where the block has one of these numbers, the medium has it byte for byte as this recorder writes it
abbrev pub IsWrittenByteForByte : List ℕ → Image → ChainBlock → Type 0
IsWrittenByteForByte numbers image b = All (λ n. b.number ≢ n) numbers ⊎ (block_at image b.number ≡ block_bytes b.block)

-- the directory is this chain now, its blocks of these numbers are written anew, and no block of another number is touched
pub record Turned (chain : List ChainBlock) (numbers : List ℕ) (old new : Image) : Type 0 where
  pub directory : IsDirectory new chain
  pub written : All (IsWrittenByteForByte numbers new) chain
  pub others : SameButIn numbers old new

-- A step from one chain to another, which may write some blocks that nothing links to, and then changes the directory at once.
pub record Turns {T E : Type 0} (chain made : List ChainBlock) (unlinked changed : List ℕ) (old new : Disk)
    (result : Result T E) : Type 0 where
  -- a power loss at any moment leaves what it could leave before, but in those blocks, or what was read with the new directory
  pub moments : Leaves (λ image. ComesBy (SameButIn unlinked) old image ⊎ Turned made changed old.blocks image) old new
  -- so where a power loss could leave the old directory alone, it leaves the old or the new one
  pub either : Settled (λ image. IsDirectory image chain) old
      → Leaves (λ image. IsDirectory image chain ⊎ IsDirectory image made) old new
  -- what is read has the old directory or the new one
  pub reads : Turned chain unlinked old.blocks new.blocks ⊎ Turned made changed old.blocks new.blocks
  -- after an Ok a power loss leaves what was read with the new directory
  pub settled : OnOk result (Settled (Turned made changed old.blocks) new)

-- the directory's blocks are those from 1 on, and the next one is in the medium
pub record HasNext (image : Image) (chain : List ChainBlock) : Type 0 where
  pub in_order : (i : ℕ) → i < length chain → (at chain i).number ≡ i + 1
  pub within : length chain + 1 < length image

-- the medium's directory is this one, and the medium is synced: a power loss leaves what is read
pub record IsPublished (chain : List ChainBlock) (disk : Disk) : Type 0 where
  pub directory : IsDirectory disk.blocks chain
  pub synced : IsSynced disk

-- failures don't fall, and a fault of the medium has one as its cause
pub record FormatHasCause {T : Type 0} (old new : Disk) (result : Result T FormatError) : Type 0 where
  pub no_fewer : old.failures ≤ new.failures
  pub cause : IsErrOf result format_errors.Medium → Rose old.failures new.failures
