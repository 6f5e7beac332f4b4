-- What becomes of the files that a medium says where a recorder takes it into use.
use Rattle.std.specs.Prelude.{◌≡◌, List, Result, None, OnOk, MatchResult, ℕ}
use Rattle.r10_dirchain.specs.Bad.{IsNoFault}
use Rattle.r10_dirchain.specs.declared.chain.Directory.{Directory}
use Rattle.r10_dirchain.specs.declared.read.ChainError.{ChainError}
use Rattle.r10_machine.specs.Bytes.{KeepBytes}
use Rattle.r10_machine.specs.Config.{Config}
use Rattle.r10_machine.specs.Machine.{File}
use Rattle.r10_machine.specs.Says.{MediumSays}
use Rattle.r10_medium.specs.Disk.{Disk}
use Rattle.r10_medium.specs.PowerLoss.{Leaves, Settled}
use Rattle.r10_volume.specs.Holding.{HoldsFiles, OthersAreFound}
use Rattle.r10_volume.specs.Settling.{IsSettled}

-- A recorder of its settings holds the files, and no directory is at fault. They stay stated, with their bytes; where a power loss
-- left them before, it leaves them at every moment since, and after an Ok it does.
pub record MountsFiles (reserved : ℕ) (old new : Disk) (result : Result Directory ChainError) : Type 0 where
  pub holds : (s : Config) (files : List File) → MediumSays s old.blocks files → OthersAreFound old.blocks files
      → reserved ≡ s.directory
      → MatchResult result (λ (directory : Directory). HoldsFiles s new.blocks directory None files) IsNoFault
  pub says : (s : Config) (files : List File) → MediumSays s old.blocks files → MediumSays s new.blocks files
  pub bytes : (s : Config) (files : List File) → MediumSays s old.blocks files → KeepBytes old.blocks new.blocks files
  pub moments : (s : Config) (files : List File) → Settled (λ image. MediumSays s image files) old
      → Leaves (λ image. MediumSays s image files) old new
  pub settled : (s : Config) (files : List File) → MediumSays s old.blocks files → OnOk result (IsSettled s files new)
