-- What a power loss leaves of a recorder's files between two calls.
use Rattle.std.specs.Prelude.{◌≡◌, ◌⊎◌, List, None, IfSome}
use Rattle.std.specs.List.{last_or}
use Rattle.r10_blockout.specs.Blocks.{bytes_from}
use Rattle.r10_machine.specs.Config.{Config}
use Rattle.r10_machine.specs.Machine.{File}
use Rattle.r10_machine.specs.Says.{MediumSays}
use Rattle.r10_refinement.specs.KeptState.{Work, unmounted, idle, recording, failed}
use Rattle.r10_medium.specs.Disk.{Disk, Image, IsSynced}
use Rattle.r10_medium.specs.PowerLoss.{Settled}

-- an image says these files, and of the last of them it has the bytes that another has
pub record SaysLast (s : Config) (files : List File) (shown image : Image) : Type 0 where
  pub says : MediumSays s image files
  pub bytes : IfSome (last_or None files) (λ (f : File). bytes_from image f.first_block f.size ≡ bytes_from shown f.first_block
      f.size)

-- By what the recorder does. Not mounted: a power loss leaves these files. Mounted: it leaves what is read, which says them.
-- Recording: it leaves these files, and of the last the bytes that are read. A recorder that failed is not safe.
abbrev pub IsSafe : Config → Work → List File → Disk → Type 0
IsSafe s unmounted files disk = Settled (λ image. MediumSays s image files) disk
IsSafe s (idle chain) files disk = IsSynced disk × MediumSays s disk.blocks files
IsSafe s (recording chain o) files disk = Settled (SaysLast s files disk.blocks) disk
IsSafe s failed files disk = ⊥

-- so it is, unless the recorder failed
abbrev pub IsSafeOrFailed : Config → Work → List File → Disk → Type 0
IsSafeOrFailed s work files disk = (work ≡ failed) ⊎ IsSafe s work files disk
