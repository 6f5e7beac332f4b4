-- What a power loss leaves of a medium's files.
use Rattle.std.specs.Prelude.{List}
use Rattle.r10_machine.specs.Config.{Config}
use Rattle.r10_machine.specs.Machine.{File}
use Rattle.r10_medium.specs.Disk.{Disk, Image}
use Rattle.r10_medium.specs.PowerLoss.{Settled}
use Rattle.r10_machine.specs.Bytes.{KeepBytes}
use Rattle.r10_machine.specs.Says.{MediumSays}

-- an image says these files, and has the bytes of them that are read
pub record SaysAs (s : Config) (files : List File) (read image : Image) : Type 0 where
  pub says : MediumSays s image files
  pub bytes : KeepBytes read image files

-- a power loss now leaves these files as they are read
abbrev pub IsSettled : Config → List File → Disk → Type 0
IsSettled s files disk = Settled (SaysAs s files disk.blocks) disk
