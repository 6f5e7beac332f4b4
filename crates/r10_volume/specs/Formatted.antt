-- A medium that was formatted for a recorder.
use Rattle.std.specs.Prelude.{[], ◌∷◌}
use Rattle.r10_dirchain.specs.OnMedium.{Turned}
use Rattle.r10_dirchain.specs.Steps.{formatted}
use Rattle.r10_machine.specs.Config.{Config}
use Rattle.r10_medium.specs.Disk.{Image}
use Rattle.r10_machine.specs.Says.{MediumHas}

-- Block 1 is the directory, properly dismounted, without files, under the settings' volume name, and no other block is touched. A
-- new recorder of these settings finds no files.
pub record IsFormatted (s : Config) (old new : Image) : Type 0 where
  pub turned : Turned (formatted s.volume) (1 ∷ []) old new
  pub has : MediumHas s new []
