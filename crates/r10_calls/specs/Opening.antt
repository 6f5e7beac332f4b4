-- What a formatted medium and a new recorder are, by the text of a script.
use Rattle.std.specs.Prelude.{◌≡◌, ◌≢◌, ℕ, List, [], Some}
use Rattle.toml.specs.Data.{Members}
use Rattle.toml.specs.Parse.{parse_document}
use Rattle.r10_machine.specs.Config.{Config}
use Rattle.r10_machine.specs.Machine.{File, fresh}
use Rattle.r10_machine.specs.Says.{MediumHas, MediumSays}
use Rattle.r10_medium.specs.Disk.{Disk, Image, IsSynced}
use Rattle.r10_medium.specs.PowerLoss.{Settled}
use Rattle.r10_volume.specs.Formatted.{IsFormatted}
use Rattle.r10_script.specs.Keys.{HasOnly}
use Rattle.r10_script.specs.Script.{AreScriptSettings, script_keys}
use Rattle.r10_refinement.specs.Safe.{IsSafe}
use Rattle.r10_world.specs.State.{WorldState}
use Rattle.r10_world.specs.PowerLoss.{Recovers}
use Rattle.r10_world.specs.WorldSteps.{WorldStandsFor}

-- the text is a script with these settings
abbrev pub IsSettings : List ℕ → Config → Type 0
IsSettings text s = (table : Members) × (parse_document text ≡ Some table) × HasOnly script_keys table × AreScriptSettings table s

-- the text is a script whose medium has another number of blocks
abbrev pub HasOtherBlocks : List ℕ → ℕ → Type 0
HasOtherBlocks text blocks = (s : Config) × IsSettings text s × (blocks ≢ s.blocks)

-- a new recorder of the script's settings finds no files on it, and it is synced
abbrev pub FormatsByScript : List ℕ → Disk → Type 0
FormatsByScript text disk = (s : Config) × IsSettings text s × MediumHas s disk.blocks [] × IsSynced disk

-- what a power loss leaves of it is what it read before, formatted by the script's settings
abbrev pub FormatsOver : List ℕ → Image → Disk → Type 0
FormatsOver text old disk = (s : Config) × IsSettings text s × Settled (IsFormatted s old) disk

-- A recorder of the script's settings over the medium, and no readers. Over a medium that has files it represents a machine that
-- has them; over what a power loss left of one that stated files it finds these again, and they are safe.
pub record OpensRecorder {M : Type 0} (disk : M → Disk) (text : List ℕ) (medium : M) (w : WorldState M) : Type 0 where
  pub settings : IsSettings text w.recorder.kept.config
  pub holds : w.recorder.medium ≡ medium
  pub stands : (files : List File) → MediumHas w.recorder.kept.config (disk medium).blocks files
      → WorldStandsFor disk w (fresh w.recorder.kept.config.channels files (disk medium).failures)
  pub recovers : (files : List File) → MediumSays w.recorder.kept.config (disk medium).blocks files
      → Recovers disk w.recorder.kept.config (disk medium) files w
  pub safe : (files : List File) → Settled (λ image. MediumSays w.recorder.kept.config image files) (disk medium)
      → IsSafe w.recorder.kept.config w.recorder.kept.work files (disk w.recorder.medium)
