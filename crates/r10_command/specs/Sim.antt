-- What `sim` does.
use Rattle.std.specs.Prelude.{◌≡◌, ℕ, List, [], Option, Some}
use Rattle.std.specs.List.{concat, last_or}
use Rattle.std.specs.Io.KnownBytes.{Appends}
use Rattle.toml.specs.Data.{Members}
use Rattle.toml.specs.Parse.{parse_document}
use Rattle.r10_machine.specs.Config.{Config}
use Rattle.r10_machine.specs.Machine.{Machine, fresh}
use Rattle.r10_medium.specs.Disk.{Image}
use Rattle.r10_script.specs.Keys.{HasOnly}
use Rattle.r10_script.specs.Script.{AreScriptSettings, AreSteps, script_keys}
use Rattle.r10_machine.specs.Says.{MediumSays}
use Rattle.r10_machine.specs.Step.{Run}
use Rattle.r10_machine.specs.declared.event.Event.{Event}
use Rattle.r10_machine.specs.declared.reply.Reply.{Reply}
use Rattle.r10_command.specs.Lines.{WritesLines}

-- a text spells a script: these settings, and the steps of these events
abbrev pub IsScript : List ℕ → Config → List Event → Type 0
IsScript text settings events =
    (table : Members) × (parse_document text ≡ Some table) × HasOnly script_keys table × AreScriptSettings table settings
    × AreSteps settings.channels table events

-- The events are a run from a fresh recorder without files, on a medium in memory, which does not fail. The image is what this
-- medium reads as after the last event: the run's last one, and it says the machine's files.
pub record RunsOnFresh (s : Config) (events : List Event) (replies : List Reply) (image : Image) : Type 0 where
  pub images : List Image
  pub end : Machine
  pub run : Run s (fresh s.channels [] 0) events replies images end
  pub unfailed : end.failures ≡ 0
  pub says : MediumSays s image end.files
  pub last : last_or (Some image) images ≡ Some image

-- the events are such a run, and the lines of the replies were written after what the writer held
pub record PlaysScript (s : Config) (events : List Event) (image : Image) (old new : Option (List ℕ)) : Type 0 where
  pub replies : List Reply
  pub ran : RunsOnFresh s events replies image
  pub lines : WritesLines old new 0 replies

-- the text is a script, and was played
abbrev pub Simulates : List ℕ → Option (List ℕ) → Option (List ℕ) → Type 0
Simulates text old new = (settings : Config) × (events : List Event) × (image : Image) × IsScript text settings events
    × PlaysScript settings events image old new

-- the text is a script, and the image of the medium that its steps left was written
abbrev pub WritesLeft : List ℕ → Option (List ℕ) → Option (List ℕ) → Type 0
WritesLeft text old new =
    (settings : Config) × (events : List Event) × (replies : List Reply) × (image : Image) × IsScript text settings events
    × RunsOnFresh settings events replies image × Appends old new (concat image)
