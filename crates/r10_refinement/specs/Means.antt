-- Which machines a recorder represents.
use Rattle.std.specs.Prelude.{◌≡◌, ◌⊎◌, ℕ, ◌+◌, true, false, List, [], ◌∷◌, ◌++◌, Option, None, Some, length, map, replicate}
use Rattle.r10_medium.specs.Disk.{Image}
use Rattle.r10_body.specs.declared.spec.ChannelSpec.{ChannelSpec}
pub use Rattle.r10_volume.specs.Holding.{OthersAreFound}
use Rattle.r10_volume.specs.Holding.{HoldsFiles}
use Rattle.r10_machine.specs.Config.{Config}
use Rattle.r10_machine.specs.Machine.{File, Lane, Machine, saturated}
use Rattle.r10_machine.specs.ControlCalls.{own_entries}
use Rattle.r10_machine.specs.Says.{MediumSays}
use Rattle.r10_machine.specs.Sound.{IsSound}
use Rattle.r10_machine.specs.Step.{Step}
use Rattle.r10_machine.specs.declared.event.Event.{Event as EventValue}
use Rattle.r10_machine.specs.declared.reply.Reply.{Reply as ReplyValue}
use Rattle.r10_refinement.specs.KeptState.{Kept, Work, mode_of, unmounted, idle, recording, failed}

-- the files are those that the medium says; of one in use, by its directory, with the file that is written
abbrev pub HasFiles : Config → Work → Image → List File → Type 0
HasFiles s unmounted image files = MediumSays s image files × OthersAreFound image files
HasFiles s (idle chain) image files = HoldsFiles s image chain None files
HasFiles s (recording chain file) image files = HoldsFiles s image chain (Some file) files
HasFiles s failed image files = MediumSays s image files

-- a channel's lane: of its entries so many were taken in, and erases took so many
pub record LaneIsCounted (files : List File) (spec : ChannelSpec) (taken erased : ℕ) (lane : Lane) : Type 0 where
  pub spec_is : lane.spec ≡ spec
  pub erased_is : lane.erased ≡ erased
  pub taken_is : taken ≡ saturated (erased + length (own_entries spec.id files))

abbrev pub LanesAreCounted : List File → List ChannelSpec → List ℕ → List ℕ → List Lane → Type 0
LanesAreCounted files [] [] [] [] = Unit {0}
LanesAreCounted files (spec ∷ specs) (t ∷ taken) (e ∷ erased) (lane ∷ lanes) = LaneIsCounted files spec t e lane
    × LanesAreCounted files specs taken erased lanes
LanesAreCounted files specs taken erased lanes = ⊥

-- of the files the first, so many, were found, and all after them are the recorder's own
pub record OwnFollow (found : Option ℕ) (files : List File) : Type 0 where
  pub number : ℕ
  pub own : ℕ
  pub found_is : found ≡ Some number
  pub flags : map (λ (f : File). f.own) files ≡ replicate number false ++ replicate own true

-- so it is from the first mount on; before it none is the recorder's own
abbrev pub OwnFilesAre : Work → Option ℕ → List File → Type 0
OwnFilesAre unmounted found files = ((found ≡ None) × (map (λ (f : File). f.own) files ≡ replicate (length files) false))
    ⊎ OwnFollow found files
OwnFilesAre (idle chain) found files = OwnFollow found files
OwnFilesAre (recording chain file) found files = OwnFollow found files
OwnFilesAre failed found files = Unit {0}

-- the numbers are the machine's; of a recorder that failed they are given to nobody
abbrev pub NumbersAre : Kept → Machine → Type 0
NumbersAre k m = elim k.work [
  | failed ↦ Unit {0}
  | _ ↦ (m.last_event ≡ k.last_event) × (m.generation ≡ k.generation)
      × LanesAreCounted m.files k.config.channels k.taken k.erased m.lanes × OwnFilesAre k.work k.found m.files
]

-- what is kept, over a medium that reads as an image and has failed so often, represents this machine, whatever waits in its lanes
pub record KeptStandsFor (k : Kept) (image : Image) (failures : ℕ) (m : Machine) : Type 0 where
  pub mode : m.mode ≡ mode_of k.work
  pub tick : m.tick ≡ k.tick
  pub counted : m.failures ≡ failures
  pub files : HasFiles k.config k.work image m.files
  pub numbers : NumbersAre k m
  pub sound : IsSound k.config m

-- the step leads to this machine, which is represented then
pub record KeptStepsTo (k : Kept) (m : Machine) (event : EventValue) (reply : ReplyValue) (later : Kept) (image : Image)
    (failures : ℕ) (machine : Machine) : Type 0 where
  pub step : Step k.config m event reply machine
  pub means : KeptStandsFor later image failures machine
