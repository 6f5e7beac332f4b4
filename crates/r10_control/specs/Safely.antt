-- What a power loss leaves in the midst of a call that closes the file that is recorded, and after it.
use Rattle.std.specs.Prelude.{◌⊎◌, ℕ, List, Option, Result, MatchResult}
use Rattle.std.specs.List.{AllByRecursion}
use Rattle.r10_body.specs.declared.entry.Sample.{Sample}
use Rattle.r10_body.specs.declared.refusal.Refusal.{Refusal}
use Rattle.r10_body.specs.declared.spec.ChannelSpec.{ChannelSpec}
use Rattle.r10_machine.specs.Config.{Config}
use Rattle.r10_machine.specs.Machine.{Machine}
use Rattle.r10_machine.specs.Says.{MediumSays}
use Rattle.r10_machine.specs.declared.event.Event.TheVariants.{Stop}
use Rattle.r10_machine.specs.declared.mode.Stopped.{Stopped as StoppedValue}
use Rattle.r10_machine.specs.declared.reply.Reply.TheVariants as replies
use Rattle.r10_refinement.specs.KeptState.{Kept}
use Rattle.r10_refinement.specs.Means.{KeptStandsFor}
use Rattle.r10_medium.specs.Disk.{Disk, Image}
use Rattle.r10_medium.specs.PowerLoss.{Leaves}
use Rattle.r10_openfile.specs.Machines.{HasWaiting}
use Rattle.r10_openfile.specs.Stopping.{Part, TellsWaiting, TookAll}
use Rattle.r10_refinement.specs.PowerLossInCalls.{Makes, StaysSafe}
use Rattle.r10_refinement.specs.Safe.{IsSafe}
use Rattle.r10_control.specs.RepresentedLanes.{StandFor, lanes_with, unknown, machine_with_lanes}

-- in the machine's lanes waits what waits in these, as far as they are quiet
abbrev pub WaitsAlike : {L : Type 0} → (L → Option (List Sample)) → (L → ChannelSpec) → List L → Machine → Type 0
WaitsAlike quiet spec_of lanes m = (parts : List Part) → AllByRecursion (TellsWaiting quiet spec_of lanes) parts
    → AllByRecursion (HasWaiting m.lanes) parts

-- by what a stop answers
abbrev pub StopsSafely : {L : Type 0} → (L → Option (List Sample)) → (L → ChannelSpec) → List L → Kept → Disk
    → Result StoppedValue Refusal → Kept → Disk → Type 0
StopsSafely quiet spec_of lanes k old result later new =
    MatchResult result (λ said. StaysSafe (WaitsAlike quiet spec_of lanes) k Stop (replies.Stopped said) old later new)
    (λ r. StaysSafe (WaitsAlike quiet spec_of lanes) k Stop (replies.Refused r) old later new)

-- With what a call took from the lanes waiting in its lanes, the machine's stop makes the files that the image says.
pub record MakesTaking {L : Type 0} (took : L → List Sample → L → Type 0) (spec_of : L → ChannelSpec) (lanes lanes' : List L)
    (s : Config) (m : Machine) (image : Image) : Type 0 where
  pub parts : List Part
  pub taken : TookAll took spec_of parts lanes lanes'
  pub makes : Makes s (machine_with_lanes (lanes_with unknown spec_of parts lanes m.lanes) m) Stop image

-- Whatever else waits in the lanes: from each machine that is represented, has accepted nothing that the lanes have not
-- reached, and whose files were safe, at every moment of the call a power loss leaves these files, or those that its
-- own stop makes with what the call took.
abbrev pub LeavesTaking : {L : Type 0} → (L → List Sample → L → Type 0) → (L → ℕ) → (L → ChannelSpec) → Kept → Disk → Disk → List L
    → List L → Type 0
LeavesTaking took reached spec_of k old new lanes lanes' =
    (m : Machine) → KeptStandsFor k old.blocks old.failures m → StandFor unknown reached spec_of lanes m.lanes
    → IsSafe k.config k.work m.files old
    → Leaves (λ image. MediumSays k.config image m.files ⊎ MakesTaking took spec_of lanes lanes' k.config m image) old new
