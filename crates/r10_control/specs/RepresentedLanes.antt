-- Machines whose lanes represent lanes of any kind.
use Rattle.std.specs.Prelude.{◌≡◌, ℕ, ◌≤◌, List, [], ◌∷◌, Option, None, Some, Result, IfErr, MatchOption, MatchResult, slice_get}
use Rattle.std.specs.List.{AllByRecursion}
use Rattle.r10_blockout.specs.Output.{first_of}
use Rattle.r10_body.specs.declared.entry.Sample.{Sample}
use Rattle.r10_body.specs.declared.refusal.Refusal.{Refusal}
use Rattle.r10_body.specs.declared.refusal.Refusal.TheVariants.{MediumFull}
use Rattle.r10_body.specs.declared.spec.ChannelSpec.{ChannelSpec}
use Rattle.r10_lane.specs.Lanes.{Gives}
use Rattle.r10_machine.specs.Config.{Config}
use Rattle.r10_machine.specs.Machine.{Lane, Machine}
use Rattle.r10_machine.specs.Room.{area_from}
use Rattle.r10_machine.specs.SoundParts.{count_or_0}
use Rattle.r10_refinement.specs.KeptState.{Kept, Work, recording}
use Rattle.r10_refinement.specs.Means.{KeptStandsFor}
use Rattle.r10_medium.specs.Disk.{Image}
use Rattle.r10_mux.specs.declared.fault.Full.TheVariants as lacking
use Rattle.r10_openfile.specs.Pumping.{SampleLacks}
use Rattle.r10_openfile.specs.Stopping.{Part, TookAll, samples_on}
use Rattle.r10_control.specs.Leading.{KeptStepsTaking, none_taken}
use Rattle.r10_control.specs.Taking.{one_part, taken_of}
use Rattle.r10_machine.specs.declared.event.Event.{Event as EventValue}
use Rattle.r10_machine.specs.declared.reply.Reply.{Reply as ReplyValue}
use Rattle.r10_machine.specs.declared.event.Event.TheVariants.{Stop}
use Rattle.r10_machine.specs.declared.mode.Stopped.{Stopped as StoppedValue}
use Rattle.r10_machine.specs.declared.reply.Reply.TheVariants.{Refused, Stopped}

-- ---- lanes

-- of a lane that is quiet, what waits in it; of another, nothing that it has not reached was accepted
abbrev pub IsReachedBy : Option (List Sample) → ℕ → Lane → Type 0
IsReachedBy quiet reached a = MatchOption quiet (count_or_0 a.last ≤ reached) (λ waiting. a.waiting ≡ waiting)

-- lane by lane, the machine's represent these
abbrev pub StandFor : {L : Type 0} → (L → Option (List Sample)) → (L → ℕ) → (L → ChannelSpec) → List L → List Lane → Type 0
StandFor quiet reached spec_of [] [] = Unit {0}
StandFor quiet reached spec_of (x ∷ lanes) (a ∷ machines) = (a.spec ≡ spec_of x) × IsReachedBy (quiet x) (reached x) a
    × StandFor quiet reached spec_of lanes machines
StandFor quiet reached spec_of lanes machines = ⊥

-- what is taken from a lane that isn't quiet leaves one that isn't
abbrev pub StaysShared : {L : Type 0} → (L → List Sample → L → Type 0) → (L → Option (List Sample)) → Type 0
StaysShared {L} took quiet = (a b : L) (samples : List Sample) → took a samples b → quiet a ≡ None → quiet b ≡ None

-- ---- what was taken

-- the count of the last of these samples, or the one before them
abbrev pub last_behind : Option ℕ → List Sample → Option ℕ
last_behind last [] = last
last_behind last (x ∷ xs) = last_behind (Some x.count) xs

-- the machine's lane, where these wait in it and were accepted last; that of a quiet lane as it is
abbrev pub lane_with_taken : Option (List Sample) → List Sample → Lane → Lane
lane_with_taken None samples a = record a { waiting = samples; last = last_behind a.last samples }
lane_with_taken (Some waiting) samples a = a

abbrev pub lanes_with : {L : Type 0} → (L → Option (List Sample)) → (L → ChannelSpec) → List Part → List L → List Lane → List Lane
lanes_with quiet spec_of parts (x ∷ lanes) (a ∷ machines) = lane_with_taken (quiet x) (samples_on (spec_of x).id parts) a
    ∷ lanes_with quiet spec_of parts lanes machines
lanes_with quiet spec_of parts lanes machines = machines

-- a machine with other lanes
abbrev pub machine_with_lanes : List Lane → Machine → Machine
machine_with_lanes lanes m = record m { lanes = lanes }

-- ---- steps

-- With the samples that a call took waiting in its lanes the machine is represented too, and the call is its step. That leads
-- to one that is represented then, and represents the lanes as they are then.
pub record StepsWith {L : Type 0} (took : L → List Sample → L → Type 0) (quiet : L → Option (List Sample)) (reached : L → ℕ)
    (spec_of : L → ChannelSpec)
    (k : Kept) (old : Image) (before : ℕ) (event : EventValue) (reply : ReplyValue) (later : Kept) (new : Image) (now : ℕ)
    (lanes lanes' : List L) (m : Machine) : Type 0 where
  pub parts : List Part
  pub taken : TookAll took spec_of parts lanes lanes'
  pub means : KeptStandsFor k old before (machine_with_lanes (lanes_with quiet spec_of parts lanes m.lanes) m)
  pub leads : KeptStepsTaking (taken_of parts) k (machine_with_lanes (lanes_with quiet spec_of parts lanes m.lanes) m) event reply
      later new now
  pub stands : StandFor quiet reached spec_of lanes' leads.machine.lanes

-- such an answer is a step so, from each machine that is represented and represents the lanes
abbrev pub StepsAlike : {L T : Type 0} → (L → List Sample → L → Type 0) → (L → Option (List Sample)) → (L → ℕ) → (L → ChannelSpec)
    → (Result T Refusal → Type 0) → Kept → Image → ℕ → EventValue → (T → ReplyValue) → Result T Refusal
    → Kept → Image → ℕ → List L → List L → Type 0
StepsAlike took quiet reached spec_of bare k old before event reply result later new now lanes lanes' =
    bare result → StaysShared took quiet → (m : Machine) → KeptStandsFor k old before m
    → StandFor quiet reached spec_of lanes m.lanes
    → MatchResult result (λ v. StepsWith took quiet reached spec_of k old before event (reply v) later new now lanes lanes' m)
    (λ r. StepsWith took quiet reached spec_of k old before event (Refused r) later new now lanes lanes' m)

-- ---- whatever else waits

-- nothing is known of what waits in a lane
abbrev pub unknown : {L : Type 0} → L → Option (List Sample)
unknown lane = None

-- as many taken, and none left
abbrev pub none_left : StoppedValue → StoppedValue
none_left said = record said { left = 0 }

-- A stop is a step from each machine that is represented and has accepted nothing that the lanes have not reached, once what
-- was taken, and nothing else, waits in its lanes: as many were taken, and none is left.
abbrev pub StopsAlone : {L : Type 0} → (L → List Sample → L → Type 0) → (L → ℕ) → (L → ChannelSpec) → Kept → Image → ℕ
    → Result StoppedValue Refusal → Kept → Image → ℕ → List L → List L → Type 0
StopsAlone took reached spec_of k old before result later new now lanes lanes' =
    (m : Machine) → KeptStandsFor k old before m → StandFor unknown reached spec_of lanes m.lanes
    → MatchResult result (λ said. StepsWith took unknown reached spec_of k old before Stop
    (Stopped (none_left said)) later new now lanes lanes' m)
    (λ r. StepsWith took unknown reached spec_of k old before Stop (Refused r) later new now lanes lanes' m)

-- ---- a sample that is shown

-- the machine's lanes, where this sample waits in that of a channel and was accepted last; that of a quiet lane as it is
abbrev pub lanes_showing : {L : Type 0} → (L → Option (List Sample)) → (L → ChannelSpec) → ℕ → Sample → List L → List Lane
    → List Lane
lanes_showing quiet spec_of channel first lanes machines =
    lanes_with quiet spec_of (one_part channel (first ∷ []) [] ∷ []) lanes machines

-- the channel's lane, where it isn't quiet, may give this sample next: it passes the channel's check, and its count isn't
-- below what the lane has reached. That is what the lane's next `take` says of it.
abbrev pub MayGive : {L : Type 0} → (L → Option (List Sample)) → (L → ℕ) → (L → ChannelSpec) → ℕ → Sample → List L → Type 0
MayGive quiet reached spec_of channel first lanes = AllByRecursion
    (λ lane. (spec_of lane).id ≡ channel → quiet lane ≡ None → Gives (spec_of lane) (reached lane) (first ∷ []) first.count) lanes

-- With the sample waiting first in the channel's lane the machine is represented too, and a call that is refused so is its
-- step. The machine without the sample is represented after it, and represents the lanes then.
pub record StepsShowing {L : Type 0} (quiet : L → Option (List Sample)) (reached : L → ℕ) (spec_of : L → ChannelSpec)
    (k : Kept) (old : Image) (before : ℕ) (channel : ℕ) (first : Sample) (event : EventValue) (r : Refusal) (later : Kept)
    (new : Image) (now : ℕ) (lanes lanes' : List L) (m : Machine) : Type 0 where
  pub means : KeptStandsFor k old before (machine_with_lanes (lanes_showing quiet spec_of channel first lanes m.lanes) m)
  pub waits : AllByRecursion (λ (a : Lane). a.spec.id ≡ channel → slice_get a.waiting 0 ≡ Some first)
      (lanes_showing quiet spec_of channel first lanes m.lanes)
  pub leads : KeptStepsTaking none_taken k (machine_with_lanes (lanes_showing quiet spec_of channel first lanes m.lanes) m) event
      (Refused r) later new now
  pub stays : KeptStandsFor later new now m
  pub stands : StandFor quiet reached spec_of lanes' m.lanes

-- this sample has no room in the file that is recorded
abbrev pub LacksShown : ℕ → Sample → Config → Work → Type 0
LacksShown channel first s (recording chain o) = SampleLacks o.recording channel
    (area_from s (first_of o.recording.out.blocks)) lacking.Medium first
LacksShown channel first s work = ⊥

-- The channel's lane shows a sample, which is the one that it gives next, and which has no room; and where the lane may give
-- that, the call is a step so, from each machine that is represented and represents the lanes.
pub record RefusesShown {L : Type 0} (took : L → List Sample → L → Type 0) (shows : L → Sample → Type 0)
    (quiet : L → Option (List Sample)) (reached : L → ℕ) (spec_of : L → ChannelSpec)
    (k : Kept) (old : Image) (before : ℕ) (channel : ℕ) (event : EventValue) (r : Refusal) (later : Kept) (new : Image) (now : ℕ)
    (lanes lanes' : List L) : Type 0 where
  pub first : Sample
  pub shown : AllByRecursion (λ lane. (spec_of lane).id ≡ channel → shows lane first) lanes'
  pub lacks : LacksShown channel first later.config later.work
  pub steps : StaysShared took quiet → MayGive quiet reached spec_of channel first lanes → (m : Machine)
      → KeptStandsFor k old before m → StandFor quiet reached spec_of lanes m.lanes
      → StepsShowing quiet reached spec_of k old before channel first event r later new now lanes lanes' m

-- this, where the refusal is for want of room
abbrev pub WhereNoRoom : Refusal → Type 0 → Type 0
WhereNoRoom MediumFull P = P
WhereNoRoom r P = Unit {0}

-- a pump that has no room for the first sample of a channel is refused so
abbrev pub PumpShows : {L : Type 0} → (L → List Sample → L → Type 0) → (L → Sample → Type 0) → (L → Option (List Sample)) → (L → ℕ)
    → (L → ChannelSpec) → ℕ → EventValue → Kept → Image → ℕ → Result ℕ Refusal → Kept → Image → ℕ → List L → List L → Type 0
PumpShows took shows quiet reached spec_of channel event k old before result later new now lanes lanes' =
    IfErr result
    (λ r. WhereNoRoom r (RefusesShown took shows quiet reached spec_of k old before channel event r later new now lanes lanes'))
