-- What a call takes from lanes.
use Rattle.r10_blockout.specs.Output.{first_of}
use Rattle.std.specs.Prelude.{◌≡◌, ◌⊎◌, ℕ, ◌+◌, ◌-◌, ◌^◌, ◌≤◌, List, [], ◌∷◌, ◌++◌, length, map, min, Option, None, Some, IfErr}
use Rattle.std.specs.Prelude.{IfOk, IsSomeAnd, OnOk, Result, Ok, Err, MatchResult, slice_get}
use Rattle.std.specs.List.{AllByRecursion, sum_by}
use Rattle.r10_control.specs.Own.{OwnGrow}
use Rattle.r10_control.specs.Refused.{IsSameKept}
use Rattle.r10_openfile.specs.Entering.{IsAskedFor}
use Rattle.r10_body.specs.Cost.{entry_cost}
use Rattle.r10_body.specs.declared.entry.Entry.{Entry}
use Rattle.r10_body.specs.declared.entry.Sample.{Sample}
use Rattle.r10_body.specs.declared.refusal.Refusal.{Refusal}
use Rattle.r10_body.specs.declared.refusal.Refusal.TheVariants.{Medium, MediumFull, OutOfMemory}
use Rattle.r10_body.specs.declared.spec.ChannelSpec.{ChannelSpec}
use Rattle.r10_builder.specs.LeftOpen.{LeavesOpen, with_taken}
use Rattle.r10_builder.specs.State.{HasRoomForTwo}
use Rattle.r10_dirblock.specs.declared.entry.Entry.{Entry as DirectoryEntry}
use Rattle.r10_dirchain.specs.declared.chain.ChainBlock.{ChainBlock}
use Rattle.r10_volume.specs.Holding.{HoldsFiles, OpenState}
use Rattle.r10_machine.specs.Config.{Config}
use Rattle.r10_machine.specs.Machine.{File, Machine, with_entries}
use Rattle.r10_machine.specs.Room.{area as area_of, area_from}
use Rattle.r10_machine.specs.declared.mode.Stopped.{Stopped}
use Rattle.r10_refinement.specs.Grown.{AreGrown}
use Rattle.r10_refinement.specs.KeptState.{Kept, Work, recording, failed}
use Rattle.r10_refinement.specs.Means.{KeptStandsFor}
use Rattle.r10_medium.specs.Disk.{Disk, Image, Rose}
use Rattle.r10_mux.specs.Writes.{IsSameFile}
use Rattle.r10_mux.specs.declared.fault.Full.{Full}
use Rattle.r10_mux.specs.declared.fault.Full.TheVariants as lacking
use Rattle.r10_openfile.specs.Carrying.{IsShown}
use Rattle.r10_openfile.specs.Intake.{IsMovedIn}
use Rattle.r10_openfile.specs.Keeping.{MayGoOn}
pub use Rattle.r10_openfile.specs.Machines.{HasWaiting}
use Rattle.r10_packetout.specs.Carries.{Recording}
pub use Rattle.r10_openfile.specs.Pumping.{entries_on}
use Rattle.r10_openfile.specs.Pumping.{Begins, PumpEnds, SampleHasRoom}
pub use Rattle.r10_openfile.specs.Stopping.{Part, TellsWaiting, TookAll, entries_of, most_of, samples_on}
use Rattle.r10_openfile.specs.Stopping.{GoesThrough}
use Rattle.r10_control.specs.Leading.{KeptStepsTaking}
use Rattle.r10_control.specs.PumpFaults.{PumpFault}
use Rattle.r10_control.specs.PumpFaults as pump_faults
use Rattle.r10_machine.specs.Says.{MediumSays}
use Rattle.r10_machine.specs.declared.event.Event.{Event as EventValue}
use Rattle.r10_machine.specs.declared.reply.Reply.{Reply as ReplyValue}
use Rattle.r10_machine.specs.declared.reply.Reply.TheVariants.{Refused}
pub use Rattle.r10_builder.specs.Packing.{entry_on}

-- ---- steps

-- how many samples of a channel these parts have
abbrev pub taken_of : List Part → ℕ → ℕ
taken_of parts channel = length (samples_on channel parts)

abbrev pub one_part : ℕ → List Sample → List Sample → Part
one_part channel samples rest = record { channel = channel; samples = samples; rest = rest; full = None }

-- of a lane that isn't quiet, none is asked to wait after what was taken
abbrev pub NoneBehind : {L : Type 0} → (L → Option (List Sample)) → (L → ChannelSpec) → List L → Part → Type 0
NoneBehind quiet spec_of lanes p = AllByRecursion (λ lane. (spec_of lane).id ≡ p.channel → quiet lane ≡ None → p.rest ≡ []) lanes

-- After a file that took all of this in, channel by channel all went in that may, up to the first sample that has no room
-- there; after that one none did.
pub record WentThrough (most : ℕ → ℕ) (s : Config) (o : OpenState) (parts : List Part) : Type 0 where
  pub file : Recording
  pub cost : file.cost ≡ o.recording.cost + sum_by entry_cost (entries_of parts)
  pub through : GoesThrough most file (area_from s (first_of o.recording.out.blocks)) parts

-- so it is where a file is recorded
abbrev pub GoesInto : (ℕ → ℕ) → Config → Work → List Part → Type 0
GoesInto most s (recording chain o) parts = WentThrough most s o parts
GoesInto most s work parts = ⊥

-- of a file that is recorded then as before, these entries went into the packets of their channels, and no other packet was closed
abbrev pub ClosesFor : List Entry → Work → Work → Type 0
ClosesFor more (recording chain o) (recording made p) = LeavesOpen (with_taken more) o.recording.builders p.recording.builders
ClosesFor more was now = Unit {0}

-- Channel by channel in this order, up to some, a call took these parts from the lanes, no more of a channel than may be; of a
-- lane that is quiet, a part and its rest are all that waited. Where the medium failed while they were taken, nothing is
-- reported of the rests.
-- Where the call succeeds, each channel has its part, and all went in that may, up to the first sample that has no room.
-- No part is more than its lane has room for. Where the answer says that nothing was left, none is asked to wait after what
-- was taken of a lane that isn't quiet.
-- They are counted where the call succeeds, and whatever entries the recorder's own files had, these are after them then. From
-- each machine that is represented, and in whose lanes the parts and their rests wait, what the call answers leads to one that
-- is represented then.
pub record StepsByTaking {L T : Type 0} (took : L → List Sample → L → Type 0) (quiet : L → Option (List Sample))
    (spec_of : L → ChannelSpec) (order : List ℕ) (most : ℕ → ℕ) (says : T → List Part → Type 0) (bare : Result T Refusal → Type 0)
    (k : Kept) (old : Image) (before : ℕ) (event : EventValue) (reply : T → ReplyValue) (result : Result T Refusal) (later : Kept)
    (new : Image) (now : ℕ) (lanes lanes' : List L) : Type 0 where
  pub parts : List Part
  pub known : List Part
  pub reported : (known ≡ parts) ⊎ ((known ≡ []) × (result ≡ Err Medium))
  pub passed : List ℕ
  pub order_is : map (λ (p : Part). p.channel) parts ++ passed ≡ order
  pub whole : OnOk result (passed ≡ [])
  pub through : OnOk result (GoesInto most k.config k.work parts)
  pub within : AllByRecursion (λ (p : Part). length p.samples ≤ most p.channel) parts
  pub few : AllByRecursion (λ (p : Part). length p.samples ≤ most_of (map spec_of lanes) p.channel) parts
  pub taken : TookAll took spec_of parts lanes lanes'
  pub waits : AllByRecursion (TellsWaiting quiet spec_of lanes) known
  pub rests : bare result → AllByRecursion (NoneBehind quiet spec_of lanes) known
  pub tells : IfOk result (λ v. says v parts)
  pub counts : OnOk result (AreGrown (entries_of parts) k.config.channels k.taken later.taken)
  pub none : IfErr result (λ r. (r ≡ Medium) ⊎ AllByRecursion (λ (p : Part). p.samples ≡ []) parts)
  pub closes : OnOk result (ClosesFor (entries_of parts) k.work later.work)
  pub numbers : OnOk result (later ≡ record k { work = later.work; taken = later.taken })
  pub own : OwnGrow k old later new (entries_of parts)
  pub steps : (m : Machine) → KeptStandsFor k old before m → AllByRecursion (HasWaiting m.lanes) known
      → MatchResult result (λ v. KeptStepsTaking (taken_of parts) k m event (reply v) later new now)
      (λ r. KeptStepsTaking (taken_of parts) k m event (Refused r) later new now)

-- so many were moved
abbrev pub CountsMoved : ℕ → List Part → Type 0
CountsMoved n parts = n ≡ length (entries_of parts)

-- so many were taken, and so many are left, up to 2^64 - 1
abbrev pub IsStopped : Stopped → List Part → Type 0
IsStopped said parts = (said.taken ≡ length (entries_of parts))
    × (said.left ≡ min (sum_by (λ (p : Part). length p.rest) parts) (2 ^ 64 - 1))

-- a pump's answer, unless it is that the first that waits has no room
abbrev pub HadRoom : Result ℕ Refusal → Type 0
HadRoom result = IfErr result (λ r. elim r [ MediumFull ↦ ⊥ | _ ↦ Unit {0} ])

-- a stop's answer that none is left, or that the medium didn't fail
abbrev pub LeftNone : Result Stopped Refusal → Type 0
LeftNone result = MatchResult result (λ said. said.left ≡ 0) (λ r. elim r [ Medium ↦ ⊥ | _ ↦ Unit {0} ])

-- ---- the file

-- As a call that asked for memory is refused: the first check that doesn't hold, which leaves all; else what is lacking, which
-- leaves the medium, and what is kept but for the memory of the file; or the medium failed, and the recorder with it.
abbrev pub RefusesReadied : {M : Type 0} → (M → Disk) → Option Refusal → (Refusal → Type 0) → Kept → Kept → M → M → Refusal → Type 0
RefusesReadied disk (Some first) lacks old new medium medium' r = (r ≡ first) × (new ≡ old) × (medium' ≡ medium)
RefusesReadied disk None lacks old new medium medium' Medium = Rose (disk medium).failures (disk medium').failures
    × (new ≡ record old { work = failed })
RefusesReadied disk None lacks old new medium medium' OutOfMemory = IsSameKept old new × (medium' ≡ medium)
RefusesReadied disk None lacks old new medium medium' r = lacks r × IsSameKept old new × (medium' ≡ medium)

-- The file took these entries in, and goes on: it costs no more than there is, where that was so before.
pub record WentOn (area : ℕ) (ends ends' : List Entry → Type 0) (more : List Entry) (old : OpenState) (before : Image)
    (new : OpenState) (after : Image) : Type 0 where
  pub carries : (text : List ℕ) (entries : List Entry) (n : ℕ) → IsShown before old text entries n → ends entries
      → IsShown after new text (entries ++ more) n
  pub follows : (entries : List Entry) → ends entries → ends' (entries ++ more)
  pub file : IsSameFile old.recording new.recording
  pub closes : LeavesOpen (with_taken more) old.recording.builders new.recording.builders
  pub counts : length new.recording.counts ≡ length old.recording.counts
  pub again : AllByRecursion HasRoomForTwo new.recording.builders
  pub cost : old.recording.cost ≤ area → new.recording.cost ≤ area
  pub on : (chain : List ChainBlock) → MayGoOn old before chain → MayGoOn new after chain
  pub holds : (s : Config) (chain : List ChainBlock) (files : List File) (f : File)
      → HoldsFiles s before chain (Some old) (files ++ f ∷ []) → ends f.entries
      → HoldsFiles s after chain (Some new) (files ++ with_entries more f ∷ [])

-- the bytes from a listed file's first block to the medium's end
abbrev pub area_behind : Config → Option DirectoryEntry → ℕ
area_behind s None = 0
area_behind s (Some e) = area_from s e.first_block

-- ---- a pump

-- the first that waits in the channel's lane has no room in the file, where one may be moved; of a lane that is quiet all of
-- this waits
abbrev pub HasNoPlace : {L : Type 0} → (L → Option (List Sample)) → (L → ChannelSpec) → List L → Config → OpenState → ℕ → ℕ → Full
    → Type 0
HasNoPlace quiet spec_of lanes s o channel most lacks =
    (waiting : List Sample) × TellsWaiting quiet spec_of lanes (one_part channel [] waiting)
    × Begins o.recording channel (area_from s (first_of o.recording.out.blocks)) most waiting (Some lacks)

abbrev pub IsForFirst : {L : Type 0} → (L → Option (List Sample)) → (L → ChannelSpec) → List L → Config → OpenState → ℕ → ℕ
    → Refusal → Type 0
IsForFirst quiet spec_of lanes s o channel most MediumFull = HasNoPlace quiet spec_of lanes s o channel most lacking.Medium
IsForFirst quiet spec_of lanes s o channel most r = ⊥

-- so it is refused for want of room, in the file that is recorded
abbrev pub FirstLacks : {L : Type 0} → (L → Option (List Sample)) → (L → ChannelSpec) → List L → Config → Work → ℕ → ℕ → Refusal
    → Type 0
FirstLacks quiet spec_of lanes s (recording chain o) channel most r = IsForFirst quiet spec_of lanes s o channel most r
FirstLacks quiet spec_of lanes s work channel most r = ⊥

-- these samples are moved into the machine's file, whichever it is
abbrev pub MovesAny : (List Entry → Type 0) → ℕ → ℕ → ℕ → ℕ → List Sample → List Sample → Option Full → OpenState → Image
    → OpenState → Type 0
MovesAny ends channel most area n samples rest full old before new =
    (s : Config) (chain : List ChainBlock) (files : List File) (f : File) → HoldsFiles s before chain (Some old) (files ++ f ∷ [])
    → ends f.entries → area ≡ area_of s f → IsMovedIn s f channel most n samples rest full new.recording

-- so many were moved, and where none was, none was asked for or nothing waits; why no more were is reported
pub record MovedSamples (ends ends' : List Entry → Type 0) (channel most area : ℕ) (samples rest : List Sample) (old : OpenState)
    (before : Image) (new : OpenState) (after : Image) (n : ℕ) : Type 0 where
  pub number : n ≡ length samples
  pub on : WentOn area ends ends' (entries_on channel samples) old before new after
  pub full : Option Full
  pub some : n ≡ 0 → full ≡ None
  pub paid : new.recording.cost ≡ old.recording.cost + sum_by entry_cost (entries_on channel samples)
  pub ended : PumpEnds new.recording channel area most n rest full
  pub moves : MovesAny ends channel most area n samples rest full old before new

-- nothing was moved and nothing written, and the file is the same but for its memory
pub record Stayed {M : Type 0} (ends ends' : List Entry → Type 0) (samples : List Sample) (old : OpenState) (medium : M)
    (new : OpenState) (medium' : M) : Type 0 where
  pub none : samples ≡ []
  pub same : medium' ≡ medium
  pub file : IsAskedFor old new
  pub lasts : (entries : List Entry) → ends entries → ends' entries

-- the first that waits has no room; or memory was refused where it has; or the medium failed, after a first one that had room
abbrev pub MovedNone : {M : Type 0} → (M → Disk) → (List Entry → Type 0) → (List Entry → Type 0) → ℕ → ℕ → ℕ → List Sample
    → List Sample → OpenState → M → OpenState → M → PumpFault → Type 0
MovedNone disk ends ends' channel most area samples rest old medium new medium' (pump_faults.Full full) =
    Stayed ends ends' samples old medium new medium' × MovesAny ends channel most area 0 [] rest (Some full) old
    (disk medium).blocks new × Begins new.recording channel area most rest (Some full)
MovedNone disk ends ends' channel most area samples rest old medium new medium' pump_faults.Memory =
    Stayed ends ends' samples old medium new medium' × Begins old.recording channel area most rest None
MovedNone disk ends ends' channel most area samples rest old medium new medium' pump_faults.Medium =
    Rose (disk medium).failures (disk medium').failures × IsSomeAnd (slice_get samples 0) (SampleHasRoom old.recording channel area)
    × ((s : Config) (chain : List ChainBlock) (files : List File) (f : File)
    → HoldsFiles s (disk medium).blocks chain (Some old) (files ++ f ∷ []) → ends f.entries
    → MediumSays s (disk medium').blocks (files ++ f ∷ []))

-- this, unless the first has no room
abbrev pub UnlessFull : Result ℕ PumpFault → Type 0 → Type 0
UnlessFull result P = IfErr result (λ fault. elim fault [ pump_faults.Full full ↦ Unit {0} | _ ↦ P ]) × IfOk result (λ n. P)

-- this, where the first has no room
abbrev pub WherePumpFull : Result ℕ PumpFault → Type 0 → Type 0
WherePumpFull result P = IfErr result (λ fault. elim fault [ pump_faults.Full full ↦ P | _ ↦ Unit {0} ])

-- a lane shows this sample, the first of what waits, and of a lane that isn't quiet all that is reported
pub record ShowsFirst (shows : Sample → Type 0) (single : Sample → List Sample → Type 0) (rest : List Sample) : Type 0 where
  pub first : Sample
  pub shown : shows first
  pub front : slice_get rest 0 ≡ Some first
  pub alone : single first rest

-- From the lane of a channel these samples were taken, at most so many and no more than it has room for, and the rest waits
-- after them, which is bare unless the first has no room: that one is shown then.
pub record PumpedLane {M : Type 0} (took : List Sample → Type 0) (left : List Sample → List Sample → Type 0)
    (bare : List Sample → Type 0) (showing : List Sample → Type 0) (ends ends' : List Entry → Type 0) (disk : M → Disk)
    (channel capacity most area : ℕ)
    (old : OpenState) (medium : M) (new : OpenState) (medium' : M) (result : Result ℕ PumpFault) : Type 0 where
  pub samples : List Sample
  pub rest : List Sample
  pub gave : took samples
  pub waits : left samples rest
  pub within : length samples ≤ most
  pub few : length samples ≤ capacity
  pub alone : UnlessFull result (bare rest)
  pub shown : WherePumpFull result (showing rest)
  pub moved : MatchResult result (MovedSamples ends ends' channel most area samples rest old (disk medium).blocks new
      (disk medium').blocks) (MovedNone disk ends ends' channel most area samples rest old medium new medium')
