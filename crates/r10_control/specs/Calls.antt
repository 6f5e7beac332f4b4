-- What a call of the recorder is: one record, by its event, the recorder before and after it, and its answer.
use Rattle.std.specs.Prelude.{◌≡◌, ℕ, ◌<◌, List, [], ◌∷◌, length, max, slice_get, take, Option, None, Some}
use Rattle.std.specs.Prelude.{Result, IfErr, IfOk, OnErr, OnOk, MatchResult}
use Rattle.std.specs.Option.{option_and_then}
use Rattle.r10_body.specs.Files.{on_channel}
use Rattle.r10_body.specs.Packets.{Packet, file_entries}
use Rattle.r10_body.specs.declared.entry.Sample.{Sample}
use Rattle.r10_body.specs.declared.refusal.Refusal.{Refusal}
use Rattle.r10_body.specs.declared.refusal.Refusal.TheVariants as refusals
use Rattle.r10_body.specs.declared.spec.ChannelSpec.{ChannelSpec}
use Rattle.r10_control.specs.Checks.{advancing_checks, counting_checks, erasing_checks, finding_checks, idling_checks}
use Rattle.r10_control.specs.Checks.{listing_checks, mounting_checks}
use Rattle.r10_control.specs.Checks.{no_checks, noting_checks, opening_checks, pumping_checks, recorder_refusal, running_checks}
use Rattle.r10_control.specs.Checks.{sealing_checks, starting_checks, ticking_checks}
use Rattle.r10_control.specs.Effects.{CommitEffect, DismountEffect, EraseEffect, EventEffect, MountEffect, PumpEffect, StartEffect}
use Rattle.r10_control.specs.Effects.{StopEffect, TickEffect}
use Rattle.r10_control.specs.Fronts.{CommitSpares, IdleSpares, MountSpares, RecordedSpares, SealSpares, StartSpares, StopSpares}
use Rattle.r10_control.specs.Lanes.{WaitQuietly}
use Rattle.r10_control.specs.Leading.{CallStepsTaking, KeptStepsTaking, MachinesKeepShown, none_taken}
use Rattle.r10_control.specs.Own.{AreOwn, OwnStay}
use Rattle.r10_control.specs.Reading.{IsReadAt, IsReadFileRefusal, MayOpen, OnlyReads, ShowsAt}
use Rattle.r10_control.specs.Recording.{IsCommitRefusal, IsEntryRefusal}
use Rattle.r10_control.specs.Refused.{IsMountRefusal, RefusesCall, RefusesOpen, nothing_lacks}
use Rattle.r10_control.specs.Safely.{LeavesTaking, StopsSafely}
use Rattle.r10_control.specs.SealRefusals.{IsSealRefusal, IsSealed}
use Rattle.r10_control.specs.RepresentedLanes.{PumpShows, StepsAlike, StopsAlone}
use Rattle.r10_control.specs.Started.{IsStartRefusal}
use Rattle.r10_control.specs.State.{RecorderState}
use Rattle.r10_control.specs.Taking.{CountsMoved, FirstLacks, HadRoom, IsStopped, LeftNone, RefusesReadied, StepsByTaking, TookAll}
use Rattle.r10_control.specs.Taking.{most_of}
use Rattle.r10_control.specs.RecorderStatus.{TellsRecorder, without_lost}
use Rattle.r10_control.specs.declared.status.RecorderStatus.{RecorderStatus}
use Rattle.r10_count.specs.Checks.{first_broken}
use Rattle.r10_count.specs.declared.civil.Parts.{Parts}
use Rattle.r10_cursor.specs.Read.{IsReadTo, TakesNext}
use Rattle.r10_cursor.specs.Replays.{AdvancesReading}
use Rattle.r10_cursor.specs.RepresentedCursors.{fresh_slot}
use Rattle.r10_cursor.specs.declared.cursor.Cursor.{Cursor as CursorValue}
use Rattle.r10_dirchain.specs.Steps.{emptied, with_shutdown}
use Rattle.r10_machine.specs.Checks.{Check, advance_checks, mounted_checks}
use Rattle.r10_machine.specs.EventChecks.{refusal as machine_refusal}
use Rattle.r10_machine.specs.Finding.{count_after, first_from, last_until, status_of, ticks_of}
use Rattle.r10_machine.specs.Limits.{channel_ids}
use Rattle.r10_machine.specs.Machine.{File, Machine, cursor_of, rising}
use Rattle.r10_machine.specs.declared.event.Event.{Event as EventValue}
use Rattle.r10_machine.specs.declared.event.Event.TheVariants as events
use Rattle.r10_machine.specs.declared.mode.Stopped.{Stopped as StoppedValue}
use Rattle.r10_machine.specs.declared.reply.Found.{Found as FoundValue}
use Rattle.r10_machine.specs.declared.reply.Reply.{Reply as ReplyValue}
use Rattle.r10_machine.specs.declared.reply.Reply.TheVariants as replies
use Rattle.r10_refinement.specs.KeptState.{Kept, mode_of}
use Rattle.r10_refinement.specs.PowerLossInCalls.{AnswersSafely, StaysSafe}
use Rattle.r10_refinement.specs.Means.{KeptStandsFor}
use Rattle.r10_medium.specs.Disk.{Disk, Image, IsSynced}

-- ---- a call by its parts

-- Of a call: the event that it is; what it checks, in order; why else it is refused, and what each refusal leaves; what an Ok has
-- done; what the recorder's own files have then; and which blocks stay, at every moment and whatever is answered.
pub record CallForm (M : Type 0) : Type 1 where
  pub event : EventValue
  pub checks : Kept → List Check
  pub refuses : (M → Disk) → Option Refusal → Kept → Kept → M → M → Refusal → Type 0
  pub effect : Kept → Disk → Kept → Disk → Type 0
  pub owns : Result (Unit {0}) Refusal → Kept → Image → Kept → Image → Type 0
  pub spares : Kept → Disk → Disk → Type 0

-- the recorder's own files have no entry then
abbrev pub own_nothing : Result (Unit {0}) Refusal → Kept → Image → Kept → Image → Type 0
own_nothing answer k old later new = MatchResult answer (λ _. AreOwn later new []) (λ _. OwnStay k old later new)

abbrev pub mount_call : {M : Type 0} → CallForm M
mount_call = record {
  event = events.Mount;
  checks = mounting_checks;
  refuses = λ disk first k later old new r. RefusesCall disk first (IsMountRefusal k.config.directory (disk old)) k later old new r;
  effect = MountEffect;
  owns = λ answer. OwnStay;
  spares = λ k old new. MountSpares k.config.directory old new;
}

abbrev pub dismount_call : {M : Type 0} → CallForm M
dismount_call = record {
  event = events.Dismount;
  checks = idling_checks;
  refuses = λ disk first k later old new r. RefusesCall disk first nothing_lacks k later old new r;
  effect = DismountEffect;
  owns = λ answer. OwnStay;
  spares = λ k old new. IdleSpares (with_shutdown 0xFF) k.work old new;
}

abbrev pub erase_call : {M : Type 0} → CallForm M
erase_call = record {
  event = events.Erase;
  checks = erasing_checks;
  refuses = λ disk first k later old new r. RefusesCall disk first nothing_lacks k later old new r;
  effect = EraseEffect;
  owns = own_nothing;
  spares = λ k old new. IdleSpares emptied k.work old new;
}

-- a start of a file of this name, with this setup text
abbrev pub start_call : {M : Type 0} → List ℕ → List ℕ → CallForm M
start_call name setup = record {
  event = events.Start name setup;
  checks = starting_checks name setup;
  refuses = λ disk first k later old new r. RefusesCall disk first (IsStartRefusal k setup) k later old new r;
  effect = StartEffect name setup;
  owns = λ answer. OwnStay;
  spares = StartSpares name;
}

-- a tick puts an entry of 112 bytes into the file that is recorded
abbrev pub tick_call : {M : Type 0} → ℕ → Parts → CallForm M
tick_call count parts = record {
  event = events.Tick count parts;
  checks = ticking_checks count parts;
  refuses = λ disk first k later old new r. RefusesOpen disk first (IsEntryRefusal k.config k.work 112) k later old new r;
  effect = TickEffect (record { count = count; civil = parts });
  owns = λ answer. OwnStay;
  spares = λ k old new. RecordedSpares k.work old new;
}

-- an event puts one of 116
abbrev pub event_call : {M : Type 0} → ℕ → ℕ → CallForm M
event_call number count = record {
  event = events.Event number count;
  checks = noting_checks number count;
  refuses = λ disk first k later old new r. RefusesOpen disk first (IsEntryRefusal k.config k.work 116) k later old new r;
  effect = EventEffect number count;
  owns = λ answer. OwnStay;
  spares = λ k old new. RecordedSpares k.work old new;
}

abbrev pub commit_call : {M : Type 0} → CallForm M
commit_call = record {
  event = events.Commit;
  checks = running_checks;
  refuses = λ disk first k later old new r. RefusesOpen disk first IsCommitRefusal k later old new r;
  effect = CommitEffect;
  owns = λ answer. OwnStay;
  spares = CommitSpares;
}

-- a seal: the last file is closed with its index, which is on the disk, and nothing else that is kept changes
pub record SealEffect (k : Kept) (old : Disk) (later : Kept) (new : Disk) : Type 0 where
  pub sealed : IsSealed k.config old.blocks k.work new.blocks later.work
  pub synced : IsSynced new
  pub rest : later ≡ record k { work = later.work }

abbrev pub seal_call : {M : Type 0} → CallForm M
seal_call = record {
  event = events.Seal;
  checks = sealing_checks;
  refuses = λ disk first k later old new r. RefusesCall disk first (IsSealRefusal k (disk old)) k later old new r;
  effect = SealEffect;
  owns = λ answer. OwnStay;
  spares = λ k old new. SealSpares k.config k.work old new;
}

-- ---- by the event

-- why the call is refused, and what is left; a pump and a stop have their own, below
abbrev pub RefusesBy : {M : Type 0} → (M → Disk) → EventValue → Kept → Kept → M → M → Refusal → Type 0
RefusesBy disk events.Mount k later old new r = mount_call.refuses disk (recorder_refusal k events.Mount) k later old new r
RefusesBy disk (events.Start name setup) k later old new r =
    (start_call name setup).refuses disk (recorder_refusal k (events.Start name setup)) k later old new r
RefusesBy disk events.Seal k later old new r = seal_call.refuses disk (recorder_refusal k events.Seal) k later old new r
RefusesBy disk (events.Tick count parts) k later old new r =
    (tick_call count parts).refuses disk (recorder_refusal k (events.Tick count parts)) k later old new r
RefusesBy disk (events.Event number count) k later old new r =
    (event_call number count).refuses disk (recorder_refusal k (events.Event number count)) k later old new r
RefusesBy disk events.Commit k later old new r = commit_call.refuses disk (recorder_refusal k events.Commit) k later old new r
RefusesBy disk event k later old new r = RefusesCall disk (recorder_refusal k event) nothing_lacks k later old new r

-- what an Ok has done, whatever files the medium has; a call that is not named here changes nothing that is kept
abbrev pub EffectBy : EventValue → Kept → Disk → Kept → Disk → Type 0
EffectBy events.Mount k old later new = MountEffect k old later new
EffectBy events.Dismount k old later new = DismountEffect k old later new
EffectBy events.Erase k old later new = EraseEffect k old later new
EffectBy (events.Start name setup) k old later new = StartEffect name setup k old later new
EffectBy (events.Tick count parts) k old later new = TickEffect (record { count = count; civil = parts }) k old later new
EffectBy (events.Event number count) k old later new = EventEffect number count k old later new
EffectBy (events.Pump channel most) k old later new = PumpEffect k old later new
EffectBy events.Commit k old later new = CommitEffect k old later new
EffectBy events.Stop k old later new = StopEffect k old later new
EffectBy events.Seal k old later new = SealEffect k old later new
EffectBy event k old later new = later ≡ k

-- the recorder's own files have no entry after an erase; any other call adds none of a channel
abbrev pub OwnsBy : {T : Type 0} → EventValue → Result T Refusal → Kept → Image → Kept → Image → Type 0
OwnsBy events.Erase answer k old later new = MatchResult answer (λ _. AreOwn later new []) (λ _. OwnStay k old later new)
OwnsBy event answer k old later new = OwnStay k old later new

-- ---- from the recorder before it to the recorder after it

-- from every machine that is represented, the call is a step to one that is represented then
abbrev pub StepsFrom : {M L T : Type 0} → (M → Disk) → EventValue → (T → ReplyValue) → RecorderState M L → RecorderState M L
    → Result T Refusal → Type 0
StepsFrom disk event reply before after answer =
    CallStepsTaking none_taken before.kept (disk before.medium).blocks (disk before.medium).failures event reply answer
    after.kept (disk after.medium).blocks (disk after.medium).failures

-- ---- a call that takes nothing from lanes

-- A call with this answer.
pub record DoesCall {M L : Type 0} (disk : M → Disk) (call : CallForm M) (before after : RecorderState M L)
    (answer : Result (Unit {0}) Refusal) : Type 0 where
  -- no check refuses an Ok
  pub passed : OnOk answer (first_broken (call.checks before.kept) ≡ None)
  -- a refusal is the first that applies, and leaves what is stated there
  pub refused : IfErr answer (call.refuses disk (first_broken (call.checks before.kept)) before.kept after.kept before.medium
      after.medium)
  -- it is a step of the model
  pub steps : StepsFrom disk call.event (λ _. replies.Done) before after answer
  -- the bytes that files show stay
  pub shown : MachinesKeepShown before.kept (disk before.medium).blocks (disk before.medium).failures (disk after.medium).blocks
  -- a loss of power at any moment of it leaves the files from before it, or those that its step makes
  pub power_loss : MatchResult answer
      (λ _. StaysSafe (λ m. Unit {0}) before.kept call.event replies.Done (disk before.medium) after.kept (disk after.medium))
      (λ r. StaysSafe (λ m. Unit {0}) before.kept call.event (replies.Refused r) (disk before.medium) after.kept
      (disk after.medium))
  -- what an Ok has done
  pub effect : OnOk answer (call.effect before.kept (disk before.medium) after.kept (disk after.medium))
  -- what the recorder's own files have
  pub owned : call.owns answer before.kept (disk before.medium).blocks after.kept (disk after.medium).blocks
  -- which blocks stay, at every moment and whatever is answered
  pub spares : call.spares before.kept (disk before.medium) (disk after.medium)
  -- lanes and settings stay
  pub lanes : after.lanes ≡ before.lanes
  pub config : after.kept.config ≡ before.kept.config

-- ---- the calls that take from lanes, of any kind

-- A pump of a channel, of at most so many samples.
pub record DoesPump {M L : Type 0} (took : L → List Sample → L → Type 0) (next_is : L → Sample → Type 0)
    (quiet : L → Option (List Sample)) (reached : L → ℕ) (spec_of : L → ChannelSpec) (disk : M → Disk)
    (channel most : ℕ) (before after : RecorderState M L) (answer : Result ℕ Refusal) : Type 0 where
  pub passed : OnOk answer (first_broken (pumping_checks channel before.kept) ≡ None)
  pub refused : IfErr answer (RefusesReadied disk (first_broken (pumping_checks channel before.kept))
      (FirstLacks quiet spec_of before.lanes after.kept.config after.kept.work channel most)
      before.kept after.kept before.medium after.medium)
  -- what it took from the lane, and the step that it is with that
  pub takes : StepsByTaking took quiet spec_of (channel ∷ []) (λ _. most) CountsMoved HadRoom
      before.kept (disk before.medium).blocks (disk before.medium).failures (events.Pump channel most) (λ n. replies.Moved n) answer
      after.kept (disk after.medium).blocks (disk after.medium).failures before.lanes after.lanes
  -- over lanes that others fill: when it is a step
  pub stands : StepsAlike took quiet reached spec_of HadRoom
      before.kept (disk before.medium).blocks (disk before.medium).failures (events.Pump channel most) (λ n. replies.Moved n) answer
      after.kept (disk after.medium).blocks (disk after.medium).failures before.lanes after.lanes
  -- refused for room, it shows the sample that lacks it
  pub shows : PumpShows took next_is quiet reached spec_of channel (events.Pump channel most)
      before.kept (disk before.medium).blocks (disk before.medium).failures answer
      after.kept (disk after.medium).blocks (disk after.medium).failures before.lanes after.lanes
  pub shown : MachinesKeepShown before.kept (disk before.medium).blocks (disk before.medium).failures (disk after.medium).blocks
  pub power_loss : AnswersSafely before.kept (disk before.medium) (events.Pump channel most) (λ n. replies.Moved n) answer
      after.kept (disk after.medium)
  pub effect : OnOk answer (PumpEffect before.kept (disk before.medium) after.kept (disk after.medium))
  pub spares : RecordedSpares before.kept.work (disk before.medium) (disk after.medium)
  pub config : after.kept.config ≡ before.kept.config

-- A stop: what waits in all lanes is taken, and the file is closed.
pub record DoesStop {M L : Type 0} (took : L → List Sample → L → Type 0) (quiet : L → Option (List Sample)) (reached : L → ℕ)
    (spec_of : L → ChannelSpec) (disk : M → Disk) (before after : RecorderState M L)
    (answer : Result StoppedValue Refusal) : Type 0 where
  pub passed : OnOk answer (first_broken (running_checks before.kept) ≡ None)
  pub refused : IfErr answer (RefusesReadied disk (first_broken (running_checks before.kept)) nothing_lacks
      before.kept after.kept before.medium after.medium)
  -- what it took from the lanes, and the step that it is with that
  pub takes : StepsByTaking took quiet spec_of (rising (channel_ids before.kept.config.channels))
      (most_of before.kept.config.channels)
      IsStopped LeftNone
      before.kept (disk before.medium).blocks (disk before.medium).failures events.Stop (λ said. replies.Stopped said) answer
      after.kept (disk after.medium).blocks (disk after.medium).failures before.lanes after.lanes
  -- over lanes that others fill: when it is a step, and that it is one with what was taken alone
  pub stands : StepsAlike took quiet reached spec_of LeftNone
      before.kept (disk before.medium).blocks (disk before.medium).failures events.Stop (λ said. replies.Stopped said) answer
      after.kept (disk after.medium).blocks (disk after.medium).failures before.lanes after.lanes
  pub alone : StopsAlone took reached spec_of before.kept (disk before.medium).blocks (disk before.medium).failures answer
      after.kept (disk after.medium).blocks (disk after.medium).failures before.lanes after.lanes
  pub shown : MachinesKeepShown before.kept (disk before.medium).blocks (disk before.medium).failures (disk after.medium).blocks
  -- a loss of power during it, of lanes that are quiet; and whatever else waits in them
  pub power_loss : StopsSafely quiet spec_of before.lanes before.kept (disk before.medium) answer after.kept (disk after.medium)
  pub leaves : LeavesTaking took reached spec_of before.kept (disk before.medium) (disk after.medium) before.lanes after.lanes
  pub effect : OnOk answer (StopEffect before.kept (disk before.medium) after.kept (disk after.medium))
  pub spares : StopSpares before.kept (disk before.medium) (disk after.medium)
  pub config : after.kept.config ≡ before.kept.config

-- ---- the calls that read

-- A call that reads the file of a number, and answers with this reply.
pub record DoesRead {M L T : Type 0} (disk : M → Disk) (event : EventValue) (checks : Kept → List Check) (file : ℕ)
    (reply : T → ReplyValue) (before after : RecorderState M L) (answer : Result T Refusal) : Type 0 where
  pub passed : OnOk answer (first_broken (checks before.kept) ≡ None)
  pub refused : IfErr answer (RefusesCall disk (first_broken (checks before.kept))
      (IsReadFileRefusal before.kept.work (disk before.medium).blocks file) before.kept after.kept before.medium after.medium)
  pub steps : StepsFrom disk event reply before after answer
  -- the file is there, and strict
  pub there : OnOk answer (IsReadAt before.kept.work (disk before.medium).blocks file)
  pub reads : OnlyReads disk before after answer

-- the first entry of a channel from a count on, in the file of a number; and the count there at a civil time
abbrev pub DoesFind : {M L : Type 0} → (M → Disk) → ℕ → ℕ → ℕ → RecorderState M L → RecorderState M L
    → Result (Option FoundValue) Refusal → Type 0
DoesFind disk file channel count before after answer =
    DoesRead disk (events.Find file channel count) (finding_checks file count) file
    (λ found. replies.Found found) before after answer

abbrev pub DoesCountAt : {M L : Type 0} → (M → Disk) → ℕ → Parts → RecorderState M L → RecorderState M L → Result (Option ℕ) Refusal
    → Type 0
DoesCountAt disk file parts before after answer =
    DoesRead disk (events.CountAt file parts) (counting_checks file parts) file (λ count. replies.CountAt count) before after answer

-- whatever packets the medium shows of the file, that is what they have
abbrev pub FindsFirst : {M L : Type 0} → (M → Disk) → ℕ → ℕ → ℕ → RecorderState M L → Result (Option FoundValue) Refusal → Type 0
FindsFirst disk file channel count now answer =
    (packets : List Packet) → ShowsAt now.kept.work (disk now.medium).blocks file packets
    → IfOk answer (λ found. found ≡ first_from count 0 (on_channel channel (file_entries packets)))

abbrev pub TellsCountAt : {M L : Type 0} → (M → Disk) → ℕ → Parts → RecorderState M L → Result (Option ℕ) Refusal → Type 0
TellsCountAt disk file parts now answer =
    (packets : List Packet) → ShowsAt now.kept.work (disk now.medium).blocks file packets
    → IfOk answer (λ count. count ≡ option_and_then (count_after parts) (last_until parts (ticks_of (file_entries packets))))

-- Whether a cursor may be opened on the file of a number for a range of counts, which it answers, whatever its channels.
pub record ChecksFile {M L : Type 0} (disk : M → Disk) (file from to : ℕ) (before after : RecorderState M L)
    (answer : Result (ℕ × ℕ) Refusal) : Type 0 where
  pub passed : OnOk answer (first_broken (opening_checks file from to before.kept) ≡ None)
  pub range : IfOk answer (λ r. (r.0 ≡ from) × (r.1 ≡ to))
  pub refused : IfErr answer (RefusesCall disk (first_broken (opening_checks file from to before.kept))
      (IsReadFileRefusal before.kept.work (disk before.medium).blocks file) before.kept after.kept before.medium after.medium)
  -- of every machine that is represented, a cursor may be opened; or the refusal is a step
  pub steps : (channels : List ℕ) (m : Machine)
      → KeptStandsFor before.kept (disk before.medium).blocks (disk before.medium).failures m
      → MatchResult answer (λ r. MayOpen before.kept (disk before.medium).blocks m file channels from to)
      (λ r. KeptStepsTaking none_taken before.kept m (events.Cursor file channels from to) (replies.Refused r) after.kept
      (disk after.medium).blocks (disk after.medium).failures)
  pub there : OnOk answer (IsReadAt before.kept.work (disk before.medium).blocks file)
  pub reads : OnlyReads disk before after answer

-- The generation of the files, where a medium is mounted.
pub record TellsGeneration {M L : Type 0} (disk : M → Disk) (now : RecorderState M L) (answer : Result ℕ Refusal) : Type 0 where
  pub tested : MatchResult answer (λ n. (n ≡ now.kept.generation)
      × (first_broken (mounted_checks (mode_of now.kept.work)) ≡ None))
      (λ r. first_broken (mounted_checks (mode_of now.kept.work)) ≡ Some r)
  -- of every machine that is represented, it is the machine's; or the refusal is a step
  pub steps : (id : ℕ) (m : Machine) → KeptStandsFor now.kept (disk now.medium).blocks (disk now.medium).failures m
      → MatchResult answer (λ n. m.generation ≡ n)
      (λ r. KeptStepsTaking none_taken now.kept m (events.Advance id) (replies.Refused r) now.kept (disk now.medium).blocks
      (disk now.medium).failures)

-- A cursor is opened on the file of a number, for these channels and counts.
pub record OpensCursor {M L : Type 0} (disk : M → Disk) (file : ℕ) (channels : List ℕ) (from to : ℕ)
    (before after : RecorderState M L) (answer : Result CursorValue Refusal) : Type 0 where
  pub passed : OnOk answer (first_broken (opening_checks file from to before.kept) ≡ None)
  pub opened : IfOk answer (λ c. c ≡ fresh_slot before.kept.generation channels file from to)
  pub refused : IfErr answer (RefusesCall disk (first_broken (opening_checks file from to before.kept))
      (IsReadFileRefusal before.kept.work (disk before.medium).blocks file) before.kept after.kept before.medium after.medium)
  -- of every machine that is represented, a cursor may be opened; or the refusal is a step
  pub steps : (m : Machine) → KeptStandsFor before.kept (disk before.medium).blocks (disk before.medium).failures m
      → MatchResult answer (λ c. MayOpen before.kept (disk before.medium).blocks m file channels from to)
      (λ r. KeptStepsTaking none_taken before.kept m (events.Cursor file channels from to) (replies.Refused r)
      after.kept (disk after.medium).blocks (disk after.medium).failures)
  pub there : OnOk answer (IsReadAt before.kept.work (disk before.medium).blocks file)
  pub reads : OnlyReads disk before after answer

-- A cursor takes its next instalment, of those packets of its file that it may see.
pub record AdvancesFront {M L : Type 0} (seen : List Packet → List Packet) (disk : M → Disk) (before after : RecorderState M L)
    (cursor later : CursorValue) (answer : Result ℕ Refusal) : Type 0 where
  pub passed : OnOk answer (first_broken (advancing_checks (mode_of before.kept.work) before.kept.generation cursor) ≡ None)
  pub refused : IfErr answer
      (RefusesCall disk (first_broken (advancing_checks (mode_of before.kept.work) before.kept.generation cursor))
      (IsReadFileRefusal before.kept.work (disk before.medium).blocks cursor.file) before.kept after.kept before.medium
      after.medium)
  pub advances : (packets : List Packet) → ShowsAt before.kept.work (disk before.medium).blocks cursor.file packets
      → OnOk answer (AdvancesReading cursor.reading later.reading (seen packets))
  pub queued : IfOk answer (λ n. n ≡ length later.reading.queue)
  pub stays : OnErr answer (later ≡ cursor)
  pub place : (later.file ≡ cursor.file) × (later.generation ≡ cursor.generation)
  pub there : OnOk answer (IsReadAt before.kept.work (disk before.medium).blocks cursor.file)
  pub reads : OnlyReads disk before after answer

-- of all that the medium shows; and of the packets before a place alone, or of those that it has covered
abbrev pub AdvancesRecorder : {M L : Type 0} → (M → Disk) → RecorderState M L → RecorderState M L → CursorValue → CursorValue
    → Result ℕ Refusal → Type 0
AdvancesRecorder disk before after cursor later answer = AdvancesFront (λ packets. packets) disk before after cursor later answer

abbrev pub AdvancesUpTo : {M L : Type 0} → ℕ → (M → Disk) → RecorderState M L → RecorderState M L → CursorValue → CursorValue
    → Result ℕ Refusal → Type 0
AdvancesUpTo until disk before after cursor later answer =
    AdvancesFront (λ packets. take (max until cursor.reading.covered) packets) disk before after cursor later answer

-- The next instalment of a cursor that passed the checks: it is of this generation and read to the end.
pub record AdvancesChecked {M L : Type 0} (disk : M → Disk) (before after : RecorderState M L) (was next : CursorValue)
    (answer : Result ℕ Refusal) : Type 0 where
  pub passed : OnOk answer (first_broken (mounted_checks (mode_of before.kept.work)) ≡ None)
  pub refused : IfErr answer (RefusesCall disk (first_broken (mounted_checks (mode_of before.kept.work)))
      (IsReadFileRefusal before.kept.work (disk before.medium).blocks was.file) before.kept after.kept before.medium after.medium)
  -- of every machine that is represented, and whose cursor passed too, no check refuses it; or the refusal is a step
  pub steps : (id : ℕ) (m : Machine) → KeptStandsFor before.kept (disk before.medium).blocks (disk before.medium).failures m
      → was.file < length m.files → first_broken (advance_checks m.generation (cursor_of id m)) ≡ None
      → MatchResult answer (λ n. machine_refusal before.kept.config m (events.Advance id) ≡ None)
      (λ r. KeptStepsTaking none_taken before.kept m (events.Advance id) (replies.Refused r) after.kept (disk after.medium).blocks
      (disk after.medium).failures)
  -- of the machine's file it takes what comes next
  pub takes : (m : Machine) (f : File) (n : ℕ)
      → KeptStandsFor before.kept (disk before.medium).blocks (disk before.medium).failures m
      → slice_get m.files was.file ≡ Some f → IsReadTo (disk before.medium).blocks f was.reading.covered n
      → OnOk answer (TakesNext (disk before.medium).blocks f n was next)
  -- whatever packets the medium shows of the file
  pub advances : (packets : List Packet) → ShowsAt before.kept.work (disk before.medium).blocks was.file packets
      → OnOk answer (AdvancesReading was.reading next.reading packets)
  pub queued : IfOk answer (λ n. n ≡ length next.reading.queue)
  -- where it is refused, the cursor stays
  pub cursor : OnErr answer (next ≡ was)
  pub place : (next.file ≡ was.file) × (next.generation ≡ was.generation)
  pub there : OnOk answer (IsReadAt before.kept.work (disk before.medium).blocks was.file)
  pub reads : OnlyReads disk before after answer

-- A call that reads nothing of the medium and changes nothing, and answers with this reply.
pub record OnlyTells {M L T : Type 0} (disk : M → Disk) (event : EventValue) (checks : Kept → List Check) (reply : T → ReplyValue)
    (now : RecorderState M L) (answer : Result T Refusal) : Type 0 where
  pub passed : OnOk answer (first_broken (checks now.kept) ≡ None)
  pub refused : IfErr answer (RefusesCall disk (first_broken (checks now.kept)) nothing_lacks now.kept now.kept now.medium
      now.medium)
  pub steps : StepsFrom disk event reply now now answer

-- How the recorder is, in any mode; its lanes are looked at, and nothing is taken from them.
pub record TellsStatus {M L : Type 0} (took : L → List Sample → L → Type 0) (quiet : L → Option (List Sample))
    (spec_of : L → ChannelSpec)
    (disk : M → Disk) (before after : RecorderState M L) (answer : Result RecorderStatus Refusal) : Type 0 where
  pub reported : IfOk answer (TellsRecorder quiet spec_of before.kept before.lanes)
  -- where the lanes are quiet, that is what the machine tells
  pub meant : (m : Machine) → KeptStandsFor before.kept (disk before.medium).blocks (disk before.medium).failures m
      → WaitQuietly quiet before.lanes m.lanes → IfOk answer (λ status. status ≡ without_lost (status_of before.kept.config m))
  pub steps : (m : Machine) → KeptStandsFor before.kept (disk before.medium).blocks (disk before.medium).failures m
      → MatchResult answer
      (λ _. KeptStepsTaking none_taken before.kept m events.Status (replies.Status (status_of before.kept.config m))
      after.kept (disk after.medium).blocks (disk after.medium).failures)
      (λ r. KeptStepsTaking none_taken before.kept m events.Status (replies.Refused r)
      after.kept (disk after.medium).blocks (disk after.medium).failures)
  pub refused : IfErr answer (λ r. r ≡ refusals.OutOfMemory)
  pub looked : TookAll took spec_of [] before.lanes after.lanes
  pub kept : after.kept ≡ before.kept
  pub medium : after.medium ≡ before.medium
