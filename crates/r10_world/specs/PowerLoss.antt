-- What a power loss leaves at events, and over runs.
use Rattle.std.specs.Prelude.{◌≡◌, ◌⊎◌, ℕ, ◌≤◌, true, false, List, [], Option, IsSome, zip}
use Rattle.std.specs.List.{list_any}
use Rattle.r10_account.specs.Accepted.{accepted_entries}
use Rattle.r10_account.specs.Account.{IsAccount}
use Rattle.r10_account.specs.FilesOfOthers.{AreStillFirst, may_erase}
use Rattle.r10_body.specs.Channels.{spec_of}
use Rattle.r10_body.specs.declared.refusal.Refusal.{Refusal}
use Rattle.r10_body.specs.declared.refusal.Refusal.TheVariants.{Medium, OutOfMemory}
use Rattle.r10_control.specs.Lanes.{AreLanes}
use Rattle.r10_control.specs.State.{RecorderState}
use Rattle.r10_cursor.specs.declared.cursor.Cursor.{Cursor}
use Rattle.r10_machine.specs.Machine.{File, Lane, Machine, fresh}
use Rattle.r10_machine.specs.Config.{Config}
use Rattle.r10_machine.specs.Says.{MediumHas, MediumSays}
use Rattle.r10_machine.specs.Checks.{is_working}
use Rattle.r10_machine.specs.declared.mode.Mode.{Mode}
use Rattle.r10_machine.specs.declared.mode.Mode.TheVariants as modes
use Rattle.r10_machine.specs.Step.{Run}
use Rattle.r10_machine.specs.declared.event.Event.{Event as EventValue}
use Rattle.r10_machine.specs.declared.reply.Reply.{Reply as ReplyValue}
use Rattle.r10_refinement.specs.KeptState.{Kept, failed}
use Rattle.r10_medium.specs.Disk.{Disk, Image, IsSynced, MayLeave, Rose, Unchanged}
use Rattle.r10_medium.specs.PowerLoss.{Leaves, Settled}
use Rattle.r10_refinement.specs.Again.{AreAgain, FindsAgain}
use Rattle.r10_refinement.specs.PowerLossInCalls.{IsLeft, StaysSafe}
use Rattle.r10_refinement.specs.Safe.{IsSafe, IsSafeOrFailed, SaysLast}
use Rattle.r10_volume.specs.Formatted.{IsFormatted}
use Rattle.r10_world.specs.RepresentedParts.{PartsRunTo}
use Rattle.r10_world.specs.State.{WorldState}
use Rattle.r10_world.specs.WorldSteps.{WorldStandsFor}

-- an event with its reply: safe files stay safe, and a recorder that failed changes nothing any more
pub record Survives {M : Type 0} (disk : M → Disk) (old : RecorderState M Lane) (event : EventValue) (reply : ReplyValue)
    (new : RecorderState M Lane) : Type 0 where
  pub safe : StaysSafe (AreLanes old.lanes) old.kept event reply (disk old.medium) new.kept (disk new.medium)
  pub failed : old.kept.work ≡ failed → Unchanged (disk old.medium) (disk new.medium) × (new.kept.work ≡ failed)

-- The replies are a run. Where the files were safe before it, a power loss at any moment of it left the files of a state of the
-- run, or those that the next event makes of them; and after the last event the files of the machine that it ends with are safe,
-- unless the recorder failed.
pub record RanSafely (k : Kept) (m : Machine) (events : List EventValue) (replies : List ReplyValue) (later : Kept) (old new : Disk)
    (lanes : List Lane) (slots : List (Option Cursor)) : Type 0 where
  pub ran : PartsRunTo k m events replies later new.blocks new.failures lanes slots
  pub left : IsSafe k.config k.work m.files old → Leaves (IsLeft k.config m events replies) old new
  pub held : IsSafe k.config k.work m.files old → IsSafeOrFailed later.config later.work ran.machine.files new

-- from each machine for which a world stands
abbrev pub RunsSafely : {M : Type 0} → (M → Disk) → WorldState M → List EventValue → List ReplyValue → WorldState M → Type 0
RunsSafely disk old events replies new =
    (m : Machine) → WorldStandsFor disk old m
    → RanSafely old.recorder.kept m events replies new.recorder.kept (disk old.recorder.medium)
    (disk new.recorder.medium) new.recorder.lanes new.slots

-- a new world represents a new machine with the files that it finds again, which are safe where a power loss leaves the files
pub record Recovers {M : Type 0} (disk : M → Disk) (s : Config) (old : Disk) (files : List File) (w : WorldState M) : Type 0 where
  pub finds : FindsAgain s old.blocks files
  pub stands : WorldStandsFor disk w (fresh s.channels finds.again old.failures)
  pub safe : Settled (λ image. MediumSays s image files) old → IsSafe w.recorder.kept.config w.recorder.kept.work finds.again
      (disk w.recorder.medium)

-- ---- a whole recording, with no word of a recorder

-- What a power loss after the run leaves, by the mode. Unmounted: an image that says these files. Idle: exactly what is read,
-- which says them. Recording: an image that says them, with the last file's bytes as they are read. Failed: nothing is stated.
abbrev pub IsSafeIn : Config → Mode → List File → Disk → Type 0
IsSafeIn s modes.Unmounted files disk = Settled (λ image. MediumSays s image files) disk
IsSafeIn s modes.Idle files disk = IsSynced disk × MediumSays s disk.blocks files
IsSafeIn s modes.Recording files disk = Settled (SaysLast s files disk.blocks) disk
IsSafeIn s modes.Failed files disk = Unit {0}

-- These events with these replies, over a medium that stated these files.
pub record RecordsRun (s : Config) (files : List File) (events : List EventValue) (replies : List ReplyValue)
    (old new : Disk) : Type 0 where
  -- the files as they are found again, with what the medium showed of each
  pub again : List File
  pub has : MediumHas s old.blocks again
  pub same : AreAgain files again
  -- the replies are a run of the model from a fresh machine with these files
  pub images : List Image
  pub machine : Machine
  pub run : Run s (fresh s.channels again old.failures) events replies images machine
  -- the medium says the files that the run ends with
  pub says : MediumSays s new.blocks machine.files
  -- it has failed as often as the run says
  pub failures : machine.failures ≡ new.failures
  -- On each channel the accepted messages, in their order and each with the number of those that were lost before it, are those
  -- that erases took, those in the files that the run began, and those that wait, each once. In a file are also those that the
  -- medium does not show yet. Where the recorder is Failed, what was erased and what is shown stand first, what waits stands last,
  -- and others may be lost.
  pub accounts : (channel : ℕ) → IsSome (spec_of s.channels channel)
      → IsAccount channel machine (accepted_entries channel 0 events replies)
  -- while nothing is erased, the files that were found stay the first, with what they show
  pub found : list_any may_erase (zip events replies) ≡ false → AreStillFirst again machine.files
  -- Where a power loss left the files before: at any moment it leaves those of a state of the run, or those that the next event
  -- makes of them.
  pub left : Settled (λ image. MediumSays s image files) old
      → Leaves (IsLeft s (fresh s.channels again old.failures) events replies) old new
  -- where it left the files before, it now leaves the files that the run ends with, unless the recorder is Failed then
  pub settled : Settled (λ image. MediumSays s image files) old → is_working machine.mode ≡ true
      → Settled (λ image. MediumSays s image machine.files) new
  -- and by the mode it leaves what is read, or of the last file the bytes that are read
  pub durable : Settled (λ image. MediumSays s image files) old → IsSafeIn s machine.mode machine.files new

-- ---- a whole recording on a medium that was formatted for it

-- at a moment: what could be left before, or the formatted medium, or what a run leaves
abbrev pub IsLeftNew : Config → Machine → List EventValue → List ReplyValue → Disk → Image → Type 0
IsLeftNew s m events replies old image = (MayLeave old image ⊎ IsFormatted s old.blocks image) ⊎ IsLeft s m events replies image

-- These events with these replies, on a medium that was formatted for them.
pub record RecordsNew (s : Config) (events : List EventValue) (replies : List ReplyValue) (old new : Disk) : Type 0 where
  -- how often the medium had failed when it was formatted: a reply that it failed comes only where it failed in this recording
  pub failures_before : ℕ
  pub no_fewer : old.failures ≤ failures_before
  -- the replies are a run of the model from a fresh machine without files
  pub images : List Image
  pub machine : Machine
  pub run : Run s (fresh s.channels [] failures_before) events replies images machine
  -- the medium says the files that the run ends with, and has failed as often as the run says
  pub says : MediumSays s new.blocks machine.files
  pub failures : machine.failures ≡ new.failures
  -- on each channel the accepted messages are where `RecordsRun` says
  pub accounts : (channel : ℕ) → IsSome (spec_of s.channels channel)
      → IsAccount channel machine (accepted_entries channel 0 events replies)
  -- At any moment a power loss leaves what it could leave before, or the formatted medium, or the files of a state of the run, or
  -- those that the next event makes of them.
  pub left : Leaves (IsLeftNew s (fresh s.channels [] failures_before) events replies old) old new
  -- it now leaves what `RecordsRun` says
  pub settled : is_working machine.mode ≡ true → Settled (λ image. MediumSays s image machine.files) new
  pub durable : IsSafeIn s machine.mode machine.files new

-- why nothing was recorded: the medium failed while it was formatted; or memory was refused, and it is formatted
abbrev pub RecordsNone : Config → Disk → Refusal → Disk → Type 0
RecordsNone s old Medium new =
    Rose old.failures new.failures × Leaves (λ image. MayLeave old image ⊎ IsFormatted s old.blocks image) old new
RecordsNone s old OutOfMemory new = Settled (IsFormatted s old.blocks) new
RecordsNone s old r new = ⊥
