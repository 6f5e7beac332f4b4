-- How each event is answered, and what it does then, whatever files the medium has: with no word of a machine, for which each
-- file on it would be strict.
use Rattle.std.specs.Prelude.{◌≡◌, ◌≤◌, ℕ, List, [], ◌∷◌, ◌++◌, map, length, drop, Option, None, Some, IsSomeAnd, is_none, is_some}
use Rattle.std.specs.Prelude.{slice_get, if◌then◌else◌}
use Rattle.std.specs.List.{AllByRecursion}
use Rattle.std.specs.Option.{option_and_then}
use Rattle.r10_count.specs.Checks.{first_broken}
use Rattle.r10_body.specs.Files.{on_channel}
use Rattle.r10_body.specs.Packets.{Packet, file_entries}
use Rattle.r10_body.specs.declared.entry.Entry.{Entry as EntryValue}
use Rattle.r10_body.specs.declared.refusal.Refusal.{Refusal}
use Rattle.r10_body.specs.declared.refusal.Refusal.TheVariants as refusals
use Rattle.r10_medium.specs.Disk.{Disk, Rose, Unchanged}
use Rattle.r10_machine.specs.Calls.{accepted, losing, overflowed}
use Rattle.r10_machine.specs.Checks.{Check, channel_checks, mounted_checks, offer_checks, offer_refusal}
use Rattle.r10_machine.specs.Finding.{count_after, first_from, last_until, ticks_of}
use Rattle.r10_machine.specs.Limits.{channel_ids}
use Rattle.r10_machine.specs.Machine.{Lane, change_first, is_channel, lane_in, rising}
use Rattle.r10_machine.specs.declared.event.Event.{Event as EventValue}
use Rattle.r10_machine.specs.declared.event.Event.TheVariants.{Mount, Dismount, Tick, Start, Offer, Lose, Pump, Event, Commit}
use Rattle.r10_machine.specs.declared.event.Event.TheVariants.{Stop, Seal, Erase, Files, Status, Cursor, Advance, Next, Close}
use Rattle.r10_machine.specs.declared.event.Event.TheVariants.{Find, CountAt}
use Rattle.r10_machine.specs.declared.reply.Reply.{Reply as ReplyValue}
use Rattle.r10_machine.specs.declared.reply.Reply.TheVariants as replies
use Rattle.r10_control.specs.RecorderStatus.{info_in, status_in}
use Rattle.r10_cursor.specs.Replays.{AdvancesReading}
use Rattle.r10_cursor.specs.RepresentedCursors.{PutsSlot, fresh_slot, read_checks, slot_at, with_queue}
use Rattle.r10_cursor.specs.declared.cursor.Cursor.{Cursor as CursorValue}
use Rattle.r10_lane.specs.Lanes.{TookWaiting}
use Rattle.r10_control.specs.Taking.{Part, TellsWaiting, TookAll, entries_of, most_of, CountsMoved, FirstLacks, GoesInto, IsStopped}
use Rattle.r10_refinement.specs.Grown.{AreGrown}
use Rattle.r10_refinement.specs.KeptState.{Kept, failed, mode_of}
use Rattle.r10_control.specs.Checks.{files_of, recorder_refusal}
use Rattle.r10_control.specs.Fronts.{Spares}
use Rattle.r10_control.specs.Calls.{SealEffect}
use Rattle.r10_control.specs.Effects.{CommitEffect, DismountEffect, EraseEffect, EventEffect, MountEffect, PumpEffect, StartEffect}
use Rattle.r10_control.specs.Effects.{StopEffect, TickEffect}
use Rattle.r10_control.specs.Own.{AreOwn, OwnGrow, OwnStay}
use Rattle.r10_control.specs.Reading.{IsReadAt, IsReadFileRefusal, ShowsAt}
use Rattle.r10_control.specs.Recording.{IsCommitRefusal, IsEntryRefusal}
use Rattle.r10_control.specs.Refused.{IsMountRefusal, IsSameKept, nothing_lacks}
use Rattle.r10_control.specs.SealRefusals.{IsSealRefusal}
use Rattle.r10_control.specs.Started.{IsStartRefusal}
use Rattle.r10_control.specs.State.{RecorderState}
use Rattle.r10_world.specs.State.{WorldState}

-- ---- what is checked

-- a number has a cursor
abbrev pub slot_checks : Option CursorValue → List Check
slot_checks slot = (is_some slot, refusals.NoCursor) ∷ []

-- the first of an event's checks that doesn't hold, by what the recorder keeps, its lanes, and its readers' cursors
abbrev pub first_refusal : Kept → List Lane → List (Option CursorValue) → EventValue → Option Refusal
first_refusal k lanes slots (Offer channel count message) = offer_refusal (lane_in channel lanes) count message
first_refusal k lanes slots (Lose channel lost) = first_broken (channel_checks (lane_in channel lanes))
first_refusal k lanes slots (Advance id) = first_broken (mounted_checks (mode_of k.work)
    ++ read_checks k.generation (slot_at slots id))
first_refusal k lanes slots (Next id) = first_broken (slot_checks (slot_at slots id))
first_refusal k lanes slots (Close id) = first_broken (slot_checks (slot_at slots id))
first_refusal k lanes slots event = recorder_refusal k event

-- the lanes after a check refused: an offer that lacks nothing but room is counted as lost
abbrev pub lanes_counted : EventValue → List Lane → List Lane
lanes_counted (Offer channel count message) lanes =
    if is_none (first_broken (offer_checks (lane_in channel lanes) count message))
    then change_first (is_channel channel) overflowed lanes else lanes
lanes_counted event lanes = lanes

-- ---- what may be lacking where every check holds

-- memory, or this
abbrev pub MemoryOr : (Refusal → Type 0) → Refusal → Type 0
MemoryOr lacks refusals.OutOfMemory = Unit {0}
MemoryOr lacks r = lacks r

-- the medium, or this
abbrev pub MediumOr : (Refusal → Type 0) → Refusal → Type 0
MediumOr lacks refusals.Medium = Unit {0}
MediumOr lacks r = lacks r

-- memory or the medium, or this
abbrev pub EitherOr : (Refusal → Type 0) → Refusal → Type 0
EitherOr lacks r = MediumOr (MemoryOr lacks) r

-- What an event may lack where all its checks hold: a directory that can be used, a file that isn't at fault, or room, where
-- that is so; memory, where the call asks for it; or the medium, where it uses it. A time costs 112 bytes of the file that is
-- recorded, and an event 116.
abbrev pub MayLack : {M : Type 0} → (M → Disk) → RecorderState M Lane → List (Option CursorValue) → EventValue
    → RecorderState M Lane → Refusal → Type 0
MayLack disk old slots Mount new r = EitherOr (IsMountRefusal old.kept.config.directory (disk old.medium)) r
MayLack disk old slots Dismount new r = MediumOr nothing_lacks r
MayLack disk old slots (Tick count parts) new r = IsEntryRefusal old.kept.config old.kept.work 112 r
MayLack disk old slots (Start name setup) new r = EitherOr (IsStartRefusal old.kept setup) r
MayLack disk old slots (Offer channel count message) new r = nothing_lacks r
MayLack disk old slots (Lose channel lost) new r = nothing_lacks r
MayLack disk old slots (Pump channel most) new r = EitherOr
    (FirstLacks (λ (lane : Lane). Some lane.waiting) (λ (lane : Lane). lane.spec) old.lanes new.kept.config new.kept.work channel
    most) r
MayLack disk old slots (Event number count) new r = IsEntryRefusal old.kept.config old.kept.work 116 r
MayLack disk old slots Commit new r = IsCommitRefusal r
MayLack disk old slots Stop new r = EitherOr nothing_lacks r
MayLack disk old slots Seal new r = EitherOr (IsSealRefusal old.kept (disk old.medium)) r
MayLack disk old slots Erase new r = EitherOr nothing_lacks r
MayLack disk old slots Files new r = MemoryOr nothing_lacks r
MayLack disk old slots Status new r = MemoryOr nothing_lacks r
MayLack disk old slots (Cursor file channels from to) new r =
    EitherOr (IsReadFileRefusal old.kept.work (disk old.medium).blocks file) r
MayLack disk old slots (Advance id) new r = IsSomeAnd (slot_at slots id)
    (λ (c : CursorValue). EitherOr (IsReadFileRefusal old.kept.work (disk old.medium).blocks c.file) r)
MayLack disk old slots (Next id) new r = nothing_lacks r
MayLack disk old slots (Close id) new r = nothing_lacks r
MayLack disk old slots (Find file channel count) new r = EitherOr (IsReadFileRefusal old.kept.work (disk old.medium).blocks file) r
MayLack disk old slots (CountAt file parts) new r = EitherOr (IsReadFileRefusal old.kept.work (disk old.medium).blocks file) r

-- ---- what a refusal leaves

-- What is kept, and of the medium what is read and what a power loss leaves. A call that puts into the file that is recorded leaves
-- the medium itself, and what is kept but for memory that it asked for in that file. A list of files and a status leave the
-- medium itself.
abbrev pub LeavesAll : {M : Type 0} → (M → Disk) → RecorderState M Lane → EventValue → RecorderState M Lane → Type 0
LeavesAll disk old (Tick count parts) new = IsSameKept old.kept new.kept × (new.medium ≡ old.medium)
LeavesAll disk old (Pump channel most) new = IsSameKept old.kept new.kept × (new.medium ≡ old.medium)
LeavesAll disk old (Event number count) new = IsSameKept old.kept new.kept × (new.medium ≡ old.medium)
LeavesAll disk old Commit new = IsSameKept old.kept new.kept × (new.medium ≡ old.medium)
LeavesAll disk old Stop new = IsSameKept old.kept new.kept × (new.medium ≡ old.medium)
LeavesAll disk old Files new = (new.kept ≡ old.kept) × (new.medium ≡ old.medium)
LeavesAll disk old Status new = (new.kept ≡ old.kept) × (new.medium ≡ old.medium)
LeavesAll disk old event new = (new.kept ≡ old.kept) × Unchanged (disk old.medium) (disk new.medium)

-- a call that only reads changes nothing on a medium that fails
abbrev pub LeavesRead : {M : Type 0} → (M → Disk) → M → EventValue → M → Type 0
LeavesRead disk old (Cursor file channels from to) new = Unchanged (disk old) (disk new)
LeavesRead disk old (Advance id) new = Unchanged (disk old) (disk new)
LeavesRead disk old (Find file channel count) new = Unchanged (disk old) (disk new)
LeavesRead disk old (CountAt file parts) new = Unchanged (disk old) (disk new)
LeavesRead disk old event new = Unit {0}

-- each lane gave some of what waited first, and nothing else of it changed
abbrev pub HaveGiven : List Lane → List Lane → Type 0
HaveGiven [] [] = Unit {0}
HaveGiven (a ∷ old) (b ∷ new) = ((n : ℕ) × (b ≡ record a { waiting = drop n a.waiting })) × HaveGiven old new
HaveGiven old new = ⊥

-- a pump or a stop in which the medium failed may have taken from the lanes
abbrev pub LeavesLanes : List Lane → EventValue → List Lane → Type 0
LeavesLanes old (Pump channel most) new = HaveGiven old new
LeavesLanes old Stop new = HaveGiven old new
LeavesLanes old event new = new ≡ old

-- whatever entries the recorder's own files had, they have them then, and times or events after them
abbrev pub KeepsOwn : {M : Type 0} → (M → Disk) → RecorderState M Lane → RecorderState M Lane → Type 0
KeepsOwn disk old new = OwnStay old.kept (disk old.medium).blocks new.kept (disk new.medium).blocks

-- a check refuses the event: nothing changes but the count of a loss
pub record IsChecked {M : Type 0} (first : Refusal) (old : RecorderState M Lane) (slots : List (Option CursorValue))
    (event : EventValue) (r : Refusal) (new : RecorderState M Lane) (later : List (Option CursorValue)) : Type 0 where
  pub first_is : r ≡ first
  pub kept : new.kept ≡ old.kept
  pub medium : new.medium ≡ old.medium
  pub lanes : new.lanes ≡ lanes_counted event old.lanes
  pub cursors : later ≡ slots

-- no check refuses it, and this is lacking: nothing changes
pub record IsLacking {M : Type 0} (disk : M → Disk) (old : RecorderState M Lane) (slots : List (Option CursorValue))
    (event : EventValue) (r : Refusal) (new : RecorderState M Lane) (later : List (Option CursorValue)) : Type 0 where
  pub cause : MayLack disk old slots event new r
  pub leaves : LeavesAll disk old event new
  pub own : KeepsOwn disk old new
  pub lanes : new.lanes ≡ old.lanes
  pub cursors : later ≡ slots

-- no check refuses it, and the medium failed: it has counted that, the recorder has failed, and keeps all else
pub record HasFailed {M : Type 0} (disk : M → Disk) (old : RecorderState M Lane) (slots : List (Option CursorValue))
    (event : EventValue) (new : RecorderState M Lane) (later : List (Option CursorValue)) : Type 0 where
  pub cause : MayLack disk old slots event new refusals.Medium
  pub rose : Rose (disk old.medium).failures (disk new.medium).failures
  pub kept : new.kept ≡ record old.kept { work = failed }
  pub reads : LeavesRead disk old.medium event new.medium
  pub lanes : LeavesLanes old.lanes event new.lanes
  pub cursors : later ≡ slots

-- by the first check that doesn't hold, if there is one
abbrev pub RefusesSo : {M : Type 0} → (M → Disk) → Option Refusal → RecorderState M Lane → List (Option CursorValue) → EventValue
    → Refusal → RecorderState M Lane → List (Option CursorValue) → Type 0
RefusesSo disk (Some first) old slots event r new later = IsChecked first old slots event r new later
RefusesSo disk None old slots event refusals.Medium new later = HasFailed disk old slots event new later
RefusesSo disk None old slots event r new later = IsLacking disk old slots event r new later

-- ---- what a call does

-- this; the recorder's own files keep what they had, so; and lanes and cursors stay
pub record DoesAlone (does keeps : Type 0) (before : List Lane) (slots : List (Option CursorValue)) (now : List Lane)
    (later : List (Option CursorValue)) : Type 0 where
  pub does_so : does
  pub own : keeps
  pub lanes : now ≡ before
  pub cursors : later ≡ slots

-- what is kept and the lanes stay, and the medium is only read
pub record OnlyRead {M : Type 0} (disk : M → Disk) (old new : RecorderState M Lane) : Type 0 where
  pub kept : new.kept ≡ old.kept
  pub same : Unchanged (disk old.medium) (disk new.medium)
  pub no_fewer : (disk old.medium).failures ≤ (disk new.medium).failures
  pub lanes : new.lanes ≡ old.lanes

-- Channel by channel in this order, these samples were taken from the lanes, no more of a channel than may be: all that may,
-- up to the first that has no room; they and the rests are all that waited. They are counted, and whatever entries the
-- recorder's own files had, these are after them then.
pub record TakesParts (order : List ℕ) (most : ℕ → ℕ) (says : List Part → Type 0) (k : Kept) (old : Disk) (lanes : List Lane)
    (later : Kept) (new : Disk) (lanes' : List Lane) : Type 0 where
  pub parts : List Part
  pub order_is : map (λ (p : Part). p.channel) parts ≡ order
  pub through : GoesInto most k.config k.work parts
  pub within : AllByRecursion (λ (p : Part). length p.samples ≤ most p.channel) parts
  pub taken : TookAll TookWaiting (λ (lane : Lane). lane.spec) parts lanes lanes'
  pub waits : AllByRecursion (TellsWaiting (λ (lane : Lane). Some lane.waiting) (λ (lane : Lane). lane.spec) lanes) parts
  pub tells : says parts
  pub counts : AreGrown (entries_of parts) k.config.channels k.taken later.taken
  pub own : OwnGrow k old.blocks later new.blocks (entries_of parts)

-- a cursor gives the first of its queue
abbrev pub GivesFirst : List (Option CursorValue) → ℕ → Option EntryValue → List (Option CursorValue) → Type 0
GivesFirst slots id given later =
    IsSomeAnd (slot_at slots id) (λ (c : CursorValue). (given ≡ slice_get c.reading.queue 0)
    × PutsSlot slots later id (Some (with_queue (drop 1 c.reading.queue) c)))

-- a cursor that is there takes so many entries, of whatever packets the medium shows of its file, and is on the same file
pub record TakesEntries {M : Type 0} (disk : M → Disk) (old : RecorderState M Lane) (c : CursorValue) (n : ℕ)
    (next : CursorValue) : Type 0 where
  pub there : IsReadAt old.kept.work (disk old.medium).blocks c.file
  pub file : next.file ≡ c.file
  pub generation : next.generation ≡ c.generation
  pub queued : n ≡ length next.reading.queue
  pub advances : (packets : List Packet) → ShowsAt old.kept.work (disk old.medium).blocks c.file packets
      → AdvancesReading c.reading next.reading packets

abbrev pub AdvancesAt : {M : Type 0} → (M → Disk) → RecorderState M Lane → List (Option CursorValue) → ℕ → ℕ
    → List (Option CursorValue) → Type 0
AdvancesAt disk old slots id n later = IsSomeAnd (slot_at slots id)
    (λ (c : CursorValue). (next : CursorValue) × TakesEntries disk old c n next × PutsSlot slots later id (Some next))

-- what an event does that is answered so
abbrev pub DoesSo : {M : Type 0} → (M → Disk) → RecorderState M Lane → List (Option CursorValue) → EventValue → ReplyValue
    → RecorderState M Lane → List (Option CursorValue) → Type 0
DoesSo disk old slots Mount replies.Done new later = DoesAlone (MountEffect old.kept (disk old.medium) new.kept (disk new.medium))
    (KeepsOwn disk old new) old.lanes slots new.lanes later
DoesSo disk old slots Dismount replies.Done new later = DoesAlone
    (DismountEffect old.kept (disk old.medium) new.kept (disk new.medium)) (KeepsOwn disk old new) old.lanes slots new.lanes later
DoesSo disk old slots (Tick count parts) replies.Done new later =
    DoesAlone (TickEffect (record { count = count; civil = parts }) old.kept (disk old.medium) new.kept (disk new.medium))
    (KeepsOwn disk old new) old.lanes slots new.lanes later
DoesSo disk old slots (Start name setup) replies.Done new later =
    DoesAlone (StartEffect name setup old.kept (disk old.medium) new.kept (disk new.medium))
    (KeepsOwn disk old new) old.lanes slots new.lanes later
DoesSo disk old slots (Offer channel count message) replies.Done new later =
    (new.lanes ≡ change_first (is_channel channel) (accepted count message) old.lanes) × (new.kept ≡ old.kept)
    × (new.medium ≡ old.medium) × (later ≡ slots)
DoesSo disk old slots (Lose channel lost) replies.Done new later =
    (new.lanes ≡ change_first (is_channel channel) (losing lost) old.lanes) × (new.kept ≡ old.kept) × (new.medium ≡ old.medium)
    × (later ≡ slots)
DoesSo disk old slots (Pump channel most) (replies.Moved n) new later =
    PumpEffect old.kept (disk old.medium) new.kept (disk new.medium)
    × TakesParts (channel ∷ []) (λ _. most) (CountsMoved n) old.kept (disk old.medium) old.lanes new.kept
    (disk new.medium) new.lanes × (later ≡ slots)
DoesSo disk old slots (Event number count) replies.Done new later =
    DoesAlone (EventEffect number count old.kept (disk old.medium) new.kept (disk new.medium))
    (KeepsOwn disk old new) old.lanes slots new.lanes later
DoesSo disk old slots Commit replies.Done new later = DoesAlone (CommitEffect old.kept (disk old.medium) new.kept (disk new.medium))
    (KeepsOwn disk old new) old.lanes slots new.lanes later
DoesSo disk old slots Stop (replies.Stopped said) new later =
    StopEffect old.kept (disk old.medium) new.kept (disk new.medium)
    × TakesParts (rising (channel_ids old.kept.config.channels)) (most_of old.kept.config.channels) (IsStopped said) old.kept
    (disk old.medium) old.lanes new.kept (disk new.medium) new.lanes × (later ≡ slots)
DoesSo disk old slots Seal replies.Done new later = DoesAlone (SealEffect old.kept (disk old.medium) new.kept (disk new.medium))
    (KeepsOwn disk old new) old.lanes slots new.lanes later
DoesSo disk old slots Erase replies.Done new later = DoesAlone (EraseEffect old.kept (disk old.medium) new.kept (disk new.medium))
    (AreOwn new.kept (disk new.medium).blocks []) old.lanes slots new.lanes later
DoesSo disk old slots Files (replies.Files files) new later = (files ≡ map info_in (files_of old.kept.work)) × (new ≡ old)
    × (later ≡ slots)
DoesSo disk old slots Status (replies.Status status) new later = (status ≡ status_in old.kept old.lanes) × (new ≡ old)
    × (later ≡ slots)
DoesSo disk old slots (Cursor file channels from to) (replies.Cursor id) new later =
    IsReadAt old.kept.work (disk old.medium).blocks file × (slot_at slots id ≡ None)
    × PutsSlot slots later id (Some (fresh_slot old.kept.generation channels file from to)) × OnlyRead disk old new
DoesSo disk old slots (Advance id) (replies.Advanced n) new later = AdvancesAt disk old slots id n later × OnlyRead disk old new
DoesSo disk old slots (Next id) (replies.Next given) new later = GivesFirst slots id given later × (new ≡ old)
DoesSo disk old slots (Close id) replies.Done new later = PutsSlot slots later id None × (new ≡ old)
DoesSo disk old slots (Find file channel count) (replies.Found found) new later =
    IsReadAt old.kept.work (disk old.medium).blocks file
    × ((packets : List Packet) → ShowsAt old.kept.work (disk old.medium).blocks file packets
    → found ≡ first_from count 0 (on_channel channel (file_entries packets)))
    × OnlyRead disk old new × (later ≡ slots)
DoesSo disk old slots (CountAt file parts) (replies.CountAt count) new later =
    IsReadAt old.kept.work (disk old.medium).blocks file
    × ((packets : List Packet) → ShowsAt old.kept.work (disk old.medium).blocks file packets
    → count ≡ option_and_then (count_after parts) (last_until parts (ticks_of (file_entries packets))))
    × OnlyRead disk old new × (later ≡ slots)
DoesSo disk old slots event reply new later = ⊥

-- ---- events with their replies

-- A refusal is that of the first check that doesn't hold; where all hold, of what is lacking, or of the medium. Any other
-- reply comes where all hold, and says what was done.
abbrev pub AnswersSo : {M : Type 0} → (M → Disk) → RecorderState M Lane → List (Option CursorValue) → EventValue → ReplyValue
    → RecorderState M Lane → List (Option CursorValue) → Type 0
AnswersSo disk old slots event (replies.Refused r) new later =
    RefusesSo disk (first_refusal old.kept old.lanes slots event) old slots event r new later
AnswersSo disk old slots event reply new later = (first_refusal old.kept old.lanes slots event ≡ None)
    × DoesSo disk old slots event reply new later

-- nothing changed but the count of a loss: what is kept, of the medium what is read and what a power loss leaves, the entries of
-- the recorder's own files, the lanes, and the cursors; the file that is recorded may have more memory
pub record ChangesNothing {M : Type 0} (disk : M → Disk) (old : RecorderState M Lane) (slots : List (Option CursorValue))
    (event : EventValue) (new : RecorderState M Lane) (later : List (Option CursorValue)) : Type 0 where
  pub kept : IsSameKept old.kept new.kept
  pub medium : Unchanged (disk old.medium) (disk new.medium)
  pub own : KeepsOwn disk old new
  pub lanes : new.lanes ≡ lanes_counted event old.lanes
  pub cursors : later ≡ slots

-- whatever cursors there are, they stay
abbrev pub AnswersAlone : {M : Type 0} → (M → Disk) → RecorderState M Lane → EventValue → ReplyValue → RecorderState M Lane → Type 0
AnswersAlone disk old event reply new = (slots : List (Option CursorValue)) → AnswersSo disk old slots event reply new slots

-- an event with its reply: what was answered and done; and, whatever the reply, which blocks stay, at every moment of it
pub record IsAnswered {M : Type 0} (disk : M → Disk) (old : WorldState M) (event : EventValue) (reply : ReplyValue)
    (new : WorldState M) : Type 0 where
  pub answer : AnswersSo disk old.recorder old.slots event reply new.recorder new.slots
  pub spares : Spares old.recorder.kept (disk old.recorder.medium) event (disk new.recorder.medium)

-- events in turn, each from the world that the one before it left
abbrev pub AnswersEach : {M : Type 0} → (M → Disk) → WorldState M → List EventValue → List ReplyValue → WorldState M → Type 0
AnswersEach disk old [] [] new = new ≡ old
AnswersEach {M} disk old (event ∷ events) (reply ∷ given) new =
    (mid : WorldState M) × IsAnswered disk old event reply mid × AnswersEach disk mid events given new
AnswersEach disk old events given new = ⊥

-- ---- the table alone

-- what the first of a queue, and a close, are answered
abbrev pub AnswersNext : List (Option CursorValue) → ℕ → ReplyValue → List (Option CursorValue) → Type 0
AnswersNext slots id (replies.Next given) later = (first_broken (slot_checks (slot_at slots id)) ≡ None)
    × GivesFirst slots id given later
AnswersNext slots id (replies.Refused r) later = (first_broken (slot_checks (slot_at slots id)) ≡ Some r) × (later ≡ slots)
AnswersNext slots id reply later = ⊥

abbrev pub AnswersClose : List (Option CursorValue) → ℕ → ReplyValue → List (Option CursorValue) → Type 0
AnswersClose slots id replies.Done later = (first_broken (slot_checks (slot_at slots id)) ≡ None) × PutsSlot slots later id None
AnswersClose slots id (replies.Refused r) later = (first_broken (slot_checks (slot_at slots id)) ≡ Some r) × (later ≡ slots)
AnswersClose slots id reply later = ⊥
