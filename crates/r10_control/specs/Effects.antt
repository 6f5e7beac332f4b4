-- What a call that answers Ok has done, whatever files the medium has: what is kept then, the medium's directory, which blocks
-- stay, and what the file that is recorded shows.
use Rattle.std.specs.Prelude.{◌≡◌, ℕ, ◌+◌, ◌++◌, List, [], ◌∷◌, length, Option, Some, IsSomeAnd}
use Rattle.std.specs.Option.{option_or}
use Rattle.r10_blockout.specs.Output.{first_of, size_of}
use Rattle.r10_count.specs.declared.civil.Parts.{Parts}
use Rattle.r10_dirblock.specs.Block.{begun_entry, sized}
use Rattle.r10_dirblock.specs.Texts.{time_text}
use Rattle.r10_dirchain.specs.Chain.{IsDirectory, listed_files}
use Rattle.r10_dirchain.specs.OnMedium.{IsPublished}
use Rattle.r10_dirchain.specs.Steps.{added, emptied, last_listed, updated, with_shutdown}
use Rattle.r10_dirchain.specs.declared.chain.ChainBlock.{ChainBlock}
use Rattle.r10_openfile.specs.Carrying.{EndsIndexed, IsShown}
use Rattle.r10_packetout.specs.Carries.{time_entry_at}
use Rattle.r10_body.specs.declared.entry.Entry.{Entry}
use Rattle.r10_body.specs.declared.entry.Sample.{Sample}
use Rattle.r10_builder.specs.Grows.{all_held}
use Rattle.r10_builder.specs.LeftOpen.{LeavesOpen, closing, still_open}
use Rattle.r10_builder.specs.Settings.{is_old}
use Rattle.r10_builder.specs.State.{BuilderState}
use Rattle.r10_volume.specs.Holding.{OpenState}
use Rattle.r10_machine.specs.Machine.{Tick}
use Rattle.r10_refinement.specs.KeptState.{Kept, Work, unmounted, idle, recording, failed}
use Rattle.r10_medium.specs.Disk.{Disk, Image}
use Rattle.r10_mux.specs.Writes.{next_event}
use Rattle.r10_volume.specs.Front.{KeepsFront}
use Rattle.r10_volume.specs.Listing.{block_behind}
use Rattle.r10_volume.specs.Mounting.{IsUsable}

-- where a directory is in use and no file is recorded; and where one is
abbrev pub WhereIdle : Work → (List ChainBlock → Type 0) → Type 0
WhereIdle (idle chain) holds = holds chain
WhereIdle work holds = ⊥

abbrev pub WhereRecording : Work → (List ChainBlock → OpenState → Type 0) → Type 0
WhereRecording (recording chain o) holds = holds chain o
WhereRecording work holds = ⊥

-- This is kept then, and nothing else was changed; block 0, and the blocks after the reserved ones and in front of this one,
-- stay, so that all files in front of it keep their bytes; and this is stated of the medium's directory.
pub record Effect (first : ℕ) (made : Kept) (directory_is : Disk → Type 0) (old : Image) (later : Kept) (new : Disk) : Type 0 where
  pub kept : later ≡ made
  pub front : KeepsFront made.config.directory first old new.blocks
  pub directory : directory_is new

-- the directory stays, and may not be synced
abbrev pub HasDirectory : List ChainBlock → Disk → Type 0
HasDirectory chain disk = IsDirectory disk.blocks chain

-- ---- the calls on the directory

-- a mount: the directory was one that a mount takes, and block 1 notes that the medium is in use; the files that the first
-- mount finds are counted
pub record MountEffect (k : Kept) (old : Disk) (later : Kept) (new : Disk) : Type 0 where
  pub chain : List ChainBlock
  pub usable : IsUsable k.config.directory old.blocks chain
  pub effect : Effect (length old.blocks)
      (record k { work = idle (with_shutdown 0x00 chain); found = option_or k.found (Some (length (listed_files chain))) })
      (IsPublished (with_shutdown 0x00 chain)) old.blocks later new

-- a dismount: block 1 notes that the medium is properly dismounted
abbrev pub DismountEffect : Kept → Disk → Kept → Disk → Type 0
DismountEffect k old later new = WhereIdle k.work (λ chain. Effect (length old.blocks) (record k { work = unmounted })
    (IsPublished (with_shutdown 0xFF chain)) old.blocks later new)

-- an erase: no file is listed, all that was taken in is erased, and of the files that come none was found
abbrev pub EraseEffect : Kept → Disk → Kept → Disk → Type 0
EraseEffect k old later new =
    WhereIdle k.work (λ chain. Effect (length old.blocks)
    (record k { work = idle (emptied chain); generation = k.generation + 1; erased = k.taken; found = Some 0 })
    (IsPublished (emptied chain)) old.blocks later new)

-- ---- the calls on the file that is recorded

-- the directory with one file more, of this name, from the block after the others on, begun at this time, with as many blocks
-- as its bytes need
abbrev pub longer_listing : ℕ → List ℕ → Parts → OpenState → List ChainBlock → List ChainBlock
longer_listing reserved name civil o chain = added (sized (size_of o.recording.out.blocks)
    (begun_entry name (block_behind reserved (listed_files chain)) civil)) chain

-- a start: one file more is listed, begun at the last tick's civil time; it carries its setup text and that tick's time, and
-- shows both
pub record StartEffectAt (name setup : List ℕ) (tick : Tick) (chain : List ChainBlock) (o : OpenState) (k : Kept) (old : Disk)
    (later : Kept) (new : Disk) : Type 0 where
  pub effect : Effect (block_behind k.config.directory (listed_files chain))
      (record k { work = recording (longer_listing k.config.directory name tick.civil o chain) o })
      (IsPublished (longer_listing k.config.directory name tick.civil o chain)) old.blocks later new
  pub shows : IsShown new.blocks o setup (time_entry_at k.config.time tick.count tick.civil ∷ []) 1

abbrev pub StartEffect : List ℕ → List ℕ → Kept → Disk → Kept → Disk → Type 0
StartEffect name setup k old later new =
    WhereIdle k.work (λ chain. WhereRecording later.work
    (λ made o. IsSomeAnd k.tick (λ (tick : Tick). StartEffectAt name setup tick chain o k old later new)))

-- a commit: the last file is listed with its bytes, and as many blocks as they need; whatever it carried, it shows all of that
-- nothing is open then
pub record CommitEffectAt (chain : List ChainBlock) (o p : OpenState) (k : Kept) (old : Disk) (later : Kept)
    (new : Disk) : Type 0 where
  pub effect : Effect (first_of o.recording.out.blocks)
      (record k { work = recording (updated (sized (size_of p.recording.out.blocks) (last_listed chain)) chain) p })
      (IsPublished (updated (sized (size_of p.recording.out.blocks) (last_listed chain)) chain)) old.blocks later new
  pub shows : (text : List ℕ) (entries : List Entry) (n : ℕ) → IsShown old.blocks o text entries n
      → IsShown new.blocks p text entries (length entries)
  pub none : all_held p.recording.builders ≡ []

abbrev pub CommitEffect : Kept → Disk → Kept → Disk → Type 0
CommitEffect k old later new = WhereRecording k.work (λ chain o. WhereRecording later.work
    (λ made p. CommitEffectAt chain o p k old later new))

-- the directory with the last file closed at this time, in so many bytes
abbrev pub closed_listing : Parts → ℕ → List ChainBlock → List ChainBlock
closed_listing civil size chain = updated (record (sized size (last_listed chain)) { close_time = time_text civil }) chain

-- a stop: the last file is listed with its bytes, closed at the last tick's civil time, and ends with its index, in groups of the
-- settings' node packets; of the channels' numbers those of what was taken in rise
pub record StopEffectAt (civil : Parts) (chain : List ChainBlock) (o : OpenState) (k : Kept) (old : Disk) (later : Kept)
    (new : Disk) : Type 0 where
  pub size : ℕ
  pub effect : Effect (first_of o.recording.out.blocks)
      (record k { work = idle (closed_listing civil size chain); taken = later.taken })
      (IsPublished (closed_listing civil size chain)) old.blocks later new
  pub indexed : EndsIndexed k.config.nodes (first_of o.recording.out.blocks) new.blocks (closed_listing civil size chain)

abbrev pub StopEffect : Kept → Disk → Kept → Disk → Type 0
StopEffect k old later new = WhereRecording k.work (λ chain o. IsSomeAnd k.tick
    (λ (tick : Tick). StopEffectAt tick.civil chain o k old later new))

-- ---- what is put into the file that is recorded, and not shown yet

-- the file that is recorded goes on with this entry after all that it carried, and shows what it showed
-- this is left in the open packet of each channel
pub record EntryEffect (entry : Entry) (left : BuilderState → List Sample)
    (chain : List ChainBlock) (o p : OpenState) (made : Kept) (old : Image) (later : Kept) (new : Disk) : Type 0 where
  pub effect : Effect (first_of o.recording.out.blocks) made (HasDirectory chain) old later new
  pub takes : (text : List ℕ) (entries : List Entry) (n : ℕ) → IsShown old o text entries n
      → IsShown new.blocks p text (entries ++ entry ∷ []) n
  pub closes : LeavesOpen left o.recording.builders p.recording.builders

-- a tick: the clock is set; while a file is recorded, it takes in the time, and of the open packets it closes those that are old
abbrev pub TickEffectIn : Work → Work → Tick → Kept → Disk → Kept → Disk → Type 0
TickEffectIn (idle chain) now tick k old later new = Effect (length old.blocks) (record k { tick = Some tick })
    (HasDirectory chain) old.blocks later new
TickEffectIn (recording chain o) (recording made p) tick k old later new =
    EntryEffect (time_entry_at k.config.time tick.count tick.civil) (closing (is_old tick.count)) chain o p
    (record k { work = recording chain p; tick = Some tick }) old.blocks later new
TickEffectIn was now tick k old later new = ⊥

abbrev pub TickEffect : Tick → Kept → Disk → Kept → Disk → Type 0
TickEffect tick k old later new = TickEffectIn k.work later.work tick k old later new

-- an event: the last event's count is set, and the file takes in the event, which tells how many of its number came before it
-- no packet is closed
abbrev pub EventEffect : ℕ → ℕ → Kept → Disk → Kept → Disk → Type 0
EventEffect number count k old later new =
    WhereRecording k.work (λ chain o. WhereRecording later.work (λ made p.
    EntryEffect (next_event o.recording number count) still_open chain o p
    (record k { work = recording chain p; last_event = Some count }) old.blocks later new))

-- a pump: the channel's number of what was taken in rises
abbrev pub PumpEffect : Kept → Disk → Kept → Disk → Type 0
PumpEffect k old later new =
    WhereRecording k.work (λ chain o. WhereRecording later.work (λ made p.
    Effect (first_of o.recording.out.blocks) (record k { work = recording chain p; taken = later.taken })
    (HasDirectory chain) old.blocks later new))
