-- Which blocks a call leaves as they were, at every moment and whatever it answers, whatever files the medium has.
use Rattle.std.specs.Prelude.{◌≡◌, ℕ, ◌-◌, ◌*◌, List, [], ◌∷◌, length, Option, None, Some, IfSome}
use Rattle.std.specs.List.{last_or}
use Rattle.r10_blockout.specs.Blocks.{bytes_from}
use Rattle.r10_blockout.specs.Output.{first_of}
use Rattle.r10_body.specs.Packets.{Packet}
use Rattle.r10_count.specs.declared.civil.Parts.{Parts}
use Rattle.r10_dirblock.specs.Block.{sized}
use Rattle.r10_dirblock.specs.declared.entry.Entry.{Entry as DirectoryEntry}
use Rattle.r10_dirchain.specs.Chain.{listed_files}
use Rattle.r10_dirchain.specs.Steps.{emptied, last_listed, updated, with_shutdown}
use Rattle.r10_dirchain.specs.declared.chain.ChainBlock.{ChainBlock}
use Rattle.r10_machine.specs.Config.{Config}
use Rattle.r10_machine.specs.Machine.{Tick}
use Rattle.r10_machine.specs.declared.event.Event.{Event as EventValue}
use Rattle.r10_machine.specs.declared.event.Event.TheVariants as events
use Rattle.r10_refinement.specs.KeptState.{Kept, Work, idle, recording}
use Rattle.r10_medium.specs.Disk.{Disk, Image, Unchanged}
use Rattle.r10_medium.specs.PowerLoss.{Leaves}
use Rattle.r10_openfile.specs.AtOnce.{BeginsAtOnce, SparesFront, TurnsAtOnce}
use Rattle.r10_seal.specs.Judging.{IsUnsealable}
use Rattle.r10_seal.specs.Sealing.{IsPartlySealed, IsSealing, IsUnsealed, listing_block}
use Rattle.r10_volume.specs.Front.{KeepsFront}
use Rattle.r10_volume.specs.Listing.{block_behind}
use Rattle.r10_volume.specs.Mounting.{IsUnusable, IsUsable}
use Rattle.r10_control.specs.Checks.{files_of}
use Rattle.r10_control.specs.Effects.{closed_listing}

-- block 0, and blocks after the reserved ones and in front of this one, are as they were; where there is no such block, all are
abbrev pub WritesFrom : ℕ → Option ℕ → Image → Image → Type 0
WritesFrom reserved None old new = new ≡ old
WritesFrom reserved (Some first) old new = KeepsFront reserved first old new

-- where the file begins that is recorded
abbrev pub recorded_from : Work → Option ℕ
recorded_from (recording chain o) = Some (first_of o.recording.out.blocks)
recorded_from work = None

-- where a file is begun, after all others
abbrev pub begun_from : ℕ → Work → Option ℕ
begun_from reserved (idle chain) = Some (block_behind reserved (listed_files chain))
begun_from reserved work = None

-- ---- by call

-- A mount of a directory that it can use turns that alone, in block 1; a medium whose directory it can't use stays as it was.
pub record MountSpares (reserved : ℕ) (old new : Disk) : Type 0 where
  pub usable : (chain : List ChainBlock) → IsUsable reserved old.blocks chain
      → TurnsAtOnce (length old.blocks) (with_shutdown 0x00 chain) [] (1 ∷ []) old new
  pub unusable : (n : ℕ) → IsUnusable reserved old.blocks n → Unchanged old new

-- A dismount and an erase turn the directory alone, in block 1. Where none is in use, or a file is recorded, nothing is written.
abbrev pub IdleSpares : (List ChainBlock → List ChainBlock) → Work → Disk → Disk → Type 0
IdleSpares turned (idle chain) old new = TurnsAtOnce (length old.blocks) (turned chain) [] (1 ∷ []) old new
IdleSpares turned work old new = Unchanged old new

-- a tick, an event and a pump write from the first block of the file that is recorded on; where none is, nothing is written
abbrev pub RecordedSpares : Work → Disk → Disk → Type 0
RecordedSpares (recording chain o) old new = SparesFront (first_of o.recording.out.blocks) old new
RecordedSpares work old new = Unchanged old new

-- A start turns the directory at once into one that lists a file more. Where none is in use, or a file is recorded, nothing is
-- written.
abbrev pub StartsAtOnce : List ℕ → Parts → ℕ → Work → Disk → Disk → Type 0
StartsAtOnce name civil reserved (idle chain) old new =
    BeginsAtOnce name civil (block_behind reserved (listed_files chain)) chain old new
StartsAtOnce name civil reserved work old new = Unchanged old new

-- in front of that file it writes in the directory's reserved blocks alone; the file begins at the last tick's civil time
pub record StartSpares (name : List ℕ) (k : Kept) (old new : Disk) : Type 0 where
  pub front : WritesFrom k.config.directory (begun_from k.config.directory k.work) old.blocks new.blocks
  pub at_once : IfSome k.tick (λ (tick : Tick). StartsAtOnce name tick.civil k.config.directory k.work old new)

-- A commit and a stop list the file that is recorded anew at once, so, by some size. Where none is recorded, nothing is written.
abbrev pub ListsAtOnce : (ℕ → List ChainBlock → List ChainBlock) → Work → Disk → Disk → Type 0
ListsAtOnce listing (recording chain o) old new =
    (size : ℕ) × TurnsAtOnce (first_of o.recording.out.blocks) (listing size chain) [] (listing_block chain) old new
ListsAtOnce listing work old new = Unchanged old new

-- the directory with the last file in so many bytes
abbrev pub sized_listing : ℕ → List ChainBlock → List ChainBlock
sized_listing size chain = updated (sized size (last_listed chain)) chain

-- a commit writes in front of that file in the directory's reserved blocks alone, and lists it at once
pub record CommitSpares (k : Kept) (old new : Disk) : Type 0 where
  pub front : WritesFrom k.config.directory (recorded_from k.work) old.blocks new.blocks
  pub at_once : ListsAtOnce sized_listing k.work old new

-- a stop does so too, and closes it at the last tick's civil time
pub record StopSpares (k : Kept) (old new : Disk) : Type 0 where
  pub front : WritesFrom k.config.directory (recorded_from k.work) old.blocks new.blocks
  pub at_once : IfSome k.tick (λ (tick : Tick). ListsAtOnce (closed_listing tick.civil) k.work old new)

-- the last file of the directory in use, with this entry, is strict and has no index
pub record IsLastUnsealed (w : Work) (image : Image) (chain : List ChainBlock) (e : DirectoryEntry)
    (packets : List Packet) : Type 0 where
  pub in_use : w ≡ idle chain
  pub last : last_or None (listed_files chain) ≡ Some e
  pub text : List ℕ
  pub unsealed : IsUnsealed (bytes_from image e.first_block e.size) text packets

-- Of such a file a seal writes nothing in front, but in the directory's reserved blocks. At every moment, and in what is read
-- then, blocks of the file with its index are put, or the directory lists it closed. Where the last file may not be closed, for
-- its bytes are at fault or cost more than there is, the medium stays as it was.
pub record SealSpares (s : Config) (w : Work) (old new : Disk) : Type 0 where
  pub front : (chain : List ChainBlock) (e : DirectoryEntry) (packets : List Packet) → IsLastUnsealed w old.blocks chain e packets
      → KeepsFront s.directory e.first_block old.blocks new.blocks
  pub moments : (chain : List ChainBlock) (e : DirectoryEntry) (packets : List Packet) → IsLastUnsealed w old.blocks chain e packets
      → Leaves (IsSealing s.nodes e packets chain old) old new
  pub reads : (chain : List ChainBlock) (e : DirectoryEntry) (packets : List Packet) → IsLastUnsealed w old.blocks chain e packets
      → IsPartlySealed s.nodes e packets chain old.blocks new.blocks
  pub unsealable : (e : DirectoryEntry) → last_or None (files_of w) ≡ Some e
      → IsUnsealable (bytes_from old.blocks e.first_block e.size) (512 * (length old.blocks - e.first_block)) → Unchanged old new

-- of a call for an event, which blocks it leaves as they were, whatever it is answered; one that is not named here writes nothing
abbrev pub Spares : Kept → Disk → EventValue → Disk → Type 0
Spares k old events.Mount new = MountSpares k.config.directory old new
Spares k old events.Dismount new = IdleSpares (with_shutdown 0xFF) k.work old new
Spares k old events.Erase new = IdleSpares emptied k.work old new
Spares k old events.Seal new = SealSpares k.config k.work old new
Spares k old (events.Start name setup) new = StartSpares name k old new
Spares k old events.Commit new = CommitSpares k old new
Spares k old events.Stop new = StopSpares k old new
Spares k old (events.Tick count parts) new = RecordedSpares k.work old new
Spares k old (events.Event number count) new = RecordedSpares k.work old new
Spares k old (events.Pump channel most) new = RecordedSpares k.work old new
Spares k old event new = Unchanged old new
