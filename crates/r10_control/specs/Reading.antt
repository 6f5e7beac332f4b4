-- What a recorder reads: a file of the directory in use, or the one that is recorded.
use Rattle.std.specs.Prelude.{◌≡◌, ℕ, ◌+◌, ◌^◌, ◌<◌, ◌≤◌, List, [], length, take, Option, None, Some, Result, IfSome, OnOk}
use Rattle.std.specs.Prelude.{IsSomeAnd, slice_get}
use Rattle.std.specs.List.{last_or}
use Rattle.r10_blockout.specs.Output.{first_of}
use Rattle.r10_body.specs.Faults.{IsAtFault}
use Rattle.r10_body.specs.Packets.{Packet}
use Rattle.r10_body.specs.declared.refusal.Refusal.{Refusal}
use Rattle.r10_body.specs.declared.refusal.Refusal.TheVariants as refusals
use Rattle.r10_dirblock.specs.Block.{is_closed}
use Rattle.r10_dirblock.specs.declared.entry.Entry.{Entry as DirectoryEntry}
use Rattle.r10_dirchain.specs.declared.chain.ChainBlock.{ChainBlock}
use Rattle.r10_volume.specs.Holding.{OpenState}
use Rattle.r10_index.specs.Book.{Book}
use Rattle.r10_cursor.specs.JudgedFiles.{SaysClosed}
use Rattle.r10_machine.specs.Machine.{Machine}
use Rattle.r10_refinement.specs.KeptState.{Kept, Work, unmounted, idle, recording, failed}
use Rattle.r10_medium.specs.Disk.{Disk, Image, Unchanged}
use Rattle.r10_cursor.specs.Files.{HasDataPackets, IsShownWith, bytes_in}
use Rattle.r10_cursor.specs.declared.refusal.ReadRefusal.{ReadRefusal}
use Rattle.r10_cursor.specs.declared.refusal.ReadRefusal.TheVariants as read_refusals
use Rattle.r10_cursor.specs.declared.written.Written.{Written}
use Rattle.r10_control.specs.Checks.{files_of}
use Rattle.r10_control.specs.Owns.{ended_files}
use Rattle.r10_control.specs.State.{RecorderState}
use Rattle.r10_machine.specs.EventChecks.{refusal}
use Rattle.r10_machine.specs.Says.{MediumSays}
use Rattle.r10_machine.specs.declared.event.Event.TheVariants.{Cursor}

-- ---- what is in use

-- the directory
abbrev pub directory_of : Work → List ChainBlock
directory_of unmounted = []
directory_of (idle chain) = chain
directory_of (recording chain o) = chain
directory_of failed = []

-- the file that is recorded
abbrev pub open_of : Work → Option OpenState
open_of unmounted = None
open_of (idle chain) = None
open_of (recording chain o) = Some o
open_of failed = None

-- a directory lists fewer than 2^64 files, and last the one that is recorded
pub record ListsRecordedLast (work : Work) : Type 0 where
  pub few : length (files_of work) < 2 ^ 64
  pub last : IfSome (open_of work) (λ o. IsSomeAnd (last_or None (files_of work))
      (λ (e : DirectoryEntry). e.first_block ≡ first_of o.recording.out.blocks))

-- this is reported of a file that is held as the one that is written: its first block, and what the index will say of the
-- packets that the medium shows, and of all
pub record IsToldOf (o : OpenState) (w : Written) : Type 0 where
  pub first : w.first ≡ first_of o.recording.out.blocks
  pub named : w.named.now ≡ take o.shown o.recording.out.entries
  pub entries : w.book.now.entries ≡ o.recording.out.entries
  pub counted : w.book.now.counted ≡ o.recording.out.counted

-- this is reported of the file that is recorded, where one is: it is the last of so many
abbrev pub TellsWritten : ℕ → Option OpenState → Option Written → Type 0
TellsWritten files None None = Unit {0}
TellsWritten files None (Some w) = ⊥
TellsWritten files (Some o) None = ⊥
TellsWritten files (Some o) (Some w) = (files ≡ w.file + 1) × IsToldOf o w

-- the directory in use, how many files it lists, and what is reported of the one that is recorded
pub record IsInUse (work : Work) (chain : List ChainBlock) (files : ℕ) (written : Option Written) : Type 0 where
  pub chain_is : chain ≡ directory_of work
  pub files_are : files ≡ length (files_of work)
  pub tells : TellsWritten (length (files_of work)) (open_of work) written

-- ---- what is shown

-- what its book says of a file that is written
abbrev pub book_of : OpenState → Book
book_of o = record { entries = o.recording.out.entries; room = o.recording.out.room; counted = o.recording.out.counted }

-- of the file that is recorded the medium shows these packets, these are what an index would say of them, and its book has
-- them first
abbrev pub ShowsOpenPackets : Image → OpenState → List Packet → Type 0
ShowsOpenPackets image o packets = IsShownWith image (first_of o.recording.out.blocks) (take o.shown o.recording.out.entries)
    (book_of o) packets

-- the medium shows these packets of the file of a number, without those of its index
pub data ShowsAt (work : Work) (image : Image) (file : ℕ) (packets : List Packet) : Type 0 where
  of_ended : (e : DirectoryEntry) → slice_get (ended_files work) file ≡ Some e → HasDataPackets (bytes_in image e) packets
      → ShowsAt work image file packets
  of_recorded : (o : OpenState) → open_of work ≡ Some o → length (files_of work) ≡ file + 1 → ShowsOpenPackets image o packets
      → ShowsAt work image file packets

-- the file of a number is there: it is strict with the closing of its directory entry, or the one that is recorded, of which
-- the medium shows packets
pub data IsReadAt (work : Work) (image : Image) (file : ℕ) : Type 0 where
  is_ended : (e : DirectoryEntry) → slice_get (ended_files work) file ≡ Some e → SaysClosed (bytes_in image e) (is_closed e)
      → IsReadAt work image file
  is_recorded : (o : OpenState) (packets : List Packet) → open_of work ≡ Some o → length (files_of work) ≡ file + 1
      → ShowsOpenPackets image o packets → IsReadAt work image file

-- ---- what is refused

-- no file has this number; or it ended, and is at fault, first so
abbrev pub IsReadFileRefusal : Work → Image → ℕ → Refusal → Type 0
IsReadFileRefusal work image file refusals.NoSuchFile = length (files_of work) ≤ file
IsReadFileRefusal work image file (refusals.BadFile offset fault) = IsSomeAnd (slice_get (ended_files work) file)
    (λ e. IsAtFault (bytes_in image e) (is_closed e) offset fault)
IsReadFileRefusal work image file r = ⊥

-- the refusal of a file that isn't read, and what the recorder does then
abbrev pub refusal_of_read : ReadRefusal → Refusal
refusal_of_read read_refusals.NoSuchFile = refusals.NoSuchFile
refusal_of_read (read_refusals.BadFile at) = refusals.BadFile at.offset at.fault
refusal_of_read read_refusals.Medium = refusals.Medium
refusal_of_read read_refusals.OutOfMemory = refusals.OutOfMemory

abbrev pub work_left_by : ReadRefusal → Work → Work
work_left_by read_refusals.NoSuchFile work = work
work_left_by (read_refusals.BadFile at) work = work
work_left_by read_refusals.Medium work = failed
work_left_by read_refusals.OutOfMemory work = work

-- ---- what a table of cursors asks

-- of a machine that is represented, a cursor may be opened on the file: no check refuses it, and the file is there
pub record MayOpen (k : Kept) (image : Image) (m : Machine) (file : ℕ) (channels : List ℕ) (from to : ℕ) : Type 0 where
  pub passes : refusal k.config m (Cursor file channels from to) ≡ None
  pub generation : m.generation ≡ k.generation
  pub there : file < length m.files
  pub says : MediumSays k.config image m.files

-- ---- what is left

-- a call that only reads leaves what the medium shows and a power loss leaves, lanes and settings; and all that is kept, where
-- it answers
pub record OnlyReads {M L T : Type 0} (disk : M → Disk) (old new : RecorderState M L) (result : Result T Refusal) : Type 0 where
  pub kept : OnOk result (new.kept ≡ old.kept)
  pub same : Unchanged (disk old.medium) (disk new.medium)
  pub no_fewer : (disk old.medium).failures ≤ (disk new.medium).failures
  pub lanes : new.lanes ≡ old.lanes
  pub config : new.kept.config ≡ old.kept.config
