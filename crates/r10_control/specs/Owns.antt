-- What is true of a recorder, whatever files its medium has.
use Rattle.std.specs.Prelude.{◌≡◌, ℕ, ◌+◌, ◌-◌, ◌*◌, ◌^◌, ◌<◌, ◌≤◌, List, [], length, map, take, Option, None, Some, IsSome}
use Rattle.std.specs.Prelude.{IsSomeAnd, slice_get}
use Rattle.std.specs.List.{AllByRecursion, last_or}
use Rattle.r10_blockout.specs.Output.{first_of}
use Rattle.r10_body.specs.declared.entry.Entry.{Entry}
use Rattle.r10_body.specs.declared.spec.ChannelSpec.{ChannelSpec}
use Rattle.r10_builder.specs.State.{HasRoomForTwo}
use Rattle.r10_dirblock.specs.declared.entry.Entry.{Entry as DirectoryEntry}
use Rattle.r10_dirchain.specs.Chain.{listed_files}
use Rattle.r10_dirchain.specs.declared.chain.ChainBlock.{ChainBlock}
use Rattle.r10_volume.specs.Holding.{OpenState}
use Rattle.r10_machine.specs.Config.{Config}
use Rattle.r10_machine.specs.Limits.{IsConfig}
use Rattle.r10_machine.specs.Machine.{Tick}
use Rattle.r10_machine.specs.SoundParts.{count_or_0}
use Rattle.r10_refinement.specs.KeptState.{Kept, Work, unmounted, idle, recording, failed}
use Rattle.r10_medium.specs.Disk.{Image}
use Rattle.r10_openfile.specs.Carrying.{IsShown}
use Rattle.r10_openfile.specs.Keeping.{MayGoOn}
use Rattle.r10_openfile.specs.Pumping.{EndsBy, HasBuilder}
use Rattle.r10_openfile.specs.Stopping.{AllEnd}
use Rattle.r10_cursor.specs.JudgedFiles.{IsUnder}
use Rattle.r10_cursor.specs.declared.books.Books.{Books}
use Rattle.r10_cursor.specs.declared.judged_file.JudgedFile.{JudgedFile}
use Rattle.r10_volume.specs.Mounting.{IsUsable}

-- the count of the last tick
abbrev pub tick_count : Option Tick → Option ℕ
tick_count None = None
tick_count (Some tick) = Some tick.count

-- The file that is recorded goes on with times, events and what the lanes give: it carries entries of which none is later than
-- what may come, and the medium shows the first of them, so many.
-- It costs no more than there is of the medium; the directory lists it last.
pub record IsRecorded {L : Type 0} (spec_of : L → ChannelSpec) (reached : L → ℕ) (s : Config) (tick : Option Tick)
    (last_event : Option ℕ) (image : Image) (chain : List ChainBlock) (o : OpenState) (lanes : List L) : Type 0 where
  pub text : List ℕ
  pub entries : List Entry
  pub shown : ℕ
  pub carries : IsShown image o text entries shown
  pub lanes_end : AllEnd spec_of reached lanes entries
  pub times_end : EndsBy s.time (count_or_0 (tick_count tick)) entries
  pub events_end : EndsBy s.event (count_or_0 last_event) entries
  pub ticked : IsSome tick
  pub time_is : o.recording.time ≡ s.time
  pub event_is : o.recording.event ≡ s.event
  pub builders : AllByRecursion (λ (spec : ChannelSpec). HasBuilder spec o.recording.builders) s.channels
  pub room : AllByRecursion HasRoomForTwo o.recording.builders
  pub counts : length o.recording.counts ≡ 4096
  pub cost : 512 * first_of o.recording.out.blocks + o.recording.cost ≤ 512 * s.blocks
  pub on : MayGoOn o image chain
  pub listed : IsSomeAnd (last_or None (listed_files chain))
      (λ (e : DirectoryEntry). e.first_block ≡ first_of o.recording.out.blocks)

-- a directory in use is one that a recorder can use
abbrev pub OwnsWork : {L : Type 0} → (L → ChannelSpec) → (L → ℕ) → Kept → Work → Image → List L → Type 0
OwnsWork spec_of reached k unmounted image lanes = Unit {0}
OwnsWork spec_of reached k (idle chain) image lanes = IsUsable k.config.directory image chain
OwnsWork spec_of reached k (recording chain o) image lanes = IsUsable k.config.directory image chain
    × IsRecorded spec_of reached k.config k.tick k.last_event image chain o lanes
OwnsWork spec_of reached k failed image lanes = Unit {0}

-- the files of a directory in use, but for the one that is recorded
abbrev pub ended_files : Work → List DirectoryEntry
ended_files unmounted = listed_files []
ended_files (idle chain) = listed_files chain
ended_files (recording chain o) = take (length (listed_files chain) - 1) (listed_files chain)
ended_files failed = listed_files []

-- what is kept of a file that was judged is kept of the file of its number
abbrev pub AreJudged : List DirectoryEntry → Image → List JudgedFile → Type 0
AreJudged entries image judged = AllByRecursion (λ (k : JudgedFile). IsSomeAnd (slice_get entries k.file) (λ e. IsUnder image e k))
    judged

-- what is known of files is known of those that are there, while a directory is in use
abbrev pub OwnsBooks : Work → Image → Books → Type 0
OwnsBooks unmounted image books = Unit {0}
OwnsBooks failed image books = Unit {0}
OwnsBooks work image books = AreJudged (ended_files work) image books.kept.items

pub record Owns {L : Type 0} (spec_of : L → ChannelSpec) (reached : L → ℕ) (k : Kept) (image : Image) (lanes : List L)
    (books : Books) : Type 0 where
  pub limits : IsConfig k.config
  pub blocks : length image ≡ k.config.blocks
  pub specs : map spec_of lanes ≡ k.config.channels
  pub generation : k.generation < 2 ^ 64
  pub taken : length k.taken ≡ length k.config.channels
  pub erased : length k.erased ≡ length k.config.channels
  pub work : OwnsWork spec_of reached k k.work image lanes
  pub judged : OwnsBooks k.work image books
