-- What a call inside the recorder is: one record, by what it is given, before and after it, and its answer.
use Rattle.std.specs.Prelude.{◌≡◌, ℕ, ◌≤◌, ◌⊎◌, true, List, [], ◌∷◌, ◌++◌, length, map, max, take, Option, None, Some}
use Rattle.std.specs.Prelude.{Result, IfErr, IfOk, IfSome, OnErr, OnOk, MatchResult}
use Rattle.std.specs.List.{AllByRecursion}
use Rattle.r10_medium.specs.Disk.{Disk}
use Rattle.r10_medium.specs.PowerLoss.{Leaves, Settled}
use Rattle.r10_count.specs.Checks.{first_broken}
use Rattle.r10_count.specs.declared.civil.Parts.{Parts}
use Rattle.r10_blockout.specs.Output.{first_of, size_of}
use Rattle.r10_body.specs.Packets.{Packet}
use Rattle.r10_body.specs.declared.entry.Sample.{Sample}
use Rattle.r10_body.specs.declared.refusal.Refusal.{Refusal}
use Rattle.r10_body.specs.declared.spec.ChannelSpec.{ChannelSpec}
use Rattle.r10_builder.specs.Grows.{all_held}
use Rattle.r10_builder.specs.LeftOpen.{LeavesOpen, closing, still_open}
use Rattle.r10_builder.specs.Settings.{is_old}
use Rattle.r10_cursor.specs.Replays.{AdvancesReading}
use Rattle.r10_cursor.specs.declared.cursor.Cursor.{Cursor as CursorValue}
use Rattle.r10_dirblock.specs.Block.{begun_entry, sized}
use Rattle.r10_dirchain.specs.Chain.{listed_files}
use Rattle.r10_dirchain.specs.OnMedium.{IsPublished}
use Rattle.r10_dirchain.specs.Steps.{added, last_listed, updated}
use Rattle.r10_dirchain.specs.declared.chain.ChainBlock.{ChainBlock}
use Rattle.r10_machine.specs.Bytes.{KeepBytes}
use Rattle.r10_machine.specs.Calls.{empty_file, shown_whole, time_entry}
use Rattle.r10_machine.specs.Checks.{mounted_checks}
use Rattle.r10_machine.specs.Config.{Config}
use Rattle.r10_machine.specs.Machine.{File, Tick}
use Rattle.r10_machine.specs.Room.{fits as has_room}
use Rattle.r10_machine.specs.Says.{MediumSays}
use Rattle.r10_machine.specs.declared.mode.Stopped.{Stopped}
use Rattle.r10_mux.specs.Writes.{next_event}
use Rattle.r10_openfile.specs.AtOnce.{BeginsAtOnce, SparesFront, TurnsAtOnce}
use Rattle.r10_openfile.specs.Carrying.{EndsIndexed}
use Rattle.r10_openfile.specs.Keeping.{Becomes, Keeps, ListsLast, StaysKept, StopKeepsFiles}
use Rattle.r10_openfile.specs.Pumping.{EndsBy}
use Rattle.r10_openfile.specs.Starting.{begins_within, begun_file}
use Rattle.r10_openfile.specs.Stopping.{AllEnd, TellsWaiting, TookAll, most_of}
use Rattle.r10_packetout.specs.Carries.{time_entry_at}
use Rattle.r10_refinement.specs.KeptState.{mode_of}
use Rattle.r10_seal.specs.Sealing.{listing_block}
use Rattle.r10_volume.specs.Front.{KeepsFront}
use Rattle.r10_volume.specs.Holding.{HoldsFiles, OpenState}
use Rattle.r10_volume.specs.Listing.{block_behind}
use Rattle.r10_volume.specs.Mounting.{IsUsable}
use Rattle.r10_control.specs.Closing.{IsListedClosed, SaysStopped, StopCloses, StopFails}
use Rattle.r10_control.specs.Effects.{closed_listing}
use Rattle.r10_control.specs.Fronts.{sized_listing}
use Rattle.r10_control.specs.Reading.{IsReadAt, IsReadFileRefusal, OnlyReads, ShowsAt}
use Rattle.r10_control.specs.Recording.{MaySayShown, ShowsNot, ShowsOpenWhole, TakesInEntry, TakesNot}
use Rattle.r10_control.specs.Refused.{RefusesCall}
use Rattle.r10_control.specs.Started.{IsStarted, StartsNot}
use Rattle.r10_control.specs.State.{RecorderState}
use Rattle.r10_control.specs.Taking.{NoneBehind, PumpedLane, ShowsFirst, one_part}
use Rattle.r10_control.specs.PumpFaults.{PumpFault}
use Rattle.r10_control.specs.declared.recording.CommitFault.{CommitFault}
use Rattle.r10_control.specs.declared.recording.EntryFault.{EntryFault}
use Rattle.r10_control.specs.declared.starting.StartFault.{StartFault}

-- ---- samples from lanes

-- What waits first in a lane is taken into the file that is recorded, at most so many and up to a sample that has no room.
pub record PumpsFirst {M L : Type 0} (took : L → List Sample → L → Type 0) (shows : L → Sample → Type 0)
    (quiet : L → Option (List Sample)) (reached : L → ℕ) (spec_of : L → ChannelSpec) (disk : M → Disk) (most area : ℕ)
    (lane lane' : L) (o : OpenState) (m : M) (o' : OpenState) (m' : M) (result : Result ℕ PumpFault) : Type 0 where
  pub pumped : PumpedLane (λ samples. took lane samples lane')
      (λ samples rest. IfSome (quiet lane) (λ waiting. waiting ≡ samples ++ rest)) (λ rest. quiet lane ≡ None → rest ≡ [])
      (ShowsFirst (shows lane') (λ first rest. quiet lane ≡ None → rest ≡ first ∷ [])) (EndsBy (spec_of lane).id (reached lane))
      (EndsBy (spec_of lane).id (reached lane')) disk (spec_of lane).id (spec_of lane).capacity most area o m o' m' result
  pub bytes : (s : Config) (chain : List ChainBlock) (files : List File) (f : File)
      → HoldsFiles s (disk m).blocks chain (Some o) (files ++ f ∷ []) → EndsBy (spec_of lane).id (reached lane) f.entries
      → KeepBytes (disk m).blocks (disk m').blocks (files ++ f ∷ [])
  pub moments : (s : Config) (chain : List ChainBlock) (files : List File) (f : File)
      → HoldsFiles s (disk m).blocks chain (Some o) (files ++ f ∷ []) → EndsBy (spec_of lane).id (reached lane) f.entries
      → StaysKept s files f (disk m) (disk m')
  pub front : (reserved : ℕ) → KeepsFront reserved (first_of o.recording.out.blocks) (disk m).blocks (disk m').blocks
  pub spares : SparesFront (first_of o.recording.out.blocks) (disk m) (disk m')
  pub blocks : length (disk m').blocks ≡ length (disk m).blocks
  pub failures : (disk m).failures ≤ (disk m').failures

-- The same of the lane of a channel among all.
pub record PumpsFirstAt {M L : Type 0} (took : L → List Sample → L → Type 0) (shows : L → Sample → Type 0)
    (quiet : L → Option (List Sample)) (reached : L → ℕ) (spec_of : L → ChannelSpec) (disk : M → Disk) (channel most area : ℕ)
    (lanes lanes' : List L) (o : OpenState) (m : M) (o' : OpenState) (m' : M) (result : Result ℕ PumpFault) : Type 0 where
  pub pumped : PumpedLane (λ samples. TookAll took spec_of (one_part channel samples [] ∷ []) lanes lanes')
      (λ samples rest. AllByRecursion (TellsWaiting quiet spec_of lanes) (one_part channel samples rest ∷ []))
      (λ rest. NoneBehind quiet spec_of lanes (one_part channel [] rest))
      (ShowsFirst (λ first. AllByRecursion (λ lane. (spec_of lane).id ≡ channel → shows lane first) lanes')
      (λ first rest. AllByRecursion (λ lane. (spec_of lane).id ≡ channel → quiet lane ≡ None → rest ≡ first ∷ []) lanes))
      (AllEnd spec_of reached lanes) (AllEnd spec_of reached lanes') disk channel (most_of (map spec_of lanes) channel) most area
      o m o' m' result
  pub specs : map spec_of lanes' ≡ map spec_of lanes
  pub bytes : (s : Config) (chain : List ChainBlock) (files : List File) (f : File)
      → HoldsFiles s (disk m).blocks chain (Some o) (files ++ f ∷ []) → AllEnd spec_of reached lanes f.entries
      → KeepBytes (disk m).blocks (disk m').blocks (files ++ f ∷ [])
  pub moments : (s : Config) (chain : List ChainBlock) (files : List File) (f : File)
      → HoldsFiles s (disk m).blocks chain (Some o) (files ++ f ∷ []) → AllEnd spec_of reached lanes f.entries
      → StaysKept s files f (disk m) (disk m')
  pub front : (reserved : ℕ) → KeepsFront reserved (first_of o.recording.out.blocks) (disk m).blocks (disk m').blocks
  pub spares : SparesFront (first_of o.recording.out.blocks) (disk m) (disk m')
  pub blocks : length (disk m').blocks ≡ length (disk m).blocks
  pub failures : (disk m).failures ≤ (disk m').failures

-- ---- a time, an event, a commit

-- A tick's time is taken into the file, and of the open packets those are closed that are old by its count.
pub record TakesInTime {M T : Type 0} (disk : M → Disk) (config : Config) (tick : Tick) (o : OpenState) (m : M) (o' : OpenState)
    (m' : M) (result : Result T EntryFault) : Type 0 where
  pub taken : MatchResult result (λ _. TakesInEntry config (time_entry_at config.time tick.count tick.civil) o (disk m).blocks o'
      (disk m').blocks) (λ fault. TakesNot disk config (time_entry_at config.time tick.count tick.civil) o m o' m' fault)
  pub closes : OnOk result (LeavesOpen (closing (is_old tick.count)) o.recording.builders o'.recording.builders)
  pub bytes : (s : Config) (chain : List ChainBlock) (files : List File) (f : File)
      → HoldsFiles s (disk m).blocks chain (Some o) (files ++ f ∷ [])
      → KeepBytes (disk m).blocks (disk m').blocks (files ++ f ∷ [])
  pub moments : (s : Config) (chain : List ChainBlock) (files : List File) (f : File)
      → HoldsFiles s (disk m).blocks chain (Some o) (files ++ f ∷ []) → StaysKept s files f (disk m) (disk m')
  pub front : (reserved : ℕ) → KeepsFront reserved (first_of o.recording.out.blocks) (disk m).blocks (disk m').blocks
  pub spares : SparesFront (first_of o.recording.out.blocks) (disk m) (disk m')
  pub blocks : length (disk m').blocks ≡ length (disk m).blocks
  pub failures : (disk m).failures ≤ (disk m').failures

-- An event is taken into the file, and no packet is closed.
pub record TakesInEvent {M T : Type 0} (disk : M → Disk) (config : Config) (number count : ℕ) (o : OpenState) (m : M)
    (o' : OpenState) (m' : M) (result : Result T EntryFault) : Type 0 where
  pub taken : MatchResult result (λ _. TakesInEntry config (next_event o.recording number count) o (disk m).blocks o'
      (disk m').blocks) (λ fault. TakesNot disk config (next_event o.recording number count) o m o' m' fault)
  pub closes : OnOk result (LeavesOpen still_open o.recording.builders o'.recording.builders)
  pub bytes : (s : Config) (chain : List ChainBlock) (files : List File) (f : File)
      → HoldsFiles s (disk m).blocks chain (Some o) (files ++ f ∷ [])
      → KeepBytes (disk m).blocks (disk m').blocks (files ++ f ∷ [])
  pub moments : (s : Config) (chain : List ChainBlock) (files : List File) (f : File)
      → HoldsFiles s (disk m).blocks chain (Some o) (files ++ f ∷ []) → StaysKept s files f (disk m) (disk m')
  pub front : (reserved : ℕ) → KeepsFront reserved (first_of o.recording.out.blocks) (disk m).blocks (disk m').blocks
  pub spares : SparesFront (first_of o.recording.out.blocks) (disk m) (disk m')
  pub blocks : length (disk m').blocks ≡ length (disk m).blocks
  pub failures : (disk m).failures ≤ (disk m').failures

-- All that the file has is shown: the directory lists it last, with its bytes.
pub record ShowsOpenFile {M T : Type 0} (disk : M → Disk) (chain : List ChainBlock) (o : OpenState) (m : M)
    (chain' : List ChainBlock) (o' : OpenState) (m' : M) (result : Result T CommitFault) : Type 0 where
  pub shown : MatchResult result (λ _. ShowsOpenWhole chain o (disk m).blocks chain' o' (disk m').blocks)
      (λ fault. ShowsNot disk chain o m chain' o' m' fault)
  pub listed : OnOk result ((chain' ≡ updated (sized (size_of o'.recording.out.blocks) (last_listed chain)) chain) × IsPublished
      chain' (disk m'))
  pub none : OnOk result (all_held o'.recording.builders ≡ [])
  pub says : (s : Config) (files : List File) (f : File) → HoldsFiles s (disk m).blocks chain (Some o) (files ++ f ∷ [])
      → OnErr result (MaySayShown s (disk m').blocks files f)
  pub bytes : (s : Config) (files : List File) (f : File) → HoldsFiles s (disk m).blocks chain (Some o) (files ++ f ∷ [])
      → KeepBytes (disk m).blocks (disk m').blocks (files ++ f ∷ [])
  pub moments : (s : Config) (files : List File) (f : File) → HoldsFiles s (disk m).blocks chain (Some o) (files ++ f ∷ [])
      → Becomes s files f (files ++ shown_whole (size_of o'.recording.out.blocks) f ∷ []) (disk m) (disk m')
  pub front : (reserved : ℕ) → IsUsable reserved (disk m).blocks chain
      → KeepsFront reserved (first_of o.recording.out.blocks) (disk m).blocks (disk m').blocks
  pub at_once : (size : ℕ) × TurnsAtOnce (first_of o.recording.out.blocks) (sized_listing size chain) [] (listing_block chain)
      (disk m) (disk m')
  pub blocks : length (disk m').blocks ≡ length (disk m).blocks
  pub failures : (disk m).failures ≤ (disk m').failures

-- ---- a file begins and ends

-- A file is begun after those of the directory, which are closed.
pub record StartsFile {M : Type 0} (disk : M → Disk) (s : Config) (clock : Tick) (name setup : List ℕ) (chain : List ChainBlock)
    (m : M) (chain' : List ChainBlock) (m' : M) (result : Result OpenState StartFault) : Type 0 where
  pub holds : (files : List File) → HoldsFiles s (disk m).blocks chain None files
      → IfOk result (λ file. HoldsFiles s (disk m').blocks chain' (Some file)
      (files ++ begun_file s files name setup clock.count clock.civil ∷ []))
  pub failed : (files : List File) → HoldsFiles s (disk m).blocks chain None files
      → IfErr result (λ _. MediumSays s (disk m').blocks files ⊎ MediumSays s (disk m').blocks
      (files ++ begun_file s files name setup clock.count clock.civil ∷ []))
  pub moments : (files : List File) → HoldsFiles s (disk m).blocks chain None files
      → Settled (λ image. MediumSays s image files) (disk m)
      → Leaves (λ image. MediumSays s image files ⊎ MediumSays s image
      (files ++ begun_file s files name setup clock.count clock.civil ∷ [])) (disk m) (disk m')
  pub fits : (files : List File) → HoldsFiles s (disk m).blocks chain None files
      → has_room s (empty_file s files name setup) (time_entry s clock) ≡ begins_within s (listed_files chain) setup clock.count
      clock.civil
  pub refused : IfErr result (StartsNot (begins_within s (listed_files chain) setup clock.count clock.civil) m m'
      (disk m).failures (disk m').failures)
  pub started : IfOk result (λ file. IsStarted s clock setup chain (disk m').blocks chain' file)
  pub writes : KeepsFront s.directory (block_behind s.directory (listed_files chain)) (disk m).blocks (disk m').blocks
      × ((disk m).failures ≤ (disk m').failures)
  -- at every moment the directory is the old or the new one, and blocks before the file stay
  pub at_once : BeginsAtOnce name clock.civil (block_behind s.directory (listed_files chain)) chain (disk m) (disk m')
  pub kept : IfErr result (λ _. chain' ≡ chain)
  pub listed : IfOk result (λ file. (chain' ≡ added
      (sized (size_of file.recording.out.blocks) (begun_entry name (first_of file.recording.out.blocks) clock.civil)) chain)
      × IsPublished chain' (disk m') × (begins_within s (listed_files chain) setup clock.count clock.civil ≡ true))

-- What waits in all lanes is taken in, channel by channel in this order, and the file is closed at this time, with its index in
-- groups of so many nodes.
pub record StopsFile {M L E : Type 0} (took : L → List Sample → L → Type 0) (quiet : L → Option (List Sample)) (reached : L → ℕ)
    (spec_of : L → ChannelSpec) (disk : M → Disk) (order shares : List ℕ) (nodes area : ℕ) (civil : Parts) (lanes lanes' : List L)
    (chain : List ChainBlock) (o : OpenState) (m : M) (chain' : List ChainBlock) (m' : M) (result : Result Stopped E) : Type 0 where
  pub closed : IfOk result (StopCloses took quiet reached spec_of order shares area lanes lanes' o (disk m).blocks
      (disk m').blocks chain chain')
  pub failed : OnErr result (StopFails took quiet reached spec_of order shares area lanes lanes' o (disk m) (disk m') chain)
  pub bytes : (s : Config) (files : List File) (f : File) → HoldsFiles s (disk m).blocks chain (Some o) (files ++ f ∷ [])
      → AllEnd spec_of reached lanes f.entries → KeepBytes (disk m).blocks (disk m').blocks (files ++ f ∷ [])
  pub moments : (s : Config) (files : List File) (f : File) → HoldsFiles s (disk m).blocks chain (Some o) (files ++ f ∷ [])
      → AllEnd spec_of reached lanes f.entries → StopKeepsFiles s files f (disk m)
      → Leaves (λ image. Keeps s files f (disk m).blocks image ⊎ SaysStopped took quiet reached spec_of order shares area lanes
      lanes' o (disk m).blocks chain s files f image) (disk m) (disk m')
  pub specs : map spec_of lanes' ≡ map spec_of lanes
  pub usable : (reserved : ℕ) → IsUsable reserved (disk m).blocks chain → ListsLast (first_of o.recording.out.blocks) chain
      → OnOk result (IsUsable reserved (disk m').blocks chain')
  pub front : (reserved : ℕ) → IsUsable reserved (disk m).blocks chain
      → KeepsFront reserved (first_of o.recording.out.blocks) (disk m).blocks (disk m').blocks
  -- at every moment the directory is the old or the new one, and blocks before the file stay
  pub at_once : (size : ℕ) × TurnsAtOnce (first_of o.recording.out.blocks) (closed_listing civil size chain) []
      (listing_block chain) (disk m) (disk m')
  pub ends : OnOk result (IsListedClosed civil chain chain' (disk m'))
      × (ListsLast (first_of o.recording.out.blocks) chain → OnOk result
      (EndsIndexed nodes (first_of o.recording.out.blocks) (disk m').blocks chain'))
  pub counts : (length (disk m').blocks ≡ length (disk m).blocks) × ((disk m).failures ≤ (disk m').failures)

-- ---- a cursor

-- The next instalment of a cursor that passed the checks, of the packets of its file before a place alone, or of those that it has
-- covered.
pub record AdvancesCheckedTo {M L : Type 0} (until : ℕ) (disk : M → Disk) (before after : RecorderState M L)
    (was next : CursorValue) (answer : Result ℕ Refusal) : Type 0 where
  pub passed : OnOk answer (first_broken (mounted_checks (mode_of before.kept.work)) ≡ None)
  pub refused : IfErr answer (RefusesCall disk (first_broken (mounted_checks (mode_of before.kept.work)))
      (IsReadFileRefusal before.kept.work (disk before.medium).blocks was.file) before.kept after.kept before.medium after.medium)
  pub advances : (packets : List Packet) → ShowsAt before.kept.work (disk before.medium).blocks was.file packets
      → OnOk answer (AdvancesReading was.reading next.reading (take (max until was.reading.covered) packets))
  pub queued : IfOk answer (λ n. n ≡ length next.reading.queue)
  -- where it is refused, the cursor stays
  pub cursor : OnErr answer (next ≡ was)
  pub place : (next.file ≡ was.file) × (next.generation ≡ was.generation)
  pub there : OnOk answer (IsReadAt before.kept.work (disk before.medium).blocks was.file)
  pub reads : OnlyReads disk before after answer
