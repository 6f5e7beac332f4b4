-- What the laws of a file that is recorded say: calls that do nothing.
use Rattle.std.specs.Prelude.{◌≡◌, ◌<◌, ◌≤◌, ◌++◌, ℕ, true, List, ◌∷◌, [], Option, None, Some, IfSome, length, map, min}
use Rattle.std.specs.List.{AllByRecursion, sum_by}
use Rattle.r10_medium.specs.Disk.{Image, IsWhole}
use Rattle.r10_body.specs.declared.entry.Entry.{Entry}
use Rattle.r10_body.specs.declared.entry.Sample.{Sample}
use Rattle.r10_packetout.specs.Carries.{Recording}
use Rattle.r10_dirblock.specs.declared.entry.Entry.{Entry as DirectoryEntry}
use Rattle.r10_dirchain.specs.OnMedium.{Turned}
use Rattle.r10_dirchain.specs.Steps.{added, last_block, spare}
use Rattle.r10_dirchain.specs.declared.chain.ChainBlock.{ChainBlock}
use Rattle.r10_volume.specs.Holding.{HoldsFiles}
use Rattle.r10_machine.specs.Calls.{Pumps, Stops, closed_whole, lanes_without, without}
use Rattle.r10_machine.specs.Checks.{is_sealed}
use Rattle.r10_machine.specs.Config.{Config}
use Rattle.r10_machine.specs.EventChecks.{most_files}
use Rattle.r10_machine.specs.Machine.{File, Lane, Machine, change_first, change_last, is_channel, lane_of, last_file}
use Rattle.r10_machine.specs.Machine.{last_size, with_entries, with_lane, with_last}
use Rattle.r10_machine.specs.Room.{next_block}
use Rattle.r10_machine.specs.Says.{Lists, MediumSays}
use Rattle.r10_machine.specs.Step.{Lacks, LanesAfter}
use Rattle.r10_machine.specs.declared.event.Event.TheVariants.{Pump}
use Rattle.r10_machine.specs.declared.mode.Mode.TheVariants.{Idle}
use Rattle.r10_machine.specs.declared.mode.Stopped.{Stopped}
use Rattle.r10_mux.specs.declared.fault.Full.{Full}
use Rattle.r10_openfile.specs.Begun.{IsBegun, IsPut}
use Rattle.r10_openfile.specs.Machines.{StopMovesAll, IsPumpedInto, refusal_of_full}
use Rattle.r10_openfile.specs.Pumping.{EndsBy, PumpEnds, entries_on}
use Rattle.r10_openfile.specs.Stopping.{ChannelsAreApart, Part, entries_of}

-- ---- pumps and stops, as the machine sees them

-- what a pump moved is what the machine's pump moves: its entries join the file, and the lane is without them
abbrev pub PumpsAreSteps : Type 0
PumpsAreSteps =
    (s : Config) (m : Machine) (f : File) (channel : ℕ) (lane : Lane) (most n : ℕ) (samples rest : List Sample)
    (full : Option Full) (r : Recording) → lane_of channel m ≡ Some lane → last_file m ≡ Some f
    → IsPumpedInto s f lane most n samples rest full r → (n ≡ 0 → full ≡ None)
    → Pumps s m channel most n (with_last (with_entries (entries_on lane.spec.id samples)) (with_lane channel (without n) m))

-- where it moved nothing because the first sample lacks room, it does in the machine
abbrev pub FullPumpsAreRefused : Type 0
FullPumpsAreRefused =
    (s : Config) (m : Machine) (f : File) (channel : ℕ) (lane : Lane) (most : ℕ) (samples rest : List Sample)
    (full : Full) (r : Recording) → lane_of channel m ≡ Some lane → last_file m ≡ Some f
    → IsPumpedInto s f lane most 0 samples rest (Some full) r → Lacks s m (Pump channel most) (refusal_of_full full)

-- one whose limit was lowered to what waited in its lane ends as one with the higher limit; where it isn't known what waited,
-- there is a rest with which that one ends so
abbrev pub PumpsEndAlike : Type 0
PumpsEndAlike =
    (waits : Option (List Sample)) (samples rest : List Sample) (r : Recording) (channel area most larger n : ℕ)
    (full : Option Full)
    → IfSome waits (λ waiting. waiting ≡ samples ++ rest) → IfSome waits (λ waiting. most ≡ min larger (length waiting))
    → most ≤ larger → n ≡ length samples → PumpEnds r channel area most n rest full → (later : List Sample)
    × IfSome waits (λ waiting. waiting ≡ samples ++ later) × PumpEnds r channel area larger n later full

-- what it took from its lane before the medium failed is no more than it may
abbrev pub FailedPumpsTakeFew : Type 0
FailedPumpsTakeFew =
    (channel most n : ℕ) (lanes : List Lane) → n ≤ most
    → LanesAfter (Pump channel most) lanes lanes (change_first (is_channel channel) (without n) lanes)

-- where each lane is of a channel of its own, and as many are left as parts leave, the step is that of the machine's stop
abbrev pub StopsAreWholeSteps : Type 0
StopsAreWholeSteps =
    (s : Config) (m : Machine) (f : File) (answer : Stopped) (parts : List Part) (r : Recording) (new : Machine)
    → last_file m ≡ Some f → StopMovesAll s f m.lanes parts answer.taken r → ChannelsAreApart (map (λ lane. lane.spec) m.lanes)
    → answer.left ≡ sum_by (λ p. length p.rest) parts → new ≡ record m {
      mode = Idle;
      lanes = lanes_without (entries_of parts) m.lanes;
      files = change_last (λ g. closed_whole (last_size new) (with_entries (entries_of parts) g)) m.files;
    } → Stops s m answer new

-- ---- other channels

-- entries of other channels leave where a channel ends: single ones, as times and events
abbrev pub OthersLeaveEnds : Type 0
OthersLeaveEnds =
    (channel count : ℕ) (entries more : List Entry) → AllByRecursion (λ e. e.channel ≡ channel → ⊥) more
    → EndsBy channel count entries → EndsBy channel count (entries ++ more)

-- and samples of another lane
abbrev pub SamplesLeaveEnds : Type 0
SamplesLeaveEnds =
    (channel other count : ℕ) (entries : List Entry) (samples : List Sample) → (other ≡ channel → ⊥)
    → EndsBy channel count entries → EndsBy channel count (entries ++ entries_on other samples)

-- ---- a file begins

-- while a file is written after all others, what the medium says of them stays
abbrev pub OthersStaySaid : Type 0
OthersStaySaid =
    (s : Config) (files : List File) (bytes : List ℕ) (old new : Image) → IsWhole old → IsPut (next_block s files) bytes old new
    → MediumSays s old files → MediumSays s new files

-- and so does their directory
abbrev pub OthersStayHeld : Type 0
OthersStayHeld =
    (s : Config) (files : List File) (bytes : List ℕ) (old new : Image) → IsWhole old → IsPut (next_block s files) bytes old new
    → (chain : List ChainBlock) → HoldsFiles s old chain None files → HoldsFiles s new chain None files

-- once it is listed after closed files, where the directory has a place for it, it is the one that is written
abbrev pub BegunFilesAreHeld : Type 0
BegunFilesAreHeld =
    (s : Config) (old new : Image) (chain : List ChainBlock) (files : List File) (r : Recording) (f : File)
    (e : DirectoryEntry) → IsWhole old → HoldsFiles s old chain None files → IsBegun s old files r f → is_sealed files ≡ true
    → length files < most_files s → Lists f e → Turned (added e chain) ((last_block chain).number ∷ spare chain) old new
    → HoldsFiles s new (added e chain) (Some (record { recording = r; shown = length r.out.entries })) (files ++ f ∷ [])
