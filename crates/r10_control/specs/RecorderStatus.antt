-- What a recorder tells of itself.
use Rattle.std.specs.Prelude.{◌≡◌, ℕ, ◌-◌, ◌==◌, List, [], ◌∷◌, length, map, Option, None, Some, IfSome, slice_get}
use Rattle.std.specs.List.{last_or, position}
use Rattle.std.specs.Option.{option_and_then}
use Rattle.r10_body.specs.declared.entry.Sample.{Sample}
use Rattle.r10_body.specs.declared.spec.ChannelSpec.{ChannelSpec}
use Rattle.r10_dirblock.specs.declared.entry.Entry.{Entry as DirectoryEntry}
use Rattle.r10_dirchain.specs.Chain.{listed_files}
use Rattle.r10_dirchain.specs.declared.chain.ChainBlock.{ChainBlock}
use Rattle.r10_volume.specs.Holding.{OpenState}
use Rattle.r10_machine.specs.Config.{Config}
use Rattle.r10_machine.specs.Machine.{Lane}
use Rattle.r10_machine.specs.Room.{area_from}
use Rattle.r10_machine.specs.declared.mode.Mode.{Mode}
use Rattle.r10_machine.specs.declared.mode.Mode.TheVariants as modes
use Rattle.r10_refinement.specs.KeptState.{Kept, Work, mode_of, unmounted, idle, recording, failed}
use Rattle.r10_control.specs.Checks.{files_of}
use Rattle.r10_control.specs.Owns.{tick_count}
use Rattle.r10_machine.specs.Finding.{channel_status}
use Rattle.r10_machine.specs.declared.reply.ChannelStatus.{ChannelStatus}
use Rattle.r10_machine.specs.declared.reply.Status.{Status}
use Rattle.r10_volume.specs.Listing.{block_behind}
use Rattle.r10_control.specs.declared.status.LaneStatus.{LaneStatus}
use Rattle.r10_control.specs.declared.status.RecorderStatus.{RecorderStatus}
pub use Rattle.r10_volume.specs.Listing.{info_in}

-- the bytes that the file that is recorded has left: from its first block on, without what it costs
abbrev pub left_in : Config → List ChainBlock → OpenState → ℕ
left_in s chain o = elim (last_or None (listed_files chain)) [ None ↦ 0 | Some e ↦ area_from s e.first_block - o.recording.cost ]

-- and those that the next file may have, where none is recorded
abbrev pub free_in : Config → Work → ℕ
free_in s unmounted = 0
free_in s (idle chain) = area_from s (block_behind s.directory (listed_files chain))
free_in s (recording chain o) = left_in s chain o
free_in s failed = 0

-- how the channels are, where erases took so many of their entries
abbrev pub channels_in : Mode → List Lane → List ℕ → List ChannelStatus
channels_in mode [] erased = []
channels_in mode (l ∷ lanes) [] = []
channels_in mode (l ∷ lanes) (e ∷ erased) = channel_status mode (record l { erased = e }) ∷ channels_in mode lanes erased

abbrev pub status_in : Kept → List Lane → Status
status_in k lanes = record {
  mode = mode_of k.work;
  tick = tick_count k.tick;
  files = length (files_of k.work);
  free = free_in k.config k.work;
  channels = channels_in (mode_of k.work) lanes k.erased;
}

-- ---- whatever the lanes

-- what is reported of so many entries that erases took: none of a recorder that failed
abbrev pub erased_told : Mode → ℕ → ℕ
erased_told mode erased = elim mode [ modes.Failed ↦ 0 | _ ↦ erased ]

-- this is reported of a lane: its channel; how many it holds, all that waits where it is quiet; and what erases took
abbrev pub TellsLane : {L : Type 0} → (L → Option (List Sample)) → (L → ChannelSpec) → Mode → L → ℕ → LaneStatus → Type 0
TellsLane quiet spec_of mode lane erased reported = (reported.channel ≡ (spec_of lane).id)
    × IfSome (quiet lane) (λ waiting. reported.held ≡ length waiting) × (reported.erased ≡ erased_told mode erased)

abbrev pub TellsLanes : {L : Type 0} → (L → Option (List Sample)) → (L → ChannelSpec) → Mode → List L → List ℕ → List LaneStatus
    → Type 0
TellsLanes quiet spec_of mode [] [] [] = Unit {0}
TellsLanes quiet spec_of mode (lane ∷ lanes) (e ∷ erased) (reported ∷ rest) = TellsLane quiet spec_of mode lane e reported
    × TellsLanes quiet spec_of mode lanes erased rest
TellsLanes quiet spec_of mode lanes erased reported = ⊥

-- this is reported of a recorder
pub record TellsRecorder {L : Type 0} (quiet : L → Option (List Sample)) (spec_of : L → ChannelSpec) (k : Kept) (lanes : List L)
    (reported : RecorderStatus) : Type 0 where
  pub mode : reported.mode ≡ mode_of k.work
  pub tick : reported.tick ≡ tick_count k.tick
  pub files : reported.files ≡ length (files_of k.work)
  pub free : reported.free ≡ free_in k.config k.work
  pub channels : TellsLanes quiet spec_of (mode_of k.work) lanes k.erased reported.channels

-- what the machine tells of itself, but for what was lost
abbrev pub held_of : ChannelStatus → LaneStatus
held_of c = record { channel = c.channel; held = c.waiting; erased = c.erased }

abbrev pub without_lost : Status → RecorderStatus
without_lost s = record { mode = s.mode; tick = s.tick; files = s.files; free = s.free; channels = map held_of s.channels }

-- ---- without memory

-- of so many files the last is this one: its number, and its bytes
abbrev pub shown_as_last : ℕ → Option DirectoryEntry → Option (ℕ × ℕ)
shown_as_last files None = None
shown_as_last files (Some e) = Some (files - 1, e.size)

-- the number of the last file of the directory in use, and the bytes that the medium shows of it
abbrev pub last_shown : Work → Option (ℕ × ℕ)
last_shown work = shown_as_last (length (files_of work)) (last_or None (files_of work))

-- the number of a channel, where numbers stand in the order of the channels
abbrev pub number_on : ℕ → List ChannelSpec → List ℕ → Option ℕ
number_on channel channels numbers = option_and_then (slice_get numbers)
    (position (λ (spec : ChannelSpec). spec.id == channel) channels)
