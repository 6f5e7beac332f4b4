-- What each call checks, by what a recorder keeps: first broken, first answered.
use Rattle.std.specs.Prelude.{◌≡◌, ℕ, List, [], ◌∷◌, ◌++◌, length, map, not, Option, None, Some, is_some, nat_lt, find, ◌==◌}
use Rattle.r10_body.specs.declared.refusal.Refusal.{Refusal}
use Rattle.r10_body.specs.declared.refusal.Refusal.TheVariants.{DirectoryFull, NameTaken, NoSuchChannel, NoSuchFile, Unsealed}
use Rattle.r10_body.specs.declared.spec.ChannelSpec.{ChannelSpec}
use Rattle.r10_count.specs.Checks.{first_broken}
use Rattle.r10_dirblock.specs.declared.entry.Entry.{Entry as DirectoryEntry}
use Rattle.r10_dirchain.specs.Chain.{listed_files}
use Rattle.r10_count.specs.declared.civil.Parts.{Parts}
use Rattle.r10_machine.specs.Config.{Config}
use Rattle.r10_machine.specs.Checks.{Check, begin_checks, cursor_checks, idle_checks, mounted_checks, recording_checks}
use Rattle.r10_machine.specs.Checks.{tick_checks, unmounted_checks}
use Rattle.r10_refinement.specs.KeptState.{Kept, Work, mode_of, unmounted, idle, recording, failed}
use Rattle.r10_control.specs.Owns.{tick_count}
use Rattle.r10_cursor.specs.RepresentedCursors.{read_checks}
use Rattle.r10_cursor.specs.declared.cursor.Cursor.{Cursor as CursorValue}
use Rattle.r10_machine.specs.declared.mode.Mode.{Mode}
use Rattle.r10_machine.specs.EventChecks.{count_at_checks, erase_checks, event_checks, find_checks, most_files}
use Rattle.r10_machine.specs.declared.event.Event.{Event as EventValue}
use Rattle.r10_machine.specs.declared.event.Event.TheVariants.{Mount, Dismount, Tick, Start, Offer, Lose, Pump, Event, Commit}
use Rattle.r10_machine.specs.declared.event.Event.TheVariants.{Stop, Seal, Erase, Files, Status, Cursor, Advance, Next, Close}
use Rattle.r10_machine.specs.declared.event.Event.TheVariants.{Find, CountAt}
use Rattle.r10_volume.specs.Listing.{has_name, is_last_closed}

-- the files of the directory in use
abbrev pub files_of : Work → List DirectoryEntry
files_of unmounted = []
files_of (idle chain) = listed_files chain
files_of (recording chain o) = listed_files chain
files_of failed = []

-- ---- by the call

abbrev pub mounting_checks : Kept → List Check
mounting_checks k = unmounted_checks (mode_of k.work)

-- a dismount, and the first of what an erase, a start and a seal check
abbrev pub idling_checks : Kept → List Check
idling_checks k = idle_checks (mode_of k.work)

abbrev pub ticking_checks : ℕ → Parts → Kept → List Check
ticking_checks count parts k = mounted_checks (mode_of k.work) ++ tick_checks (tick_count k.tick) count parts

-- a file of this name may be begun beside these
abbrev pub beside_checks : Config → List DirectoryEntry → List ℕ → List Check
beside_checks s files name =
    (not (has_name name files), NameTaken) ∷ (is_last_closed files, Unsealed)
    ∷ (nat_lt (length files) (most_files s), DirectoryFull) ∷ []

abbrev pub starting_checks : List ℕ → List ℕ → Kept → List Check
starting_checks name setup k =
    idling_checks k ++ begin_checks (is_some k.tick) name setup ++ beside_checks k.config (files_of k.work) name

-- a commit and a stop, and the first of what a pump and an event check
abbrev pub running_checks : Kept → List Check
running_checks k = recording_checks (mode_of k.work)

abbrev pub pumping_checks : ℕ → Kept → List Check
pumping_checks channel k =
    running_checks k ++ (is_some (find (λ (spec : ChannelSpec). spec.id == channel) k.config.channels), NoSuchChannel) ∷ []

abbrev pub noting_checks : ℕ → ℕ → Kept → List Check
noting_checks number count k = running_checks k ++ event_checks k.last_event number count

abbrev pub sealing_checks : Kept → List Check
sealing_checks k = idling_checks k ++ (not (is_last_closed (files_of k.work)), NoSuchFile) ∷ []

abbrev pub erasing_checks : Kept → List Check
erasing_checks k = idling_checks k ++ erase_checks k.generation

abbrev pub finding_checks : ℕ → ℕ → Kept → List Check
finding_checks file count k = mounted_checks (mode_of k.work) ++ find_checks (length (files_of k.work)) file count

abbrev pub counting_checks : ℕ → Parts → Kept → List Check
counting_checks file parts k = mounted_checks (mode_of k.work) ++ count_at_checks (length (files_of k.work)) file parts

-- before a cursor is opened
abbrev pub opening_checks : ℕ → ℕ → ℕ → Kept → List Check
opening_checks file from to k = mounted_checks (mode_of k.work) ++ cursor_checks (length (files_of k.work)) file from to

abbrev pub listing_checks : Kept → List Check
listing_checks k = mounted_checks (mode_of k.work)

abbrev pub no_checks : Kept → List Check
no_checks k = []

-- ---- by the event

abbrev pub recorder_checks : Kept → EventValue → List Check
recorder_checks k Mount = mounting_checks k
recorder_checks k Dismount = idling_checks k
recorder_checks k (Tick count parts) = ticking_checks count parts k
recorder_checks k (Start name setup) = starting_checks name setup k
recorder_checks k (Offer channel count message) = []
recorder_checks k (Lose channel lost) = []
recorder_checks k (Pump channel most) = pumping_checks channel k
recorder_checks k (Event number count) = noting_checks number count k
recorder_checks k Commit = running_checks k
recorder_checks k Stop = running_checks k
recorder_checks k Seal = sealing_checks k
recorder_checks k Erase = erasing_checks k
recorder_checks k Files = listing_checks k
recorder_checks k Status = []
recorder_checks k (Cursor file channels from to) = opening_checks file from to k
recorder_checks k (Advance id) = mounted_checks (mode_of k.work)
recorder_checks k (Next id) = []
recorder_checks k (Close id) = []
recorder_checks k (Find file channel count) = finding_checks file count k
recorder_checks k (CountAt file parts) = counting_checks file parts k

-- the first refusal that applies, without those of files, room, medium and memory
abbrev pub recorder_refusal : Kept → EventValue → Option Refusal
recorder_refusal k event = first_broken (recorder_checks k event)

-- before a cursor goes on: the recorder is mounted, and the cursor is of its generation and read to the end
abbrev pub advancing_checks : Mode → ℕ → CursorValue → List Check
advancing_checks mode generation c = mounted_checks mode ++ read_checks generation (Some c)
