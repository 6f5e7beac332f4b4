-- What calls do that are neither refused nor fail: dismount, recording event, commit, seal, erase, and the calls that only tell.
use Rattle.std.specs.Prelude.{◌≡◌, ℕ, ◌+◌, ◌%◌, ◌≤◌, true, List, [], ◌∷◌, length, map, count_by, Option, Some, IsSomeAnd, slice_get}
use Rattle.std.specs.List.{flat_map}
use Rattle.r10_count.specs.declared.civil.Parts.{Parts}
use Rattle.r10_body.specs.Files.{on_channel}
use Rattle.r10_body.specs.Rules.{is_event_of}
use Rattle.r10_body.specs.declared.entry.Entry.{Entry}
use Rattle.r10_body.specs.declared.gap.Gap.TheVariants.{Whole}
use Rattle.r10_body.specs.declared.message.Message.TheVariants as messages
use Rattle.r10_machine.specs.Config.{Config}
use Rattle.r10_machine.specs.Machine.{Machine, Lane, File, saturated, with_entries, last_file, with_last, last_size}
use Rattle.r10_machine.specs.Room.{fits, cost_of, area}
use Rattle.r10_machine.specs.Calls.{shown_whole}
use Rattle.r10_machine.specs.SoundParts.{own_files}
use Rattle.r10_machine.specs.declared.reply.Found.{Found}
use Rattle.r10_machine.specs.Finding.{found, count_at}

-- ---- recording events

-- it tells how many events of its number the file has before it, modulo 65,536
abbrev pub event_entry : Config → ℕ → ℕ → File → Entry
event_entry s number count f = record {
  channel = s.event;
  count = count;
  message = messages.Event number (count_by (is_event_of number) f.entries % 65536);
  gap = Whole;
}

abbrev pub Marks : Config → Machine → ℕ → ℕ → Machine → Type 0
Marks s old number count new =
    IsSomeAnd (last_file old) (λ f.
    let e : Entry = event_entry s number count f in
    (fits s f e ≡ true) × (new ≡ with_last (with_entries (e ∷ [])) (record old { last_event = Some count })))

-- ---- files

-- The open file shows all its entries. Its new size is left open here: what the medium says fixes it (`MediumSays`, in `Run`).
abbrev pub Commits : Machine → Machine → Type 0
Commits old new = new ≡ with_last (shown_whole (last_size new)) old

abbrev pub closed_in : ℕ → File → File
closed_in size f = record f { closed = true; size = size }

-- the last file is closed with the entries that it shows
abbrev pub Seals : Config → Machine → Machine → Type 0
Seals s old new = IsSomeAnd (last_file old) (λ f. (cost_of f ≤ area s f) × (new ≡ with_last (closed_in (last_size new)) old))

-- the entries of a channel in files that this recorder began
abbrev pub own_entries : ℕ → List File → List Entry
own_entries channel files = on_channel channel (flat_map (λ f. f.entries) (own_files files))

-- a channel whose entries in these files are erased
abbrev pub erased_with : List File → Lane → Lane
erased_with files lane = record lane { erased = saturated (lane.erased + length (own_entries lane.spec.id files)) }

abbrev pub Erases : Machine → Machine → Type 0
Erases old new = new ≡ record old { files = []; generation = old.generation + 1; lanes = map (erased_with old.files) old.lanes }

-- ---- finding

abbrev pub Finds : Machine → ℕ → ℕ → ℕ → Option Found → Machine → Type 0
Finds old file channel count answer new = IsSomeAnd (slice_get old.files file) (λ f. answer ≡ found f channel count) × (new ≡ old)

abbrev pub TellsCount : Machine → ℕ → Parts → Option ℕ → Machine → Type 0
TellsCount old file civil answer new = IsSomeAnd (slice_get old.files file) (λ f. answer ≡ count_at f civil) × (new ≡ old)
