-- What each call does that is neither refused nor fails: the answer and the new state.
use Rattle.std.specs.Prelude.{◌≡◌, ℕ, ◌+◌, ◌<◌, Bool, true, false, List, [], ◌∷◌, ◌++◌, length, map, take, drop, count_by, Option}
use Rattle.std.specs.Prelude.{Some, None, IsSomeAnd, slice_get}
use Rattle.std.specs.List.{flat_map, sum_by}
use Rattle.r10_body.specs.Gaps.{gap_after}
use Rattle.r10_body.specs.Rules.{is_entry_on}
use Rattle.r10_body.specs.declared.gap.Gap.TheVariants.{Whole}
use Rattle.r10_body.specs.declared.entry.Entry.{Entry}
use Rattle.r10_body.specs.declared.message.Message.{Message}
use Rattle.r10_body.specs.declared.message.Message.TheVariants as messages
use Rattle.r10_machine.specs.declared.mode.Mode.TheVariants.{Idle, Recording}
use Rattle.r10_machine.specs.declared.mode.Stopped.{Stopped}
use Rattle.r10_machine.specs.Config.{Config}
use Rattle.r10_machine.specs.Machine.{Machine, Tick, Lane, File, Cursor, saturated, lane_in, lane_of, with_lane, rising}
use Rattle.r10_machine.specs.Machine.{waiting_entries, shown_entries, with_entries, last_file, with_last, change_last, last_size}
use Rattle.r10_machine.specs.Machine.{cursor_of, SetsCursor}
use Rattle.r10_machine.specs.Room.{next_block, fits, TakesIn}
use Rattle.r10_machine.specs.Checks.{is_recording}
use Rattle.r10_machine.specs.Replay.{wanted, Ordered}

-- ---- lanes

-- a message at the end of a lane, with a gap that tells how many were lost since the last
abbrev pub accepted : ℕ → Message → Lane → Lane
accepted count message lane = record lane {
  waiting = lane.waiting ++ record { count = count; message = message; gap = gap_after lane.missed } ∷ [];
  last = Some count;
  missed = 0;
}

-- a lane that was full
abbrev pub overflowed : Lane → Lane
overflowed lane = record lane { missed = saturated (lane.missed + 1); lost = saturated (lane.lost + 1) }

-- a lane whose channel lost so many more, which were never offered
abbrev pub losing : ℕ → Lane → Lane
losing n lane = record lane { missed = saturated (lane.missed + n); lost = saturated (lane.lost + n) }

-- a lane without its first n
abbrev pub without : ℕ → Lane → Lane
without n lane = record lane { waiting = drop n lane.waiting }

-- ---- the clock

abbrev pub time_entry : Config → Tick → Entry
time_entry s tick = record { channel = s.time; count = tick.count; message = messages.Time tick.civil; gap = Whole }

-- while recording, the file gets a time entry
abbrev pub TicksIn : Bool → Config → Machine → Tick → Machine → Type 0
TicksIn false s old tick new = new ≡ record old { tick = Some tick }
TicksIn true s old tick new =
    IsSomeAnd (last_file old) (λ f. fits s f (time_entry s tick) ≡ true)
    × (new ≡ with_last (with_entries (time_entry s tick ∷ [])) (record old { tick = Some tick }))

abbrev pub Ticks : Config → Machine → Tick → Machine → Type 0
Ticks s old tick new = TicksIn (is_recording old.mode) s old tick new

-- ---- files

-- a new file, still without entries
abbrev pub empty_file : Config → List File → List ℕ → List ℕ → File
empty_file s files name setup = record {
  name = name;
  setup = setup;
  entries = [];
  shown = 0;
  closed = false;
  own = true;
  first_block = next_block s files;
  size = 0;
}

-- a file that shows all its entries in so many bytes
abbrev pub shown_whole : ℕ → File → File
shown_whole size f = record f { shown = length f.entries; size = size }

abbrev pub closed_whole : ℕ → File → File
closed_whole size f = record f { shown = length f.entries; size = size; closed = true }

-- a new file takes in the last tick's time entry and shows it
abbrev pub Starts : Config → Machine → List ℕ → List ℕ → Machine → Type 0
Starts s old name setup new =
    IsSomeAnd old.tick (λ tick.
    let f : File = empty_file s old.files name setup in
    let e : Entry = time_entry s tick in
    (fits s f e ≡ true)
    × (new ≡ record old { mode = Recording; files = old.files ++ shown_whole (last_size new) (with_entries (e ∷ []) f) ∷ [] }))

-- the first of a lane's waiting entries go into the open file, at most so many; none of them only where none is asked for or waits
abbrev pub Pumps : Config → Machine → ℕ → ℕ → ℕ → Machine → Type 0
Pumps s old channel most n new =
    IsSomeAnd (lane_of channel old) (λ lane. IsSomeAnd (last_file old) (λ f.
    let entries : List Entry = waiting_entries lane in
    TakesIn s f (take most entries) n
    × (0 < length (take most entries) → 0 < n)
    × (new ≡ with_last (with_entries (take n entries)) (with_lane channel (without n) old))))

-- what a stop may take from a lane: at most its capacity
abbrev pub front_of : Option Lane → List Entry
front_of None = []
front_of (Some lane) = take lane.spec.capacity (waiting_entries lane)

-- and from all lanes, by rising channel
abbrev pub all_waiting : List Lane → List Entry
all_waiting lanes = flat_map (λ channel. front_of (lane_in channel lanes)) (rising (map (λ lane. lane.spec.id) lanes))

-- each lane loses its own of these entries
abbrev pub lanes_without : List Entry → List Lane → List Lane
lanes_without entries lanes = map (λ lane. without (count_by (is_entry_on lane.spec.id) entries) lane) lanes

abbrev pub waiting_count : List Lane → ℕ
waiting_count lanes = sum_by (λ lane. length lane.waiting) lanes

-- the open file takes in what waits, up to an entry that may be refused, shows all and is closed
abbrev pub Stops : Config → Machine → Stopped → Machine → Type 0
Stops s old stopped new =
    IsSomeAnd (last_file old) (λ f.
    let entries : List Entry = take stopped.taken (all_waiting old.lanes) in
    TakesIn s f (all_waiting old.lanes) stopped.taken
    × (stopped.left ≡ waiting_count new.lanes)
    × (new ≡ record old {
      mode = Idle;
      lanes = lanes_without entries old.lanes;
      files = change_last (λ f. closed_whole (last_size new) (with_entries entries f)) old.files;
    }))

-- ---- replay

-- a cursor that has covered nothing
abbrev pub fresh_cursor : ℕ → List ℕ → ℕ → ℕ → ℕ → Cursor
fresh_cursor generation channels file from to =
    record { file = file; channels = channels; from = from; to = to; generation = generation; covered = 0; queue = [] }

-- it gets a number that no open cursor has
abbrev pub Opens : Machine → ℕ → List ℕ → ℕ → ℕ → ℕ → Machine → Type 0
Opens old file channels from to id new =
    (cursor_of id old ≡ None) × SetsCursor old new id (Some (fresh_cursor old.generation channels file from to))

-- what a cursor wants of what was shown since it came this far
abbrev pub wanted_since : File → Cursor → List Entry
wanted_since f c = wanted c.channels c.from c.to (drop c.covered (shown_entries f))

-- the next instalment is queued
abbrev pub Advances : Machine → ℕ → ℕ → Machine → Type 0
Advances old id n new =
    IsSomeAnd (cursor_of id old) (λ c. IsSomeAnd (slice_get old.files c.file) (λ f.
    (queue : List Entry) × Ordered (wanted_since f c) queue × (n ≡ length queue)
    × SetsCursor old new id (Some (record c { covered = f.shown; queue = queue }))))

-- the first of the queue, or nothing
abbrev pub GivesQueued : Machine → ℕ → Option Entry → Machine → Type 0
GivesQueued old id given new =
    IsSomeAnd (cursor_of id old) (λ c. (given ≡ slice_get c.queue 0)
    × SetsCursor old new id (Some (record c { queue = drop 1 c.queue })))
