-- What is true of every state that a recorder comes to.
use Rattle.std.specs.Prelude.{◌≡◌, ℕ, ◌^◌, ◌<◌, ◌≤◌, false, true, length, map, IfSome, IsSomeAnd, slice_get}
use Rattle.std.specs.List.{AllByRecursion}
use Rattle.r10_count.specs.Count.{IsCount}
use Rattle.r10_count.specs.Civil.{IsCivil}
use Rattle.r10_body.specs.declared.entry.Entry.{Entry}
use Rattle.r10_body.specs.declared.gap.Gap.TheVariants.{Whole}
use Rattle.r10_body.specs.declared.message.Message.TheVariants as messages
use Rattle.r10_machine.specs.declared.mode.Mode.{Mode}
use Rattle.r10_machine.specs.declared.mode.Mode.TheVariants as modes
use Rattle.r10_machine.specs.Config.{Config}
use Rattle.r10_machine.specs.Machine.{Machine, File, cursor_of}
use Rattle.r10_machine.specs.Room.{cost_of, area}
use Rattle.r10_machine.specs.Checks.{is_recording, last_tick}
use Rattle.r10_machine.specs.SoundParts.{Climbs, count_or_0, own_files, counts_on, IsSoundLane, LaneClimbs, has_open}
use Rattle.r10_machine.specs.SoundParts.{IsSoundCursor, IsTimeOrMessage}
use Rattle.r10_machine.specs.EventChecks.{most_files}

-- ---- files

-- a recording event on its channel: its number, and how many of that number came before it, modulo 65,536
abbrev pub IsEvent : Config → Entry → ℕ → ℕ → Type 0
IsEvent s e number before = IsCount e.count × (e.channel ≡ s.event) × (number ≤ 4095) × (before < 65536) × (e.gap ≡ Whole)

-- an entry is a recording event, or a time or a message as its channel takes them
abbrev pub IsEntry : Config → Entry → Type 0
IsEntry s e = elim e.message [ messages.Event number before ↦ IsEvent s e number before | _ ↦ IsTimeOrMessage s e ]

-- a file of this recorder: its first entry is a time and is shown, it fits into its area, and shows all once it is closed
pub record IsOwnFile (s : Config) (f : File) : Type 0 where
  pub first : IsSomeAnd (slice_get f.entries 0) (λ e. e.channel ≡ s.time)
  pub begun : 0 < f.shown
  pub entries : AllByRecursion (IsEntry s) f.entries
  pub room : cost_of f ≤ area s f
  pub whole : f.closed ≡ true → f.shown ≡ length f.entries

-- a file that another recorder began shows all its entries
abbrev pub IsOthersFile : File → Type 0
IsOthersFile f = f.own ≡ false → f.shown ≡ length f.entries

-- a file as a new recorder finds it: it shows all its entries, and another recorder began it
abbrev pub IsFoundFile : File → Type 0
IsFoundFile f = (f.shown ≡ length f.entries) × (f.own ≡ false)

-- ---- the whole

-- while the recorder works, these are its files, and its own file is open where one is being recorded
pub record IsSoundWork (s : Config) (m : Machine) : Type 0 where
  pub recording : is_recording m.mode ≡ has_open m
  pub own : AllByRecursion (IsOwnFile s) (own_files m.files)
  pub others : AllByRecursion IsOthersFile m.files
  pub lanes : AllByRecursion (LaneClimbs m.files) m.lanes
  pub times : Climbs 0 (counts_on s.time m.files) (count_or_0 (last_tick m))
  pub events : Climbs 0 (counts_on s.event m.files) (count_or_0 m.last_event)

-- a recorder that failed keeps what it shows, and no more
abbrev pub SoundWork : Mode → Config → Machine → Type 0
SoundWork modes.Failed s m = Unit {0}
SoundWork mode s m = IsSoundWork s m

pub record IsSound (s : Config) (m : Machine) : Type 0 where
  pub channels : map (λ lane. lane.spec) m.lanes ≡ s.channels
  pub lanes : AllByRecursion IsSoundLane m.lanes
  pub tick : IfSome m.tick (λ tick. IsCount tick.count × IsCivil tick.civil)
  pub event : IfSome m.last_event IsCount
  pub most : length m.files ≤ most_files s
  pub shown : AllByRecursion (λ f. f.shown ≤ length f.entries) m.files
  pub generation : m.generation < 2 ^ 64
  pub cursors : (id : ℕ) → IfSome (cursor_of id m) (IsSoundCursor m)
  pub work : SoundWork m.mode s m
