-- What is true of the lanes, entries and cursors of every state that a recorder comes to.
use Rattle.std.specs.Prelude.{◌≡◌, ℕ, ◌^◌, ◌<◌, ◌≤◌, Bool, false, not, ◌&&◌, List, [], ◌∷◌, ◌++◌, length, map, filter, Option}
use Rattle.std.specs.Prelude.{Some, None, IsSomeAnd, slice_get}
use Rattle.std.specs.List.{AllByRecursion, flat_map}
use Rattle.r10_count.specs.Count.{IsCount}
use Rattle.r10_count.specs.Civil.{IsCivil}
use Rattle.r10_count.specs.Checks.{first_broken}
use Rattle.r10_body.specs.Channels.{spec_of}
use Rattle.r10_body.specs.Files.{on_channel}
use Rattle.r10_body.specs.declared.entry.Entry.{Entry}
use Rattle.r10_body.specs.Gaps.{IsSoundGap}
use Rattle.r10_body.specs.declared.gap.Gap.TheVariants.{Whole}
use Rattle.r10_body.specs.declared.message.Message.TheVariants.{Time}
use Rattle.r10_machine.specs.Config.{Config}
use Rattle.r10_machine.specs.Machine.{Machine, Lane, File, Cursor, last_file}
use Rattle.r10_machine.specs.Checks.{message_checks}

-- counts that don't fall, from one on and up to another
abbrev pub Climbs : ℕ → List ℕ → ℕ → Type 0
Climbs low [] high = low ≤ high
Climbs low (n ∷ ns) high = (low ≤ n) × Climbs n ns high

abbrev pub count_or_0 : Option ℕ → ℕ
count_or_0 None = 0
count_or_0 (Some n) = n

-- ---- channels

-- the files that this recorder began
abbrev pub own_files : List File → List File
own_files files = filter (λ f. f.own) files

abbrev pub counts_on : ℕ → List File → List ℕ
counts_on channel files = map (λ e. e.count) (on_channel channel (flat_map (λ f. f.entries) (own_files files)))

-- what a channel took in: messages that it takes, no more waiting than it has room for
pub record IsSoundLane (lane : Lane) : Type 0 where
  pub held : length lane.waiting ≤ lane.spec.capacity
  pub messages : AllByRecursion (λ x. first_broken (message_checks lane.spec x.message) ≡ None) lane.waiting
  pub counts : AllByRecursion (λ x. IsCount x.count) lane.waiting
  pub gaps : AllByRecursion (λ x. IsSoundGap x.gap) lane.waiting
  pub missed : lane.missed < 2 ^ 64

-- the counts of a channel don't fall, from its files' entries over what waits to the last accepted one
abbrev pub LaneClimbs : List File → Lane → Type 0
LaneClimbs files lane = Climbs 0 (counts_on lane.spec.id files ++ map (λ x. x.count) lane.waiting) (count_or_0 lane.last)

-- ---- files

-- an entry is a time on the clock's channel, or a message that its channel takes
abbrev pub IsTimeOrMessage : Config → Entry → Type 0
IsTimeOrMessage s e = IsCount e.count × IsSoundGap e.gap × elim e.message [
  | Time civil ↦ (e.channel ≡ s.time) × IsCivil civil × (e.gap ≡ Whole)
  | _ ↦ IsSomeAnd (spec_of s.channels e.channel) (λ spec. first_broken (message_checks spec e.message) ≡ None)
]

abbrev pub is_open : File → Bool
is_open f = f.own && not f.closed

-- a file is being recorded
abbrev pub has_open : Machine → Bool
has_open m = elim (last_file m) [ None ↦ false | Some f ↦ is_open f ]

-- ---- cursors

-- a cursor isn't of a later generation, and one of this generation has its file and covers no more than is shown
abbrev pub IsSoundCursor : Machine → Cursor → Type 0
IsSoundCursor m c = (c.generation ≤ m.generation) × (c.generation ≡ m.generation
    → IsSomeAnd (slice_get m.files c.file) (λ f. c.covered ≤ f.shown))
