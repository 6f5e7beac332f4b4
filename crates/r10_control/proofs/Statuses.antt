-- How a recorder is, as a step of the machine.
use Rattle.std.proofs.Common.{◌≡◌, ◌≤◌, ◌<◌, ◌+◌, ◌-◌, ◌^◌, ℕ, zero, suc, List, [], ◌∷◌, ◌++◌, length, map, take, min, get_or, Option, Some, None, refl, sym, ap, ◌∙◌, subst, arith}
use Rattle.std.specs.Prelude.{IsSomeAnd, if◌then◌else◌, slice_index_or}
use Rattle.std.specs.List.{last_or}
use Rattle.std.proofs.lemmas.List.{length-map}
use Rattle.r10_body.specs.declared.spec.ChannelSpec.{ChannelSpec}
use Rattle.r10_dirblock.specs.declared.entry.Entry.{Entry as DirectoryEntry}
use Rattle.r10_dirchain.specs.Chain.{listed_files}
use Rattle.r10_dirchain.specs.declared.chain.ChainBlock.{ChainBlock}
use Rattle.r10_dirchain.proofs.RulesAsFacts.{usable_of}
use Rattle.r10_volume.specs.Holding.{HoldsFiles, IsWritten, OpenState}
use Rattle.r10_volume.proofs.Relisting.{last_file_listed}
use Rattle.r10_machine.specs.Checks.{is_mounted, last_tick}
use Rattle.r10_machine.specs.Config.{Config}
use Rattle.r10_machine.specs.Limits.{IsConfig}
use Rattle.r10_machine.specs.Machine.{File, Lane, Machine, Tick}
use Rattle.r10_machine.specs.Room.{area, area_from, cost_of, next_block}
use Rattle.r10_machine.specs.declared.mode.Mode.{Mode}
use Rattle.r10_machine.specs.declared.mode.Mode.TheVariants as modes
use Rattle.r10_machine.proofs.Growing.{append_last}
use Rattle.r10_refinement.specs.KeptState.{Kept, Work, mode_of, unmounted, idle, recording, failed}
use Rattle.r10_refinement.specs.Means.{LanesAreCounted, HasFiles, KeptStepsTo, KeptStandsFor, NumbersAre}
use Rattle.r10_medium.specs.Disk.{Image}
use Rattle.r10_cursor.specs.declared.books.Books.{Books}
use Rattle.r10_control.specs.Checks.{files_of}
use Rattle.r10_control.specs.Lanes.{AreLanes, LeadsWith, unerased}
use Rattle.r10_control.specs.Owns.{Owns, OwnsWork, tick_count}
use Rattle.r10_control.specs.RecorderStatus.{channels_in, free_in, status_in}
use Rattle.r10_machine.specs.Finding.{channel_status, free_bytes, status_of}
use Rattle.r10_machine.specs.Says.{Lists}
use Rattle.r10_machine.specs.declared.event.Event.TheVariants as events
use Rattle.r10_machine.specs.declared.reply.ChannelStatus.{ChannelStatus}
use Rattle.r10_machine.specs.declared.reply.Reply.TheVariants as replies
use Rattle.r10_machine.specs.declared.reply.Status.{Status}
use Rattle.r10_volume.specs.Listing.{block_behind}
use Rattle.r10_volume.specs.Mounting.{IsUsable}
use Rattle.r10_volume.proofs.Listed.{behind_told, count_told, few_files, held_lists}

-- ---- parts

pub area_min : (s : Config) (n behind : ℕ) → n ≡ min behind (2 ^ 64 - 1) → s.blocks ≤ 16777216 → area_from s n ≡ area_from s behind
area_min s n behind is few = omega (arith, is, few)

-- ---- bytes that are free

module _ (s : Config) (image : Image) (chain : List ChainBlock) (o : OpenState) (files : List File) (f : File) (holds : HoldsFiles s image chain (Some o) (files ++ f ∷ [])) where
  listed : IsSomeAnd (last_or None (listed_files chain)) (Lists f)
  listed = last_file_listed image None (listed_files chain) files f (held_lists s image chain (Some o) (files ++ f ∷ []) holds).each

  pub left_held : (cost : ℕ) (e : DirectoryEntry) → last_or None (listed_files chain) ≡ Some e → cost ≡ cost_of f → area_from s e.first_block - cost ≡ area s f - cost_of f
  left_held cost e last costs =
      let lists : Lists f e = subst (λ (d : Option DirectoryEntry). IsSomeAnd d (Lists f)) last listed in
      ap (λ (n : ℕ). area_from s n - cost) lists.first_block ∙ ap (λ (n : ℕ). area s f - n) costs

  pub none_held : last_or None (listed_files chain) ≡ None → ⊥
  none_held last = subst (λ (d : Option DirectoryEntry). IsSomeAnd d (Lists f)) last listed

-- a list that has a last one
last_front : (P : File → Type 0) (files : List File) → IsSomeAnd (last_or None files) P → (front : List File) × (f : File) × (files ≡ front ++ f ∷ [])
last_front P [] is = absurd is
last_front P (f ∷ []) is = ([], f, refl)
last_front P (f ∷ g ∷ files) is = let rest = last_front P (g ∷ files) is in (f ∷ rest.0, rest.1, ap (λ (l : List File). f ∷ l) rest.2)

abbrev free_by : Config → Machine → Mode → ℕ
free_by s m mode = elim mode [ modes.Recording ↦ elim (last_or None m.files) [ None ↦ 0 | Some f ↦ area s f - cost_of f ] | modes.Idle ↦ area_from s (next_block s m.files) | _ ↦ 0 ]

pub free_idle : (s : Config) (image : Image) (chain : List ChainBlock) (m : Machine) → m.mode ≡ modes.Idle → HoldsFiles s image chain None m.files → area_from s (block_behind s.directory (listed_files chain)) ≡ free_bytes s m
free_idle s image chain m mode holds = ap (area_from s) (behind_told s image chain None m.files holds) ∙ sym (ap (free_by s m) mode)

pub free_recording : (s : Config) (image : Image) (chain : List ChainBlock) (o : OpenState) (m : Machine) (left : ℕ) → m.mode ≡ modes.Recording → HoldsFiles s image chain (Some o) m.files
    → ((files : List File) (f : File) → HoldsFiles s image chain (Some o) (files ++ f ∷ []) → left ≡ area s f - cost_of f) → left ≡ free_bytes s m
free_recording s image chain o m left mode holds reported =
    let split = last_front (IsWritten s image o) m.files holds.last in
    reported split.0 split.1 (subst (λ (l : List File). HoldsFiles s image chain (Some o) l) split.2 holds)
    ∙ sym (ap (λ (d : Option File). elim d [ None ↦ 0 | Some f ↦ area s f - cost_of f ]) (append_last None split.0 split.1))
    ∙ sym (ap (λ (l : List File). elim (last_or None l) [ None ↦ 0 | Some f ↦ area s f - cost_of f ]) split.2)
    ∙ sym (ap (free_by s m) mode)

pub usable_few : (reserved : ℕ) (image : Image) (chain : List ChainBlock) → IsUsable reserved image chain → reserved + 2 ≤ length image → length (listed_files chain) ≤ length image
usable_few reserved image chain usable room = omega (arith, few_files (length image) (reserved + 1) (listed_files chain) (omega (arith, room)) (usable_of reserved (length image) chain usable.rules).stand)

-- ---- channels

-- one channel more
next_channel : (mode : Mode) (lanes : List Lane) (erased : List ℕ) (i : ℕ) (lane : Lane) → lane ≡ get_or lanes i lane → i < length lanes → length erased ≡ length lanes
    → channels_in mode (take i lanes) (take i erased) ++ channel_status mode (record lane { erased = slice_index_or erased i 0 }) ∷ [] ≡ channels_in mode (take (suc i) lanes) (take (suc i) erased)
next_channel mode [] erased i lane here within same = absurd (omega (arith, within))
next_channel mode (l ∷ lanes) [] i lane here within same = absurd (omega (arith, same))
next_channel mode (l ∷ lanes) (e ∷ erased) zero lane here within same = ap (λ (x : Lane). channel_status mode (record x { erased = e }) ∷ []) here
next_channel mode (l ∷ lanes) (e ∷ erased) (suc i) lane here within same =
    ap (λ (cs : List ChannelStatus). channel_status mode (record l { erased = e }) ∷ cs) (next_channel mode lanes erased i lane here (omega (arith, within)) (omega (arith, same)))

pub one_channel : (mode : Mode) (lanes : List Lane) (erased : List ℕ) (i : ℕ) (lane : Lane) → lane ≡ get_or lanes i lane → i < length lanes → length erased ≡ length lanes
    → channels_in mode (take i lanes) (take i erased) ++ channel_status mode (record lane { erased = slice_index_or erased i 0 }) ∷ [] ≡ channels_in mode (take (i + 1) lanes) (take (i + 1) erased)
one_channel mode lanes erased i lane here within same =
    let more : suc i ≡ i + 1 = omega arith in
    next_channel mode lanes erased i lane here within same ∙ ap (λ (j : ℕ). channels_in mode (take j lanes) (take j erased)) more

-- erases took of each of the machine's lanes what is kept of it
channels_counted : (mode : Mode) (files : List File) (specs : List ChannelSpec) (taken erased : List ℕ) (lanes : List Lane) → LanesAreCounted files specs taken erased lanes → channels_in mode (map unerased lanes) erased ≡ map (channel_status mode) lanes
channels_counted mode files [] [] [] [] are = refl
channels_counted mode files (x ∷ specs) (t ∷ taken) (e ∷ erased) (l ∷ lanes) are =
    ap (λ (n : ℕ). channel_status mode (record l { erased = n }) ∷ channels_in mode (map unerased lanes) erased) (sym are.0.erased_is)
    ∙ ap (λ (cs : List ChannelStatus). channel_status mode l ∷ cs) (channels_counted mode files specs taken erased lanes are.1)
channels_counted mode files [] [] [] (l ∷ lanes) are = absurd are
channels_counted mode files [] [] (e ∷ erased) lanes are = absurd are
channels_counted mode files [] (t ∷ taken) erased lanes are = absurd are
channels_counted mode files (x ∷ specs) [] erased lanes are = absurd are
channels_counted mode files (x ∷ specs) (t ∷ taken) [] lanes are = absurd are
channels_counted mode files (x ∷ specs) (t ∷ taken) (e ∷ erased) [] are = absurd are

-- what they took is reported of no recorder that failed
channels_failed : (lanes : List Lane) (erased : List ℕ) → length erased ≡ length lanes → channels_in modes.Failed (map unerased lanes) erased ≡ map (channel_status modes.Failed) lanes
channels_failed [] erased same = refl
channels_failed (l ∷ lanes) [] same = absurd (omega (arith, same))
channels_failed (l ∷ lanes) (e ∷ erased) same = ap (λ (cs : List ChannelStatus). channel_status modes.Failed l ∷ cs) (channels_failed lanes erased (omega (arith, same)))

channels_told : (k : Kept) (w : Work) (m : Machine) → NumbersAre (record k { work = w }) m → length k.erased ≡ length m.lanes → channels_in (mode_of w) (map unerased m.lanes) k.erased ≡ map (channel_status (mode_of w)) m.lanes
channels_told k unmounted m numbers same = channels_counted modes.Unmounted m.files k.config.channels k.taken k.erased m.lanes numbers.2
channels_told k (idle chain) m numbers same = channels_counted modes.Idle m.files k.config.channels k.taken k.erased m.lanes numbers.2
channels_told k (recording chain o) m numbers same = channels_counted modes.Recording m.files k.config.channels k.taken k.erased m.lanes numbers.2
channels_told k failed m numbers same = channels_failed m.lanes k.erased same

-- ---- files, and the clock

pub tick_told : (t : Option Tick) → elim t [ None ↦ None | Some tick ↦ Some tick.count ] ≡ tick_count t
tick_told None = refl
tick_told (Some tick) = refl

pub files_told : (s : Config) (w : Work) (image : Image) (files : List File) → HasFiles s w image files → (if is_mounted (mode_of w) then length files else 0) ≡ length (files_of w)
files_told s unmounted image files holds = refl
files_told s (idle chain) image files holds = sym (count_told s image chain None files holds)
files_told s (recording chain o) image files holds = sym (count_told s image chain (Some o) files holds)
files_told s failed image files holds = refl

-- a directory in use has no more files than the medium has blocks
files_few : {L : Type 0} (spec_of : L → ChannelSpec) (reached : L → ℕ) (k : Kept) (w : Work) (image : Image) (lanes : List L) → OwnsWork spec_of reached k w image lanes → k.config.directory + 2 ≤ length image → length (files_of w) ≤ length image
files_few spec_of reached k unmounted image lanes owns room = omega arith
files_few spec_of reached k (idle chain) image lanes owns room = usable_few k.config.directory image chain owns room
files_few spec_of reached k (recording chain o) image lanes owns room = usable_few k.config.directory image chain owns.0 room
files_few spec_of reached k failed image lanes owns room = omega arith

pub files_all : {L : Type 0} (spec_of : L → ChannelSpec) (reached : L → ℕ) (k : Kept) (image : Image) (lanes : List L) (books : Books) (blocks n : ℕ) → Owns spec_of reached k image lanes books → blocks ≡ k.config.blocks → k.config.directory + 2 ≤ blocks → blocks ≤ 16777216
    → n ≡ min (length (files_of k.work)) (2 ^ 64 - 1) → n ≡ length (files_of k.work)
files_all spec_of reached k image lanes books blocks n owns same room few is =
    omega (arith, is, few, same, owns.blocks, files_few spec_of reached k k.work image lanes owns.work (omega (arith, room, same, owns.blocks)))

-- as many channels are kept as there are lanes
pub numbered : {L : Type 0} (spec_of : L → ChannelSpec) (reached : L → ℕ) (k : Kept) (image : Image) (lanes : List L) (books : Books) → Owns spec_of reached k image lanes books → length k.erased ≡ length lanes
numbered spec_of reached k image lanes books owns =
    let more : length (map spec_of lanes) ≡ length lanes = simp length-map in
    owns.erased ∙ ap (λ (specs : List ChannelSpec). length specs) (sym owns.specs) ∙ more

-- ---- the whole

pub made : (mode mode' : Mode) (tick tick' : Option ℕ) (files files' free free' : ℕ) (channels channels' : List ChannelStatus) → mode ≡ mode' → tick ≡ tick' → files ≡ files' → free ≡ free' → channels ≡ channels'
    → ◌≡◌ {A = Status} (record { mode = mode; tick = tick; files = files; free = free; channels = channels }) (record { mode = mode'; tick = tick'; files = files'; free = free'; channels = channels' })
made mode mode' tick tick' files files' free free' channels channels' a b c d e = rw (a, b, c, d, e) refl

-- telling the status is a step that changes nothing
abbrev pub StatusIsTold : Type 0
StatusIsTold = (k : Kept) (old new : Image) (n later : ℕ) (m : Machine) → IsConfig k.config → KeptStandsFor k old n m → new ≡ old → n ≤ later → KeptStepsTo k m events.Status (replies.Status (status_of k.config m)) k new later (record m { failures = later })

-- the status that is reported is the machine's
status_told : (k : Kept) (image : Image) (n : ℕ) (m : Machine) (lanes : List Lane) → KeptStandsFor k image n m → AreLanes lanes m → length k.erased ≡ length lanes → ((i : Image) (x : Machine) → x.mode ≡ mode_of k.work → HasFiles k.config k.work i x.files → free_in k.config k.work ≡ free_bytes k.config x)
    → status_in k lanes ≡ status_of k.config m
status_told k image n m lanes means are same free =
    let more : length (map unerased m.lanes) ≡ length m.lanes = simp length-map in
    let long : length k.erased ≡ length m.lanes = same ∙ ap (λ (ls : List Lane). length ls) are ∙ more in
    made (mode_of k.work) m.mode (tick_count k.tick) (last_tick m) (length (files_of k.work)) (if is_mounted m.mode then length m.files else 0) (free_in k.config k.work) (free_bytes k.config m)
    (channels_in (mode_of k.work) lanes k.erased) (map (channel_status m.mode) m.lanes)
    (sym means.mode)
    (sym (ap (λ (t : Option Tick). elim t [ None ↦ None | Some tick ↦ Some tick.count ]) means.tick ∙ tick_told k.tick))
    (sym (ap (λ (x : Mode). if is_mounted x then length m.files else 0) means.mode ∙ files_told k.config k.work image m.files means.files))
    (free image m means.mode means.files)
    (ap (λ (ls : List Lane). channels_in (mode_of k.work) ls k.erased) are ∙ channels_told k k.work m means.numbers long ∙ ap (λ (x : Mode). map (channel_status x) m.lanes) (sym means.mode))

pub status_leads : StatusIsTold → (k : Kept) (image : Image) (n : ℕ) (m : Machine) (lanes : List Lane) (status : Status) → IsConfig k.config → KeptStandsFor k image n m → AreLanes lanes m → length k.erased ≡ length lanes
    → ((i : Image) (x : Machine) → x.mode ≡ mode_of k.work → HasFiles k.config k.work i x.files → free_in k.config k.work ≡ free_bytes k.config x) → status ≡ status_in k lanes
    → LeadsWith k m events.Status (replies.Status status) image n lanes
status_leads law k image n m lanes status limits means are same free is = record {
  machine = record m { failures = n };
  led = subst (λ (x : Status). KeptStepsTo k m events.Status (replies.Status x) k image n (record m { failures = n })) (sym (is ∙ status_told k image n m lanes means are same free)) (law k image image n n m limits means refl (omega arith));
  lanes_are = are;
  files = refl;
  cursors = refl;
}
