-- What stopping a recording leaves, and what a power loss then leaves.
use Rattle.std.specs.Prelude.{◌≡◌, ◌≤◌, ◌+◌, ◌-◌, ◌*◌, ◌^◌, ◌==◌, ◌⊎◌, ℕ, List, [], ◌∷◌, ◌++◌, count_by, length, map, min, None}
use Rattle.std.specs.Prelude.{Option, Some}
use Rattle.std.specs.List.{AllByRecursion, sum_by}
use Rattle.r10_blockout.specs.Output.{first_of}
use Rattle.r10_body.specs.Cost.{entry_cost}
use Rattle.r10_body.specs.declared.entry.Entry.{Entry}
use Rattle.r10_body.specs.declared.entry.Sample.{Sample}
use Rattle.r10_body.specs.declared.spec.ChannelSpec.{ChannelSpec}
use Rattle.r10_packetout.specs.Carries.{Recording}
use Rattle.r10_count.specs.declared.civil.Parts.{Parts}
use Rattle.r10_dirchain.specs.OnMedium.{IsPublished}
use Rattle.r10_dirchain.specs.declared.chain.ChainBlock.{ChainBlock}
use Rattle.r10_volume.specs.Holding.{HoldsFiles, OpenState}
use Rattle.r10_machine.specs.Calls.{closed_whole}
use Rattle.r10_machine.specs.Config.{Config}
use Rattle.r10_machine.specs.Machine.{File, with_entries}
use Rattle.r10_machine.specs.Room.{area as area_of}
use Rattle.r10_machine.specs.declared.mode.Stopped.{Stopped}
use Rattle.r10_medium.specs.Disk.{Disk, Image, Rose}
use Rattle.r10_control.specs.Effects.{closed_listing}
use Rattle.r10_openfile.specs.Carrying.{EndsLast, IsShown}
use Rattle.r10_index.specs.Written.{IsGroup}
use Rattle.r10_openfile.specs.Keeping.{ListsLast, MayGoOn, ended_in}
use Rattle.r10_openfile.specs.Pumping.{IsReadyFor, packets_at_most}
use Rattle.r10_openfile.specs.Intake.{AreMovedIn}
use Rattle.r10_openfile.specs.Stopping.{AllEnd, FailsAll, GoesThrough, IsOpenToAll, Part, TellsWaiting, TookAll, entries_of}
use Rattle.r10_openfile.specs.Stopping.{most_of, room_of}
use Rattle.r10_machine.specs.Says.{MediumSays}

-- what the close of a file after a stop's samples asks: groups of index packets of a size that there is, each channel once in
-- the order, a number for each, memory for all that may be put, and a file that is open to the lanes and may go on
pub record MayCloseFile {L : Type 0} (spec_of : L → ChannelSpec) (reached : L → ℕ) (nodes : ℕ) (order shares : List ℕ) (area : ℕ)
    (lanes : List L) (o : OpenState) (image : Image) (chain : List ChainBlock) : Type 0 where
  pub group : IsGroup nodes
  pub open_to : IsOpenToAll spec_of reached o.recording image lanes area
  pub once : (channel : ℕ) → count_by (λ c. c == channel) order ≤ 1
  pub shares_are : length shares ≡ length order
  pub ready : IsReadyFor o.recording (packets_at_most o.recording.cost area (room_of (map spec_of lanes) order) + 2
      * length o.recording.builders)
  pub on : MayGoOn o image chain

-- Channel by channel in this order, these parts were taken from the lanes; of a lane that is quiet, a part and its rest are
-- all that waited. Into whatever file of the machine, they are what its stop takes in.
pub record TakenAll {L : Type 0} (took : L → List Sample → L → Type 0) (quiet : L → Option (List Sample)) (reached : L → ℕ)
    (spec_of : L → ChannelSpec) (order shares : List ℕ) (area : ℕ) (lanes lanes' : List L)
    (old : OpenState) (before : Image) (chain : List ChainBlock) (said : Stopped) : Type 0 where
  pub parts : List Part
  pub order_is : map (λ (p : Part). p.channel) parts ≡ order
  pub shares_are : map (λ (p : Part). length p.samples) parts ≡ shares
  pub within : AllByRecursion (λ (p : Part). length p.samples ≤ most_of (map spec_of lanes) p.channel) parts
  pub taken : TookAll took spec_of parts lanes lanes'
  pub tells : AllByRecursion (TellsWaiting quiet spec_of lanes) parts
  pub number : said.taken ≡ length (entries_of parts)
  pub left : said.left ≡ min (sum_by (λ (p : Part). length p.rest) parts) (2 ^ 64 - 1)
  pub recording : Recording
  pub paid : recording.cost ≡ old.recording.cost + sum_by entry_cost (entries_of parts)
  pub through : GoesThrough (most_of (map spec_of lanes)) recording area parts
  pub moves : (s : Config) (files : List File) (f : File) → HoldsFiles s before chain (Some old) (files ++ f ∷ [])
      → AllEnd spec_of reached lanes f.entries → area ≡ area_of s f
      → AreMovedIn s f (map spec_of lanes) order parts said.taken recording

-- the file with these entries, closed in so many bytes
abbrev pub closed_with : ℕ → List Part → File → File
closed_with size parts f = closed_whole size (with_entries (entries_of parts) f)

-- an image says the file closed, with what was taken from the lanes
pub record SaysStopped {L : Type 0} (took : L → List Sample → L → Type 0) (quiet : L → Option (List Sample)) (reached : L → ℕ)
    (spec_of : L → ChannelSpec) (order shares : List ℕ) (area : ℕ) (lanes lanes' : List L)
    (old : OpenState) (before : Image) (chain : List ChainBlock) (s : Config) (files : List File) (f : File)
    (image : Image) : Type 0 where
  pub said : Stopped
  pub taken : TakenAll took quiet reached spec_of order shares area lanes lanes' old before chain said
  pub size : ℕ
  pub says : MediumSays s image (files ++ closed_with size taken.parts f ∷ [])

-- the directory holds it so, no shorter than it was shown
abbrev pub ClosesSo : {L : Type 0} → (L → ℕ) → (L → ChannelSpec) → List L → OpenState → Image → List ChainBlock → List ChainBlock
    → Image → ℕ → List Part → Type 0
ClosesSo reached spec_of lanes old before chain made after size parts =
    (s : Config) (files : List File) (f : File) → HoldsFiles s before chain (Some old) (files ++ f ∷ [])
    → AllEnd spec_of reached lanes f.entries → HoldsFiles s after made None (files ++ closed_with size parts f ∷ [])
    × (f.size ≤ size)

-- whatever files the medium has, the last of the directory is ended with what the file carried, and with what was taken
abbrev pub EndsSo : {L : Type 0} → (L → ℕ) → (L → ChannelSpec) → List L → OpenState → Image → List ChainBlock → List ChainBlock
    → Image → List Part → Type 0
EndsSo reached spec_of lanes old before chain made after parts =
    ListsLast (first_of old.recording.out.blocks) chain → (text : List ℕ) (entries : List Entry) (n : ℕ)
    → IsShown before old text entries n → AllEnd spec_of reached lanes entries
    → EndsLast after made (first_of old.recording.out.blocks) text (entries ++ entries_of parts)

-- the medium failed before the file was listed, and says it as it was; or while it was, and may say it closed
abbrev pub MaySayClosed : {L : Type 0} → (L → ℕ) → (L → ChannelSpec) → List L → OpenState → Image → List ChainBlock → Image → ℕ
    → List Part → Type 0
MaySayClosed reached spec_of lanes old before chain after size parts =
    (s : Config) (files : List File) (f : File) → HoldsFiles s before chain (Some old) (files ++ f ∷ [])
    → AllEnd spec_of reached lanes f.entries
    → MediumSays s after (files ++ with_entries (entries_of parts) f ∷ [])
    ⊎ (MediumSays s after (files ++ closed_with size parts f ∷ []) × (f.size ≤ size))

-- the medium failed while samples were taken, or while the file was closed
pub data StopFails {L : Type 0} (took : L → List Sample → L → Type 0) (quiet : L → Option (List Sample)) (reached : L → ℕ)
    (spec_of : L → ChannelSpec) (order shares : List ℕ) (area : ℕ) (lanes lanes' : List L)
    (old : OpenState) (before after : Disk) (chain : List ChainBlock) : Type 0 where
  in_taking : FailsAll took reached spec_of order lanes lanes' old.recording before after
      → ((s : Config) (files : List File) (f : File) → HoldsFiles s before.blocks chain (Some old) (files ++ f ∷ [])
      → AllEnd spec_of reached lanes f.entries → MediumSays s after.blocks (files ++ f ∷ []))
      → StopFails took quiet reached spec_of order shares area lanes lanes' old before after chain
  in_closing : (said : Stopped) (taken : TakenAll took quiet reached spec_of order shares area lanes lanes' old before.blocks chain
      said) (size : ℕ) → MaySayClosed reached spec_of lanes old before.blocks chain after.blocks size taken.parts
      → Rose before.failures after.failures → StopFails took quiet reached spec_of order shares area lanes lanes' old before after
      chain

pub record StopCloses {L : Type 0} (took : L → List Sample → L → Type 0) (quiet : L → Option (List Sample)) (reached : L → ℕ)
    (spec_of : L → ChannelSpec) (order shares : List ℕ) (area : ℕ) (lanes lanes' : List L)
    (old : OpenState) (before after : Image) (chain made : List ChainBlock) (said : Stopped) : Type 0 where
  pub taken : TakenAll took quiet reached spec_of order shares area lanes lanes' old before chain said
  pub size : ℕ
  pub closes : ClosesSo reached spec_of lanes old before chain made after size taken.parts
  pub ends : EndsSo reached spec_of lanes old before chain made after taken.parts

-- of a directory the last file alone is listed anew, closed at this time in so many bytes; it is the medium's directory, which
-- is synced
pub record IsListedClosed (civil : Parts) (chain made : List ChainBlock) (disk : Disk) : Type 0 where
  pub size : ℕ
  pub made_is : made ≡ closed_listing civil size chain
  pub published : IsPublished made disk
  pub ended : ended_in made ≡ ended_in chain
