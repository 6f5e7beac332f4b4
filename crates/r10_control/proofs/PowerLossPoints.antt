-- What a power loss leaves of a recorder's files, by what its calls leave of the medium.
use Rattle.std.proofs.Common.{◌≡◌, ◌⊎◌, ⊎_elim, false, List, [], ◌∷◌, ◌++◌, None, Option, Some, sym, subst, inl, inr}
use Rattle.std.specs.Prelude.{IfSome}
use Rattle.std.specs.List.{last_or}
use Rattle.r10_blockout.specs.Blocks.{bytes_from}
use Rattle.r10_dirchain.specs.declared.chain.ChainBlock.{ChainBlock}
use Rattle.r10_volume.specs.Holding.{HoldsFiles, OpenState}
use Rattle.r10_machine.proofs.Growing.{append_last}
use Rattle.r10_machine.specs.Config.{Config}
use Rattle.r10_machine.specs.Machine.{File, Machine}
use Rattle.r10_machine.specs.declared.event.Event.{Event as EventValue}
use Rattle.r10_machine.specs.declared.reply.Reply.{Reply as ReplyValue}
use Rattle.r10_machine.specs.declared.reply.Reply.TheVariants.{Refused}
use Rattle.r10_body.specs.declared.refusal.Refusal.{Refusal}
use Rattle.r10_refinement.specs.KeptState.{Kept, Work, unmounted, idle, recording, failed}
use Rattle.r10_refinement.specs.Means.{HasFiles, KeptStandsFor}
use Rattle.r10_medium.proofs.PowerLoss.{one_image, unchanged, weakened}
use Rattle.r10_medium.specs.Disk.{Disk, Image, Unchanged}
use Rattle.r10_medium.specs.PowerLoss.{Leaves, Settled}
use Rattle.r10_openfile.specs.Keeping.{StopKeepsFiles, Keeps, StaysKept}
use Rattle.r10_control.proofs.Bytes.{holds_of}
use Rattle.r10_control.proofs.Recordings.{Last, last_held}
use Rattle.r10_machine.specs.Says.{MediumSays}
use Rattle.r10_volume.specs.Settling.{IsSettled, SaysAs}
use Rattle.r10_refinement.proofs.SafeCalls.{refused_safely, shown_safely}
use Rattle.r10_refinement.proofs.Keeping.{safe_says}
use Rattle.r10_refinement.specs.PowerLossInCalls.{IsEither, Makes, StaysSafe}
use Rattle.r10_refinement.specs.Quiet.{IsNoFailure, may_make}
use Rattle.r10_refinement.specs.Safe.{IsSafe, SaysLast}
use Rattle.r10_volume.proofs.Turning.{own_bytes}

-- ---- by the files that a call makes

-- the file that is recorded has the bytes in an image that it has in another
abbrev LastKeeps : Work → List File → Image → Image → Type 0
LastKeeps unmounted files shown image = Unit {0}
LastKeeps (idle chain) files shown image = Unit {0}
LastKeeps (recording chain o) files shown image = IfSome (last_or None files) (λ (f : File). bytes_from image f.first_block f.size ≡ bytes_from shown f.first_block f.size)
LastKeeps failed files shown image = Unit {0}

-- an image says these files, and of the one that is recorded it has the bytes that another has
pub record IsAsShown (s : Config) (work : Work) (files : List File) (shown image : Image) : Type 0 where
  pub says : MediumSays s image files
  pub bytes : LastKeeps work files shown image

-- of each machine that is represented, and whose files are safe: at every moment a power loss leaves these files, or those that
-- the call makes of them
abbrev pub LeavesShown : (Machine → Image → Type 0) → Kept → Disk → Disk → Type 0
LeavesShown makes k old new = (m : Machine) → KeptStandsFor k old.blocks old.failures m → IsSafe k.config k.work m.files old → Leaves (λ image. IsAsShown k.config k.work m.files old.blocks image ⊎ makes m image) old new

-- a call makes no other files
abbrev pub none_made : Machine → Image → Type 0
none_made m image = ⊥

as_shown : (s : Config) (work : Work) (files : List File) (disk : Disk) → IsSafe s work files disk → Settled (IsAsShown s work files disk.blocks) disk
as_shown s unmounted files disk safe = λ image may. record { says = safe image may; bytes = tt }
as_shown s (idle chain) files disk safe = λ image may. record { says = safe_says s (idle chain) files disk safe image may; bytes = tt }
as_shown s (recording chain o) files disk safe = λ image may. record { says = (safe image may).says; bytes = (safe image may).bytes }
as_shown s failed files disk safe = absurd safe

-- the file that is recorded is the last
kept_last : (s : Config) (chain : List ChainBlock) (o : OpenState) (front : List File) (f : File) (shown image : Image) → IsAsShown s (recording chain o) (front ++ f ∷ []) shown image → Keeps s front f shown image
kept_last s chain o front f shown image as_shown = record {
  says = as_shown.says;
  bytes = subst (λ (x : Option File). IfSome x (λ (g : File). bytes_from image g.first_block g.size ≡ bytes_from shown g.first_block g.size)) (append_last None front f) as_shown.bytes;
}

shown_last : (s : Config) (chain : List ChainBlock) (o : OpenState) (front : List File) (f : File) (shown image : Image) → Keeps s front f shown image → IsAsShown s (recording chain o) (front ++ f ∷ []) shown image
shown_last s chain o front f shown image keeps = record {
  says = keeps.says;
  bytes = subst (λ (x : Option File). IfSome x (λ (g : File). bytes_from image g.first_block g.size ≡ bytes_from shown g.first_block g.size)) (sym (append_last None front f)) keeps.bytes;
}

-- a file is recorded, and its call makes these files of it
pub recorded_becomes : (makes : Machine → Image → Type 0) (k : Kept) (old new : Disk) (chain : List ChainBlock) (o : OpenState) → k.work ≡ recording chain o
    → ((m : Machine) (front : List File) (f : File) → KeptStandsFor k old.blocks old.failures m → m.files ≡ front ++ f ∷ [] → HoldsFiles k.config old.blocks chain (Some o) (front ++ f ∷ []) → StopKeepsFiles k.config front f old
    → Leaves (λ image. Keeps k.config front f old.blocks image ⊎ makes m image) old new)
    → LeavesShown makes k old new
recorded_becomes makes k old new chain o at leaves m means safe =
    let held : HoldsFiles k.config old.blocks chain (Some o) m.files = subst (λ (x : Work). HasFiles k.config x old.blocks m.files) at means.files in
    let last : Last m.files = last_held k.config old.blocks chain o m.files held in
    let safe_so : Settled (IsAsShown k.config (recording chain o) (last.front ++ last.file ∷ []) old.blocks) old =
    subst (λ (l : List File). Settled (IsAsShown k.config (recording chain o) l old.blocks) old) last.is (as_shown k.config (recording chain o) m.files old (subst (λ (x : Work). IsSafe k.config x m.files old) at safe)) in
    subst (λ (x : Work). Leaves (λ image. IsAsShown k.config x m.files old.blocks image ⊎ makes m image) old new) (sym at)
    (subst (λ (l : List File). Leaves (λ image. IsAsShown k.config (recording chain o) l old.blocks image ⊎ makes m image) old new) (sym last.is)
    (weakened (λ image. Keeps k.config last.front last.file old.blocks image ⊎ makes m image)
    (λ image. IsAsShown k.config (recording chain o) (last.front ++ last.file ∷ []) old.blocks image ⊎ makes m image) old new
    (λ image. ⊎_elim (λ keeps. inl (shown_last k.config chain o last.front last.file old.blocks image keeps)) (λ made. inr made))
    (leaves m last.front last.file means last.is (subst (λ (l : List File). HoldsFiles k.config old.blocks chain (Some o) l) last.is held) (λ image may. kept_last k.config chain o last.front last.file old.blocks image (safe_so image may)))))

-- and its call makes no others
pub recorded_leaves : (k : Kept) (old new : Disk) (chain : List ChainBlock) (o : OpenState) → k.work ≡ recording chain o
    → ((front : List File) (f : File) → HoldsFiles k.config old.blocks chain (Some o) (front ++ f ∷ []) → StaysKept k.config front f old new) → LeavesShown none_made k old new
recorded_leaves k old new chain o at stays =
    recorded_becomes none_made k old new chain o at (λ m front f means is held kept. weakened (Keeps k.config front f old.blocks) (λ image. Keeps k.config front f old.blocks image ⊎ none_made m image) old new (λ image keeps. inl keeps) (stays front f held kept))

-- a directory is in use, and a call on it makes these files
pub idle_becomes : (makes : Machine → Image → Type 0) (k : Kept) (old new : Disk) (chain : List ChainBlock) → k.work ≡ idle chain
    → ((m : Machine) → KeptStandsFor k old.blocks old.failures m → HoldsFiles k.config old.blocks chain None m.files → Settled (λ image. MediumSays k.config image m.files) old → Leaves (λ image. MediumSays k.config image m.files ⊎ makes m image) old new)
    → LeavesShown makes k old new
idle_becomes makes k old new chain at leaves m means safe =
    subst (λ (x : Work). Leaves (λ image. IsAsShown k.config x m.files old.blocks image ⊎ makes m image) old new) (sym at)
    (weakened (λ image. MediumSays k.config image m.files ⊎ makes m image) (λ image. IsAsShown k.config (idle chain) m.files old.blocks image ⊎ makes m image) old new
    (λ image. ⊎_elim (λ says. inl (record { says = says; bytes = tt })) (λ made. inr made))
    (leaves m means (holds_of k.config k.work chain old.blocks m.files at means.files) (safe_says k.config k.work m.files old safe)))

-- and makes no others
pub idle_leaves : (k : Kept) (old new : Disk) (chain : List ChainBlock) → k.work ≡ idle chain
    → ((files : List File) → HoldsFiles k.config old.blocks chain None files → Settled (λ image. MediumSays k.config image files) old → Leaves (λ image. MediumSays k.config image files) old new) → LeavesShown none_made k old new
idle_leaves k old new chain at leaves =
    idle_becomes none_made k old new chain at (λ m means held settled. weakened (λ image. MediumSays k.config image m.files) (λ image. MediumSays k.config image m.files ⊎ none_made m image) old new (λ image says. inl says) (leaves m.files held settled))

-- nothing is in use
pub unmounted_leaves : (k : Kept) (old new : Disk) → k.work ≡ unmounted
    → ((files : List File) → Settled (λ image. MediumSays k.config image files) old → Leaves (λ image. MediumSays k.config image files) old new) → LeavesShown none_made k old new
unmounted_leaves k old new at leaves m means safe =
    subst (λ (x : Work). Leaves (λ image. IsAsShown k.config x m.files old.blocks image ⊎ none_made m image) old new) (sym at)
    (weakened (λ image. MediumSays k.config image m.files) (λ image. IsAsShown k.config unmounted m.files old.blocks image ⊎ none_made m image) old new
    (λ image says. inl (record { says = says; bytes = tt })) (leaves m.files (safe_says k.config k.work m.files old safe)))

-- ---- by the machine's steps

abbrev pub IsLeftEither : (Machine → Type 0) → Kept → EventValue → Disk → Disk → Type 0
IsLeftEither known k event old new = (m : Machine) → KeptStandsFor k old.blocks old.failures m → known m → IsSafe k.config k.work m.files old → Leaves (IsEither k.config m event) old new

pub either_of : (known : Machine → Type 0) (makes : Machine → Image → Type 0) (k : Kept) (event : EventValue) (old new : Disk) → LeavesShown makes k old new
    → ((m : Machine) (image : Image) → KeptStandsFor k old.blocks old.failures m → known m → makes m image → Makes k.config m event image) → IsLeftEither known k event old new
either_of known makes k event old new leaves gives m means is safe =
    weakened (λ image. IsAsShown k.config k.work m.files old.blocks image ⊎ makes m image) (IsEither k.config m event) old new
    (λ image. ⊎_elim (λ shown. inl shown.says) (λ made. inr (gives m image means is made))) (leaves m means safe)

pub makes_none : (known : Machine → Type 0) (k : Kept) (event : EventValue) (old new : Disk) → LeavesShown none_made k old new → IsLeftEither known k event old new
makes_none known k event old new leaves = either_of known none_made k event old new leaves (λ m image means is none. absurd none)

-- what a step makes
pub made_of : (known : Machine → Type 0) (k : Kept) (event : EventValue) (old new : Disk) → LeavesShown (λ m. Makes k.config m event) k old new → IsLeftEither known k event old new
made_of known k event old new leaves = either_of known (λ m. Makes k.config m event) k event old new leaves (λ m image means is made. made)

-- a call is refused, and the medium is the same
pub refused_same : {M : Type 0} (disk : M → Disk) (known : Machine → Type 0) (k later : Kept) (event : EventValue) (r : Refusal) (medium medium' : M) → later.config ≡ k.config → medium' ≡ medium → StaysSafe known k event (Refused r) (disk medium) later (disk medium')
refused_same disk known k later event r medium medium' config same =
    refused_safely known k later event r (disk medium) (disk medium') config (subst (λ (x : _). Unchanged (disk medium) (disk x)) (sym same) (unchanged (disk medium)))

-- ---- the calls that show no more: the file that is recorded goes on

last_says : (s : Config) (chain : List ChainBlock) (o : OpenState) (files : List File) (shown image : Image) → IsAsShown s (recording chain o) files shown image → SaysLast s files shown image
last_says s chain o files shown image is = record { says = is.says; bytes = is.bytes }

pub goes_on_safely : (known : Machine → Type 0) (k later : Kept) (event : EventValue) (reply : ReplyValue) (old new : Disk) (chain made : List ChainBlock) (o p : OpenState) → k.work ≡ recording chain o → later.work ≡ recording made p
    → later.config ≡ k.config → may_make event ≡ false → IsNoFailure reply → LeavesShown none_made k old new → StaysSafe known k event reply old later new
goes_on_safely known k later event reply old new chain made o p at then config plain fine leaves =
    shown_safely known k later event reply old new chain made o p at then config plain fine (λ m means settled.
    let safe : IsSafe k.config k.work m.files old = subst (λ (x : Work). IsSafe k.config x m.files old) (sym at) settled in
    let left : Leaves (λ image. IsAsShown k.config (recording chain o) m.files old.blocks image ⊎ none_made m image) old new =
    subst (λ (x : Work). Leaves (λ image. IsAsShown k.config x m.files old.blocks image ⊎ none_made m image) old new) at (leaves m means safe) in
    weakened (λ image. IsAsShown k.config (recording chain o) m.files old.blocks image ⊎ none_made m image) (SaysLast k.config m.files old.blocks) old new
    (λ image. ⊎_elim (λ is. last_says k.config chain o m.files old.blocks image is) (λ none. absurd none)) left)

-- ---- a seal

pub settled_idle : (s : Config) (chain : List ChainBlock) (files : List File) (disk : Disk) → IsSafe s (idle chain) files disk → IsSettled s files disk
settled_idle s chain files disk (synced, says) = λ image may. subst (SaysAs s files disk.blocks) (sym (one_image disk synced image may)) (record { says = says; bytes = own_bytes disk.blocks files })
