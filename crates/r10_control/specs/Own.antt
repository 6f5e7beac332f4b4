-- The entries of the files that a recorder began, whatever other files its medium has.
use Rattle.std.specs.Prelude.{◌≡◌, ◌⊎◌, ◌≤◌, ℕ, List, [], ◌∷◌, ◌++◌, Option, None, Some, drop, length}
use Rattle.std.specs.List.{AllByRecursion}
use Rattle.r10_body.specs.Files.{on_channel}
use Rattle.r10_body.specs.declared.entry.Entry.{Entry}
use Rattle.r10_body.specs.declared.spec.ChannelSpec.{ChannelSpec}
use Rattle.r10_dirblock.specs.declared.entry.Entry.{Entry as DirectoryEntry}
use Rattle.r10_dirchain.specs.Chain.{IsDirectory, listed_files}
use Rattle.r10_dirchain.specs.declared.chain.ChainBlock.{ChainBlock}
use Rattle.r10_refinement.specs.KeptState.{Kept, Work, unmounted, idle, recording, failed}
use Rattle.r10_medium.specs.Disk.{Image}
use Rattle.r10_openfile.specs.Carrying.{IsEnded, IsShown}
use Rattle.r10_openfile.specs.Keeping.{ended_in}
use Rattle.r10_volume.specs.Holding.{OpenState}

-- ---- which they are

-- each of these listed files is a closed file, and they have these entries, file after file
abbrev pub AreEnded : Image → List DirectoryEntry → List Entry → Type 0
AreEnded image [] own = own ≡ []
AreEnded image (e ∷ listed) own = (text : List ℕ) × (here : List Entry) × (rest : List Entry) × (own ≡ here ++ rest)
    × IsEnded image e text here × AreEnded image listed rest

-- the files that were found are listed first, so many; each after them is closed, and they have these entries
pub record EndAfter (found : Option ℕ) (image : Image) (listed : List DirectoryEntry) (own : List Entry) : Type 0 where
  pub number : ℕ
  pub found_is : found ≡ Some number
  pub within : number ≤ length listed
  pub ended : AreEnded image (drop number listed) own

-- the last of them are in the file that is recorded, which carries them
pub record EndOpen (found : Option ℕ) (image : Image) (chain : List ChainBlock) (o : OpenState) (own : List Entry) : Type 0 where
  pub ended : List Entry
  pub now : List Entry
  pub own_is : own ≡ ended ++ now
  pub before : EndAfter found image (ended_in chain) ended
  pub text : List ℕ
  pub shown : ℕ
  pub shows : IsShown image o text now shown

-- by what the recorder does: before its first mount none is its own, and of one that failed nothing is stated
abbrev pub OwnIn : Option ℕ → Work → Image → List Entry → Type 0
OwnIn found unmounted image own = ((found ≡ None) × (own ≡ []))
    ⊎ ((chain : List ChainBlock) × IsDirectory image chain × EndAfter found image (listed_files chain) own)
OwnIn found (idle chain) image own = EndAfter found image (listed_files chain) own
OwnIn found (recording chain o) image own = EndOpen found image chain o own
OwnIn found failed image own = ⊥

-- over the medium, the recorder's own files, which are all that are listed after those that were found, have these entries
abbrev pub AreOwn : Kept → Image → List Entry → Type 0
AreOwn k image own = OwnIn k.found k.work image own

-- ---- what a call does to them

-- the recorder failed, or whatever entries its own files had, they have them then, and these after them
abbrev pub OwnGrow : Kept → Image → Kept → Image → List Entry → Type 0
OwnGrow k old later new more = (later.work ≡ failed) ⊎ ((own : List Entry) → AreOwn k old own → AreOwn later new (own ++ more))

-- and none of these is of a channel of the settings: they are times and events
pub record OwnStay (k : Kept) (old : Image) (later : Kept) (new : Image) : Type 0 where
  pub more : List Entry
  pub own : OwnGrow k old later new more
  pub others : AllByRecursion (λ (spec : ChannelSpec). on_channel spec.id more ≡ []) k.config.channels
