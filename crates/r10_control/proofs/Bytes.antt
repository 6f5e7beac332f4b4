-- What a recorder's work says of the medium's files.
use Rattle.std.proofs.Common.{◌≡◌, ℕ, List, [], ◌∷◌, ◌++◌, None, Some, sym, subst, ◌∙◌}
use Rattle.r10_blockout.specs.Blocks.{bytes_from}
use Rattle.r10_dirblock.specs.declared.entry.Entry.{Entry as DirectoryEntry}
use Rattle.r10_dirchain.specs.Chain.{listed_files}
use Rattle.r10_dirchain.proofs.Unique.{one_directory}
use Rattle.r10_dirchain.specs.declared.chain.ChainBlock.{ChainBlock}
use Rattle.r10_volume.specs.Holding.{HoldsFiles, OpenState}
use Rattle.r10_machine.specs.Config.{Config}
use Rattle.r10_body.specs.declared.entry.Entry.{Entry}
use Rattle.r10_machine.specs.Machine.{File, with_entries}
use Rattle.r10_refinement.specs.KeptState.{Kept, Work, unmounted, idle, recording}
use Rattle.r10_refinement.specs.Means.{HasFiles}
use Rattle.r10_medium.specs.Disk.{Image, IsWhole}
use Rattle.r10_cursor.specs.Staying.{KeepListed}
use Rattle.r10_control.specs.Leading.{MachinesKeepShown}
use Rattle.r10_control.proofs.Recordings.{Last, last_held}
use Rattle.r10_control.proofs.Staying.{listed_keep}
use Rattle.r10_machine.specs.Bytes.{KeepBytes}
use Rattle.r10_machine.specs.Says.{MediumSays, SaysEach}
use Rattle.r10_volume.specs.Front.{KeepsFront}
use Rattle.r10_volume.specs.Listing.{block_behind}
use Rattle.r10_volume.specs.Mounting.{IsUsable}

-- nothing is in use
pub says_of : (s : Config) (w : Work) (image : Image) (files : List File) → w ≡ unmounted → HasFiles s w image files → MediumSays s image files
says_of s w image files is has = (subst (λ (x : Work). HasFiles s x image files) is has).0

-- a directory is in use
pub holds_of : (s : Config) (w : Work) (chain : List ChainBlock) (image : Image) (files : List File) → w ≡ idle chain → HasFiles s w image files → HoldsFiles s image chain None files
holds_of s w chain image files is has = subst (λ (x : Work). HasFiles s x image files) is has

-- the bytes of files are those of their entries
each_keeps : (old new : Image) (entries : List DirectoryEntry) (files : List File) → SaysEach old entries files → KeepListed old new entries → KeepBytes old new files
each_keeps old new [] [] each keeps = tt
each_keeps old new [] (f ∷ files) each keeps = absurd each
each_keeps old new (e ∷ entries) [] each keeps = absurd each
each_keeps old new (e ∷ entries) (f ∷ files) each keeps = (same e.first_block f.first_block e.size f.size each.0.first_block each.0.size keeps.0, each_keeps old new entries files each.2 keeps.1)
  where
    same : (n m size length : ℕ) → n ≡ m → size ≡ length → bytes_from new n size ≡ bytes_from old n size → bytes_from new m length ≡ bytes_from old m length
    same n m size length at long is = subst (λ (k : ℕ). bytes_from new m k ≡ bytes_from old m k) long (subst (λ (k : ℕ). bytes_from new k size ≡ bytes_from old k size) at is)

-- a file is put after the others
pub kept_behind : (s : Config) (old new : Image) (chain : List ChainBlock) (files : List File) → IsWhole old → IsUsable s.directory old chain → KeepsFront s.directory (block_behind s.directory (listed_files chain)) old new → HoldsFiles s old chain None files
    → KeepBytes old new files
kept_behind s old new chain files whole usable same held =
    each_keeps old new (listed_files chain) files
    (subst (λ (c : List ChainBlock). SaysEach old (listed_files c) files) (one_directory old held.says.chain chain held.says.directory held.directory) held.says.each)
    (listed_keep s.directory old new chain whole usable same)

-- a file is recorded, and its calls leave the bytes of all files
pub kept_recorded : (k : Kept) (old new : Image) (before : ℕ) (chain : List ChainBlock) (o : OpenState) → k.work ≡ recording chain o
    → ((files : List File) (f : File) → HoldsFiles k.config old chain (Some o) (files ++ f ∷ []) → KeepBytes old new (files ++ f ∷ [])) → MachinesKeepShown k old before new
kept_recorded k old new before chain o at keeps m means =
    let held : HoldsFiles k.config old chain (Some o) m.files = subst (λ (x : Work). HasFiles k.config x old m.files) at means.files in
    let last : Last m.files = last_held k.config old chain o m.files held in
    subst (λ (l : List File). KeepBytes old new l) (sym last.is) (keeps last.front last.file (subst (λ (l : List File). HoldsFiles k.config old chain (Some o) l) last.is held))

-- and entries that the last file took in change none of its bytes
pub kept_through : (old mid new : Image) (files : List File) (f : File) (more : List Entry) → KeepBytes old mid (files ++ f ∷ []) → KeepBytes mid new (files ++ with_entries more f ∷ []) → KeepBytes old new (files ++ f ∷ [])
kept_through old mid new [] f more (here, none) (there, nothing) = (there ∙ here, tt)
kept_through old mid new (x ∷ files) f more (here, keep) (there, keeps) = (there ∙ here, kept_through old mid new files f more keep keeps)
