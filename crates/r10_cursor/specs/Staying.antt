-- When what is known of files stays.
use Rattle.std.specs.Prelude.{◌≡◌, ◌≤◌, List, ◌∷◌, ◌++◌}
use Rattle.std.specs.List.{AllByRecursion}
use Rattle.r10_medium.specs.Disk.{Image}
use Rattle.r10_dirblock.specs.declared.entry.Entry.{Entry as DirectoryEntry}
use Rattle.r10_machine.specs.Machine.{File}
use Rattle.r10_cursor.specs.Files.{bytes_in}

-- each file has the bytes in the new image that its directory entry tells of in the old one
abbrev pub KeepListed : Image → Image → List DirectoryEntry → Type 0
KeepListed old new entries = AllByRecursion (λ e. bytes_in new e ≡ bytes_in old e) entries

-- the files keep their bytes and directory entries, and others may have come after them
pub record Stay (old new : Image) (entries later : List DirectoryEntry) : Type 0 where
  pub more : List DirectoryEntry
  pub entries_stay : later ≡ entries ++ more
  pub bytes_stay : KeepListed old new entries

-- no file of the machine has fewer bytes
abbrev pub NoneShrinks : List File → List File → Type 0
NoneShrinks (f ∷ files) (g ∷ later) = (f.size ≤ g.size) × NoneShrinks files later
NoneShrinks files later = Unit {0}
