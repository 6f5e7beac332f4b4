-- A last file that was left open is set aside: its directory entry is closed as it is, and nothing else changes.
use Rattle.std.specs.Prelude.{◌≡◌, ℕ, Bool, true, false, cond, List, [], ◌∷◌, IfOk, OnOk, Result}
use Rattle.r10_medium.specs.Disk.{Disk, Image, Unchanged}
use Rattle.r10_dirblock.specs.declared.entry.Entry.{Entry}
use Rattle.r10_dirchain.specs.Chain.{at, listed_files}
use Rattle.r10_dirchain.specs.OnMedium.{IsPublished, Turns}
use Rattle.r10_dirchain.specs.Steps.{last_listed, last_listing, updated}
use Rattle.r10_dirchain.specs.declared.chain.ChainBlock.{ChainBlock}
use Rattle.r10_volume.specs.Listing.{is_last_closed}
use Rattle.r10_volume.specs.Mounting.{IsUsable}

-- eight nines, a close time that no clock gives
abbrev pub nines : List ℕ
nines = 0x39 ∷ 0x39 ∷ 0x39 ∷ 0x39 ∷ 0x39 ∷ 0x39 ∷ 0x39 ∷ 0x39 ∷ []

-- a file's entry, closed as it is: name, blocks, bytes and times of its start stay
abbrev pub closed_as_is : Entry → Entry
closed_as_is e = record e { close_time = nines }

-- the directory whose last file is closed so
abbrev pub with_last_aside : List ChainBlock → List ChainBlock
with_last_aside chain = updated (closed_as_is (last_listed chain)) chain

-- The last file of this directory is set aside: one block of the directory is written, and synced at Ok. At every moment the
-- medium has the old directory or the one whose last file is closed as it is, and each other block as it was.
pub record SetsAside {E : Type 0} (chain : List ChainBlock) (old new : Disk) (result : Result Bool E) : Type 0 where
  pub answer : IfOk result (λ was_open. was_open ≡ true)
  pub turns : Turns chain (with_last_aside chain) [] ((at chain (last_listing chain)).number ∷ []) old new result
  pub synced : OnOk result (IsPublished (with_last_aside chain) new)

-- no file was left open: the answer is false, and the medium is as it was
pub record FindsNoneOpen {E : Type 0} (old new : Disk) (result : Result Bool E) : Type 0 where
  pub answer : IfOk result (λ was_open. was_open ≡ false)
  pub same : Unchanged old new

-- what the call does, by whether the last file was left open
abbrev pub SetsAsideLast : {E : Type 0} → List ChainBlock → Disk → Disk → Result Bool E → Type 0
SetsAsideLast chain old new result = cond (is_last_closed (listed_files chain)) (FindsNoneOpen old new result)
    (SetsAside chain old new result)

-- a recorder can use the medium's directory, and its last file is closed: one more can be begun
pub record IsLastFileClosed (reserved : ℕ) (image : Image) : Type 0 where
  pub chain : List ChainBlock
  pub usable : IsUsable reserved image chain
  pub closed : is_last_closed (listed_files chain) ≡ true
