-- Which directory a recorder mounts, and what it answers where it mounts none.
use Rattle.std.specs.Prelude.{◌≡◌, ℕ, List, length, None, Some, Result, MatchResult}
use Rattle.r10_count.specs.Checks.{first_broken}
use Rattle.r10_medium.specs.Disk.{Disk, Image, Unchanged}
use Rattle.r10_dirchain.specs.Bad.{IsBad}
use Rattle.r10_dirchain.specs.Chain.{IsDirectory}
use Rattle.r10_dirchain.specs.Mount.{mount_rules}
use Rattle.r10_dirchain.specs.Steps.{with_shutdown}
use Rattle.r10_dirchain.specs.declared.chain.ChainBlock.{ChainBlock}
use Rattle.r10_dirchain.specs.declared.read.ChainError.{ChainError}
use Rattle.r10_dirchain.specs.declared.read.ChainError.TheVariants.{BadDirectory, Medium, OutOfMemory}

-- the medium has this directory, and a recorder with so many reserved blocks can take it into use
pub record IsUsable (reserved : ℕ) (image : Image) (chain : List ChainBlock) : Type 0 where
  pub directory : IsDirectory image chain
  pub rules : first_broken (mount_rules reserved (length image) chain) ≡ None

-- this is the first block that the directory's chain can't take, or that a recorder can't use in it
pub data IsUnusable (reserved : ℕ) (image : Image) (n : ℕ) : Type 0 where
  not_taken : IsBad image n → IsUnusable reserved image n
  not_used : (chain : List ChainBlock) → IsDirectory image chain → first_broken (mount_rules reserved (length image) chain) ≡ Some n
      → IsUnusable reserved image n

-- the medium's directory was usable, and this is it, not properly dismounted
pub record IsMounted (reserved : ℕ) (image : Image) (made : List ChainBlock) : Type 0 where
  pub chain : List ChainBlock
  pub usable : IsUsable reserved image chain
  pub made_is : made ≡ with_shutdown 0x00 chain

-- what an error says of the medium
abbrev pub IsMountError : ℕ → Image → ChainError → Type 0
IsMountError reserved image (BadDirectory n) = IsUnusable reserved image n
IsMountError reserved image Medium = Unit {0}
IsMountError reserved image OutOfMemory = Unit {0}

-- where the directory is named, it is by this block
abbrev pub NamesBlock : ℕ → ChainError → Type 0
NamesBlock n (BadDirectory m) = m ≡ n
NamesBlock n Medium = Unit {0}
NamesBlock n OutOfMemory = Unit {0}

-- A medium can't be used, because of this block: an error that names a block names this one, and nothing is written, also
-- where the medium fails.
pub record IsSpared {T : Type 0} (n : ℕ) (old new : Disk) (result : Result T ChainError) : Type 0 where
  pub named : MatchResult result (λ _. ⊥) (NamesBlock n)
  pub same : Unchanged old new

-- the medium is as it was, where it did not fail
abbrev pub IsLeftAsWas : Disk → Disk → ChainError → Type 0
IsLeftAsWas old new Medium = Unit {0}
IsLeftAsWas old new (BadDirectory n) = Unchanged old new
IsLeftAsWas old new OutOfMemory = Unchanged old new
