-- What it is to set a last file aside, by the text of a script.
use Rattle.std.specs.Prelude.{ℕ, Bool, List, Ok}
use Rattle.r10_dirchain.specs.declared.chain.ChainBlock.{ChainBlock}
use Rattle.r10_dirchain.specs.declared.read.ChainError.{ChainError}
use Rattle.r10_machine.specs.Config.{Config}
use Rattle.r10_medium.specs.Disk.{Disk, Image}
use Rattle.r10_volume.specs.Mounting.{IsUnusable, IsUsable}
use Rattle.r10_aside.specs.Aside.{IsLastFileClosed, SetsAsideLast}
use Rattle.r10_calls.specs.Opening.{IsSettings}

-- by the script's settings the last file is set aside, and a recorder of them can begin a file then
pub record SetsAsideByScript (text : List ℕ) (was_open : Bool) (old new : Disk) : Type 0 where
  pub settings : Config
  pub is : IsSettings text settings
  pub does : (chain : List ChainBlock) → IsUsable settings.directory old.blocks chain
      → SetsAsideLast {E = ChainError} chain old new (Ok was_open)
  pub closed : IsLastFileClosed settings.directory new.blocks

-- a recorder of the script's settings can't use a block of the medium's directory
abbrev pub HasUnusable : List ℕ → Image → Type 0
HasUnusable text image = (s : Config) × IsSettings text s × (n : ℕ) × IsUnusable s.directory image n
