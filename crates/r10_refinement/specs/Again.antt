-- Files as a new recorder finds them on a medium that says them.
use Rattle.std.specs.Prelude.{◌≡◌, ℕ, false, List, [], ◌∷◌, length}
use Rattle.r10_body.specs.Files.{on_channel}
use Rattle.r10_machine.specs.Config.{Config}
use Rattle.r10_machine.specs.Machine.{File, shown_entries}
use Rattle.r10_medium.specs.Disk.{Image}
use Rattle.r10_machine.specs.Says.{MediumHas}

-- the same file, of which another recorder finds what it showed: on each channel the same entries, in order
pub record IsAgain (f again : File) : Type 0 where
  pub name : again.name ≡ f.name
  pub setup : again.setup ≡ f.setup
  pub first_block : again.first_block ≡ f.first_block
  pub size : again.size ≡ f.size
  pub closed : again.closed ≡ f.closed
  pub entries : (channel : ℕ) → on_channel channel again.entries ≡ on_channel channel (shown_entries f)
  pub shown : again.shown ≡ length again.entries
  pub own : again.own ≡ false

abbrev pub AreAgain : List File → List File → Type 0
AreAgain [] [] = Unit {0}
AreAgain (f ∷ files) (again ∷ others) = IsAgain f again × AreAgain files others
AreAgain files others = ⊥

-- a new recorder finds these files on the image
pub record FindsAgain (s : Config) (image : Image) (files : List File) : Type 0 where
  pub again : List File
  pub has : MediumHas s image again
  pub same : AreAgain files again
