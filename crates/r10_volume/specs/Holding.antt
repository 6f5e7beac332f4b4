-- What a recorder holds of a medium that it uses: the directory, the files, and the file that it writes.
use Rattle.std.specs.Prelude.{◌≡◌, ◌≤◌, ℕ, false, true, List, length, take, Option, None, IfSome, IsSomeAnd}
use Rattle.std.specs.List.{AllByRecursion, last_or}
use Rattle.r10_blockout.specs.Blocks.{Shows}
use Rattle.r10_blockout.specs.Output.{first_of}
use Rattle.r10_medium.specs.Disk.{Image}
use Rattle.r10_body.specs.Packets.{file_bytes}
use Rattle.r10_body.specs.declared.entry.Entry.{Entry}
use Rattle.r10_packetout.specs.Carries.{Records, Recording}
use Rattle.r10_machine.specs.Cuts.{Cut}
use Rattle.r10_dirchain.specs.Chain.{IsDirectory}
use Rattle.r10_dirchain.specs.declared.chain.ChainBlock.{ChainBlock}
use Rattle.r10_machine.specs.Config.{Config}
use Rattle.r10_machine.specs.Machine.{File}
use Rattle.r10_machine.specs.Says.{IsFound, MediumSays}

-- the file that is written, and how many of its packets the medium shows
pub record OpenState : Type 0 where
  pub recording : Recording
  pub shown : ℕ

-- Whatever files the medium has: over the image the file carries this setup and these entries, and the first of its packets,
-- as many as are shown, stand there.
pub record IsCarried (image : Image) (o : OpenState) (text : List ℕ) (entries : List Entry) : Type 0 where
  pub carries : Records o.recording image text entries
  pub within : o.shown ≤ length carries.packets
  pub stands : Shows image (first_of o.recording.out.blocks) (file_bytes (take o.shown carries.packets))

-- Over the image the file carries its setup and entries; its first packets, so many, are what the medium shows of it: they
-- stand there, and on each channel they say the entries that it shows.
pub record IsWritten (s : Config) (image : Image) (o : OpenState) (f : File) : Type 0 where
  pub time : o.recording.time ≡ s.time
  pub event : o.recording.event ≡ s.event
  pub first : first_of o.recording.out.blocks ≡ f.first_block
  pub unclosed : f.closed ≡ false
  pub own : f.own ≡ true
  pub carries : Records o.recording image f.setup f.entries
  pub cut : Cut carries.packets f.entries f.size f.shown
  pub shown : cut.count ≡ o.shown
  pub stands : Shows image f.first_block (file_bytes (take o.shown carries.packets))

-- of the files that another recorder began, the entries are in the order of their packets
abbrev pub OthersAreFound : Image → List File → Type 0
OthersAreFound image files = AllByRecursion (λ (f : File). f.own ≡ false → IsFound image f) files

-- the medium says these files, by this directory, and the last of them is the one that is written, where one is
pub record HoldsFiles (s : Config) (image : Image) (chain : List ChainBlock) (written : Option OpenState)
    (files : List File) : Type 0 where
  pub says : MediumSays s image files
  pub directory : IsDirectory image chain
  pub found : OthersAreFound image files
  pub last : IfSome written (λ o. IsSomeAnd (last_or None files) (IsWritten s image o))
