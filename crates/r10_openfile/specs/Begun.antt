-- A file that was written after all others, before it is listed.
use Rattle.std.specs.Prelude.{◌≡◌, ◌<◌, ℕ, false, true, List, [], ◌++◌, None, length}
use Rattle.r10_medium.specs.Disk.{Image}
use Rattle.r10_medium.specs.PowerLoss.{PutsSome}
use Rattle.r10_blockout.specs.Blocks.{Shows, first_blocks}
use Rattle.r10_blockout.specs.Output.{first_of, size_of}
use Rattle.r10_body.specs.Files.{FileSays}
use Rattle.r10_body.specs.Packets.{file_bytes}
use Rattle.r10_packetout.specs.Carries.{Records, Recording}
use Rattle.r10_dirblock.specs.declared.entry.Entry.{Entry as DirectoryEntry}
use Rattle.r10_dirchain.specs.declared.chain.ChainBlock.{ChainBlock}
use Rattle.r10_builder.specs.Grows.{all_held}
use Rattle.r10_volume.specs.Holding.{HoldsFiles}
use Rattle.r10_machine.specs.Checks.{is_sealed}
use Rattle.r10_machine.specs.Config.{Config}
use Rattle.r10_machine.specs.Machine.{File}
use Rattle.r10_machine.specs.Room.{next_block}
use Rattle.r10_machine.specs.EventChecks.{most_files}
use Rattle.r10_machine.specs.Says.{Lists}

-- some blocks of a file are put over an image, from its first on, each as these bytes and what came after them
pub record IsPut (first : ℕ) (bytes : List ℕ) (old new : Image) : Type 0 where
  pub more : List ℕ
  pub count : ℕ
  pub puts : PutsSome first (first_blocks (bytes ++ more) count) old new

-- after these files the image shows a file with all its packets, and nothing of it is open
pub record IsBegun (s : Config) (image : Image) (files : List File) (r : Recording) (f : File) : Type 0 where
  pub time : r.time ≡ s.time
  pub event : r.event ≡ s.event
  pub first : first_of r.out.blocks ≡ f.first_block
  pub place : f.first_block ≡ next_block s files
  pub size : f.size ≡ size_of r.out.blocks
  pub unclosed : f.closed ≡ false
  pub own : f.own ≡ true
  pub whole : f.shown ≡ length f.entries
  pub none : all_held r.builders ≡ []
  pub carries : Records r image f.setup f.entries
  pub shows : Shows image f.first_block (file_bytes carries.packets)
  pub says : FileSays (file_bytes carries.packets) f.setup f.entries false

-- after these files, which are closed, a file was written whose packets are all carried and nothing of which is open; this
-- entry lists it, and there is a place for it
pub record MayList (s : Config) (image : Image) (chain : List ChainBlock) (files : List File) (r : Recording) (f : File)
    (e : DirectoryEntry) : Type 0 where
  pub held : HoldsFiles s image chain None files
  pub sealed : is_sealed files ≡ true
  pub few : length files < most_files s
  pub time : r.time ≡ s.time
  pub event : r.event ≡ s.event
  pub first : first_of r.out.blocks ≡ f.first_block
  pub place : f.first_block ≡ next_block s files
  pub size : f.size ≡ size_of r.out.blocks
  pub unclosed : f.closed ≡ false
  pub own : f.own ≡ true
  pub whole : f.shown ≡ length f.entries
  pub none : all_held r.builders ≡ []
  pub carries : Records r image f.setup f.entries
  pub lists : Lists f e
