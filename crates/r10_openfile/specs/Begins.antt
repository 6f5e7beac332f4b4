-- What a call does that begins a file after those that a directory lists.
use Rattle.std.specs.Prelude.{◌≡◌, ◌≤◌, ◌+◌, ◌*◌, ◌⊎◌, ℕ, List, [], ◌∷◌, ◌++◌, length, None, Some, Result, IfErr, IfOk, MatchResult}
use Rattle.std.specs.List.{AllByRecursion}
use Rattle.r10_blockout.specs.Output.{first_of, size_of}
use Rattle.r10_builder.specs.Grows.{all_held}
use Rattle.r10_builder.specs.Settings.{specs_of}
use Rattle.r10_builder.specs.State.{BuilderState, HasRoomForTwo}
use Rattle.r10_count.specs.declared.civil.Parts.{Parts}
use Rattle.r10_dirblock.specs.Block.{begun_entry, sized}
use Rattle.r10_dirchain.specs.Chain.{listed_files}
use Rattle.r10_dirchain.specs.OnMedium.{IsPublished}
use Rattle.r10_dirchain.specs.Steps.{added}
use Rattle.r10_dirchain.specs.declared.chain.ChainBlock.{ChainBlock}
use Rattle.r10_machine.specs.Calls.{empty_file}
use Rattle.r10_machine.specs.Config.{Config}
use Rattle.r10_machine.specs.Machine.{File}
use Rattle.r10_machine.specs.Room.{fits}
use Rattle.r10_machine.specs.Says.{MediumSays}
use Rattle.r10_medium.specs.Disk.{Disk, Image}
use Rattle.r10_medium.specs.PowerLoss.{Leaves, Settled}
use Rattle.r10_mux.specs.Begun.{begun_recording}
use Rattle.r10_openfile.specs.Carrying.{IsShown}
use Rattle.r10_openfile.specs.Keeping.{MayGoOn, StopKeepsFiles}
use Rattle.r10_openfile.specs.Starting.{IsListedBehind, begins_within, begun_file}
use Rattle.r10_packetout.specs.Carries.{time_entry_at}
use Rattle.r10_volume.specs.Front.{KeepsFront}
use Rattle.r10_volume.specs.Holding.{HoldsFiles, OpenState}
use Rattle.r10_volume.specs.Listing.{block_behind}
use Rattle.r10_volume.specs.Mounting.{IsUsable}

-- After an Ok the files that there were are held with this one after them, and a power loss leaves them so. Where the medium fails,
-- and at every moment, it says the files that there were, or those with this one.
-- The machine's own test of room is the call's, where these are its files.
pub record BeginsFile {E : Type 0} (s : Config) (name text : List ℕ) (count : ℕ) (civil : Parts) (chain : List ChainBlock)
    (old : Disk) (chain' : List ChainBlock) (new : Disk) (result : Result OpenState E) : Type 0 where
  pub holds : (files : List File) → HoldsFiles s old.blocks chain None files
      → IfOk result (λ (file : OpenState). HoldsFiles s new.blocks chain' (Some file)
      (files ++ begun_file s files name text count civil ∷ []))
  pub failed : (files : List File) → HoldsFiles s old.blocks chain None files
      → IfErr result (λ _. MediumSays s new.blocks files
      ⊎ MediumSays s new.blocks (files ++ begun_file s files name text count civil ∷ []))
  pub moments : (files : List File) → HoldsFiles s old.blocks chain None files → Settled (λ image. MediumSays s image files) old
      → Leaves (λ image. MediumSays s image files ⊎ MediumSays s image (files ++ begun_file s files name text count civil ∷ [])) old
      new
  pub settled : (files : List File) → HoldsFiles s old.blocks chain None files
      → IfOk result (λ _. StopKeepsFiles s files (begun_file s files name text count civil) new)
  pub fits : (files : List File) → HoldsFiles s old.blocks chain None files
      → fits s (empty_file s files name text) (time_entry_at s.time count civil) ≡ begins_within s
      (listed_files chain) text count civil

-- Whatever files there are: the file has a setup text and a time, both shown, and nothing open, and it goes on over the
-- directory that lists it. Its channels are those that were given, with memory for two packets of each.
pub record HasBegun (s : Config) (text : List ℕ) (count : ℕ) (civil : Parts) (builders : List BuilderState)
    (chain chain' : List ChainBlock) (image : Image) (file : OpenState) : Type 0 where
  pub is : file.recording ≡ begun_recording s.time s.event file.recording.builders file.recording.out text count civil
  pub on : MayGoOn file image chain'
  pub again : AllByRecursion HasRoomForTwo file.recording.builders
  pub specs : specs_of file.recording.builders ≡ specs_of builders
  pub none : all_held file.recording.builders ≡ []
  pub shown : file.shown ≡ length file.recording.out.entries
  pub carries : IsShown image file text (time_entry_at s.time count civil ∷ []) 1
  pub first : first_of file.recording.out.blocks ≡ block_behind s.directory (listed_files chain)
  pub cost : 512 * first_of file.recording.out.blocks + file.recording.cost ≤ 512 * s.blocks

-- After an Ok one file more is listed, with this name, first block and time of creation, and as many blocks as its bytes need,
-- and a power loss leaves the directory so; else it is as it was. Of the blocks in front of the file only the
-- directory's are written.
pub record ListsBegun {E : Type 0} (s : Config) (name : List ℕ) (civil : Parts) (chain : List ChainBlock) (old : Disk)
    (chain' : List ChainBlock) (new : Disk) (result : Result OpenState E) : Type 0 where
  pub listed : IfOk result (λ (file : OpenState). IsListedBehind (listed_files chain) (listed_files chain')
      (first_of file.recording.out.blocks))
  pub front : KeepsFront s.directory (block_behind s.directory (listed_files chain)) old.blocks new.blocks
  pub usable : IfOk result (λ _. IsUsable s.directory new.blocks chain')
  pub durable : IfOk result (λ _. IsPublished chain' new)
  pub directory : MatchResult result (λ (file : OpenState). chain' ≡ added
      (sized (size_of file.recording.out.blocks) (begun_entry name (first_of file.recording.out.blocks) civil)) chain)
      (λ _. chain' ≡ chain)
